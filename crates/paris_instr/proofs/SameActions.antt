-- Actions are the same where the derived test says so, if names are.
use denote.RattleType.{RattleType}
use mir.Syntax.{Dict}
use Rattle.std.proofs.Common.{◌≡◌, ℕ, Bool, Option, true, false, refl, ap, rules}
use Rattle.std.proofs.lemmas.Bool.{and_parts, eqb-true, eq-eqb}
use Rattle.std.specs.Prelude.{◌&&◌, ◌==◌}
use Rattle.std.specs.Option.{option_eq}
use Rattle.std.specs.declared.cmp.PartialEq.{Ghosts}
use Rattle.paris_geometry.specs.contracts.direction.DirectionPartialEq.TheImpl as DirectionEq
use Rattle.paris_model.specs.contracts.operators.CombinerPartialEq.TheImpl as CombinerEq
use Rattle.paris_model.specs.contracts.operators.InclusionPartialEq.TheImpl as InclusionEq
use Rattle.paris_model.specs.contracts.actions.ConditionalPartialEq.TheImpl as ConditionalEq
use Rattle.paris_model.specs.contracts.actions.UnconditionalPartialEq.TheImpl as UnconditionalEq
use Rattle.paris_model.specs.contracts.actions.NewsPartialEq.TheImpl as NewsEq
use Rattle.paris_model.specs.contracts.actions.LinePartialEq.TheImpl as LineEq
use Rattle.paris_model.specs.contracts.actions.MailPartialEq.TheImpl as MailEq
use Rattle.paris_model.specs.contracts.actions.ActionPartialEq.TheImpl as ActionEq
use Rattle.paris_geometry.specs.declared.direction.Direction.{Direction}
use Rattle.paris_model.specs.declared.operators.Combiner.{Combiner}
use Rattle.paris_model.specs.declared.operators.Inclusion.{Inclusion}
use Rattle.paris_model.specs.declared.actions.Conditional.TheVariants.{Binary, Unary, MoveConstant, Resize, Compare, MyCoordinate, MyAddress, SetTest, ClearTest, LoadTest, StoreTest}
use Rattle.paris_model.specs.declared.actions.Line.{Line}
use Rattle.paris_model.specs.declared.actions.Line.TheVariants.{Scan, CopyScan, Spread, CopySpread, Reduce}
use Rattle.paris_model.specs.declared.actions.Action.TheVariants.{OnSelected, OnAll, ByNews, AlongLine, ByMail}

-- a test that passes only the same values
abbrev pub IsStrict : {X : Type 0} → (X → X → Bool) → Type 0
IsStrict {X} eq = (x y : X) → eq x y ≡ true → x ≡ y

same_conditional : (F S : RattleType) (f : Ghosts F.Denot) (s : Ghosts S.Denot) (df ds : Dict) → IsStrict f.eq → IsStrict s.eq → IsStrict (ConditionalEq.ghosts F S f df s ds).eq
same_conditional F S f s df ds strict-f strict-s (Binary op D A B L) (Binary op' D' A' B' L') h = search (rules, strict-f)
same_conditional F S f s df ds strict-f strict-s (Unary op D A L) (Unary op' D' A' L') h = search (rules, strict-f)
same_conditional F S f s df ds strict-f strict-s (MoveConstant D K L) (MoveConstant D' K' L') h = search (rules, strict-f)
same_conditional F S f s df ds strict-f strict-s (Resize sign D A L M) (Resize sign' D' A' L' M') h = search (rules, strict-f)
same_conditional F S f s df ds strict-f strict-s (Compare op A B L) (Compare op' A' B' L') h = search (rules, strict-f)
same_conditional F S f s df ds strict-f strict-s (MyCoordinate D X L) (MyCoordinate D' X' L') h = search (rules, strict-f)
same_conditional F S f s df ds strict-f strict-s (MyAddress D L) (MyAddress D' L') h = search (rules, strict-f)
same_conditional F S f s df ds strict-f strict-s (SetTest t) (SetTest t') h = search (rules, strict-s)
same_conditional F S f s df ds strict-f strict-s (ClearTest t) (ClearTest t') h = search (rules, strict-s)
same_conditional F S f s df ds strict-f strict-s (LoadTest G) (LoadTest G') h = search (rules, strict-f)
same_conditional F S f s df ds strict-f strict-s (StoreTest G) (StoreTest G') h = search (rules, strict-f)
same_conditional F S f s df ds strict-f strict-s _ _ h = absurd (let e : false ≡ true = h in cc)

same_unconditional : (F S : RattleType) (f : Ghosts F.Denot) (s : Ghosts S.Denot) (df ds : Dict) → IsStrict f.eq → IsStrict s.eq → IsStrict (UnconditionalEq.ghosts F S f df s ds).eq
same_unconditional F S f s df ds strict-f strict-s a b h = search (rules, strict-f, strict-s)

same_news : (F : RattleType) (f : Ghosts F.Denot) (df : Dict) → IsStrict f.eq → IsStrict (NewsEq.ghosts F f df).eq
same_news F f df strict a b h = search (rules, strict)

same_combiner : IsStrict CombinerEq.ghosts.eq
same_combiner x y h = search rules

same_direction : IsStrict DirectionEq.ghosts.eq
same_direction x y h = search rules

same_inclusion : IsStrict InclusionEq.ghosts.eq
same_inclusion x y h = search rules

same_option : {X : Type 0} (eq : X → X → Bool) → IsStrict eq → IsStrict (option_eq eq)
same_option eq strict x y h = search (rules, strict)

-- a test of eight parts passes where each does
record ArePassed (a b c d e f g h : Bool) : Type 0 where
  first : a ≡ true
  second : b ≡ true
  third : c ≡ true
  fourth : d ≡ true
  fifth : e ≡ true
  sixth : f ≡ true
  seventh : g ≡ true
  eighth : h ≡ true

passed : (a b c d e f g h : Bool) → (a && (b && (c && (d && (e && (f && (g && h))))))) ≡ true → ArePassed a b c d e f g h
passed a b c d e f g h all = search (rules, and_parts)

all_pass : (a b c d e f g h : Bool) → ArePassed a b c d e f g h → (a && (b && (c && (d && (e && (f && (g && h))))))) ≡ true
all_pass a b c d e f g h parts = rw (parts.first, parts.second, parts.third, parts.fourth, parts.fifth, parts.sixth, parts.seventh, parts.eighth)

same_scan : (F : RattleType) (f : Ghosts F.Denot) (df : Dict) → IsStrict f.eq
    → (op : Combiner) (D A : F.Denot) (X L : ℕ) (direction : Direction) (w : Inclusion) (G : Option F.Denot) (op' : Combiner) (D' A' : F.Denot) (X' L' : ℕ) (direction' : Direction) (w' : Inclusion) (G' : Option F.Denot)
    → (LineEq.ghosts F f df).eq (Scan op D A X L direction w G) (Scan op' D' A' X' L' direction' w' G') ≡ true
    → (let x : Line F.Denot = Scan op D A X L direction w G in x ≡ Scan op' D' A' X' L' direction' w' G')
same_scan F f df strict op D A X L direction w G op' D' A' X' L' direction' w' G' h =
    let parts = passed (CombinerEq.ghosts.eq op op') (f.eq D D') (f.eq A A') (X == X') (L == L') (DirectionEq.ghosts.eq direction direction') (InclusionEq.ghosts.eq w w') (option_eq f.eq G G') h in
    let combiners = same_combiner op op' parts.first in
    let targets = strict D D' parts.second in
    let sources = strict A A' parts.third in
    let axes = eqb-true X X' parts.fourth in
    let lengths = eqb-true L L' parts.fifth in
    let directions = same_direction direction direction' parts.sixth in
    let inclusions = same_inclusion w w' parts.seventh in
    let segments = same_option f.eq strict G G' parts.eighth in
    λ i. Scan (combiners i) (targets i) (sources i) (axes i) (lengths i) (directions i) (inclusions i) (segments i)

same_line : (F : RattleType) (f : Ghosts F.Denot) (df : Dict) → IsStrict f.eq → IsStrict (LineEq.ghosts F f df).eq
same_line F f df strict (Scan op D A X L direction w G) (Scan op' D' A' X' L' direction' w' G') h = same_scan F f df strict op D A X L direction w G op' D' A' X' L' direction' w' G' h
same_line F f df strict (CopyScan D A X L direction G) (CopyScan D' A' X' L' direction' G') h = search (rules, strict)
same_line F f df strict (Spread op D A X L) (Spread op' D' A' X' L') h = search (rules, strict)
same_line F f df strict (CopySpread D A X L C) (CopySpread D' A' X' L' C') h = search (rules, strict)
same_line F f df strict (Reduce op D A X L C) (Reduce op' D' A' X' L' C') h = search (rules, strict)
same_line F f df strict _ _ h = absurd (let e : false ≡ true = h in cc)

same_mail : (F : RattleType) (f : Ghosts F.Denot) (df : Dict) → IsStrict f.eq → IsStrict (MailEq.ghosts F f df).eq
same_mail F f df strict a b h = search (rules, strict)

pub same_action : (F S : RattleType) (f : Ghosts F.Denot) (s : Ghosts S.Denot) (df ds : Dict) → IsStrict f.eq → IsStrict s.eq → IsStrict (ActionEq.ghosts F S f df s ds).eq
same_action F S f s df ds strict-f strict-s (OnSelected a) (OnSelected b) h = ap OnSelected (same_conditional F S f s df ds strict-f strict-s a b h)
same_action F S f s df ds strict-f strict-s (OnAll a) (OnAll b) h = ap OnAll (same_unconditional F S f s df ds strict-f strict-s a b h)
same_action F S f s df ds strict-f strict-s (ByNews a) (ByNews b) h = ap ByNews (same_news F f df strict-f a b h)
same_action F S f s df ds strict-f strict-s (AlongLine a) (AlongLine b) h = ap AlongLine (same_line F f df strict-f a b h)
same_action F S f s df ds strict-f strict-s (ByMail a) (ByMail b) h = ap ByMail (same_mail F f df strict-f a b h)
same_action F S f s df ds strict-f strict-s _ _ h = absurd (let e : false ≡ true = h in cc)

-- a test that passes a value with itself
abbrev pub IsReflexive : {X : Type 0} → (X → X → Bool) → Type 0
IsReflexive {X} eq = (x : X) → eq x x ≡ true

self_conditional : (F S : RattleType) (f : Ghosts F.Denot) (s : Ghosts S.Denot) (df ds : Dict) → IsReflexive f.eq → IsReflexive s.eq → IsReflexive (ConditionalEq.ghosts F S f df s ds).eq
self_conditional F S f s df ds self-f self-s a = search (rules, self-f, self-s)

self_unconditional : (F S : RattleType) (f : Ghosts F.Denot) (s : Ghosts S.Denot) (df ds : Dict) → IsReflexive f.eq → IsReflexive s.eq → IsReflexive (UnconditionalEq.ghosts F S f df s ds).eq
self_unconditional F S f s df ds self-f self-s a = search (rules, self-f, self-s)

self_news : (F : RattleType) (f : Ghosts F.Denot) (df : Dict) → IsReflexive f.eq → IsReflexive (NewsEq.ghosts F f df).eq
self_news F f df self a = search (rules, self)

self_combiner : IsReflexive CombinerEq.ghosts.eq
self_combiner x = search rules

self_direction : IsReflexive DirectionEq.ghosts.eq
self_direction x = search rules

self_inclusion : IsReflexive InclusionEq.ghosts.eq
self_inclusion x = search rules

self_option : {X : Type 0} (eq : X → X → Bool) → IsReflexive eq → IsReflexive (option_eq eq)
self_option eq self x = search (rules, self)

self_line : (F : RattleType) (f : Ghosts F.Denot) (df : Dict) → IsReflexive f.eq → IsReflexive (LineEq.ghosts F f df).eq
self_line F f df self (Scan op D A X L direction w G) =
    all_pass (CombinerEq.ghosts.eq op op) (f.eq D D) (f.eq A A) (X == X) (L == L) (DirectionEq.ghosts.eq direction direction) (InclusionEq.ghosts.eq w w) (option_eq f.eq G G)
    (record { first = self_combiner op; second = self D; third = self A; fourth = eq-eqb X X refl; fifth = eq-eqb L L refl; sixth = self_direction direction; seventh = self_inclusion w; eighth = self_option f.eq self G })
self_line F f df self (CopyScan D A X L direction G) = search (rules, self)
self_line F f df self (Spread op D A X L) = search (rules, self)
self_line F f df self (CopySpread D A X L C) = search (rules, self)
self_line F f df self (Reduce op D A X L C) = search (rules, self)

self_mail : (F : RattleType) (f : Ghosts F.Denot) (df : Dict) → IsReflexive f.eq → IsReflexive (MailEq.ghosts F f df).eq
self_mail F f df self a = search (rules, self)

pub self_action : (F S : RattleType) (f : Ghosts F.Denot) (s : Ghosts S.Denot) (df ds : Dict) → IsReflexive f.eq → IsReflexive s.eq → IsReflexive (ActionEq.ghosts F S f df s ds).eq
self_action F S f s df ds self-f self-s (OnSelected a) = self_conditional F S f s df ds self-f self-s a
self_action F S f s df ds self-f self-s (OnAll a) = self_unconditional F S f s df ds self-f self-s a
self_action F S f s df ds self-f self-s (ByNews a) = self_news F f df self-f a
self_action F S f s df ds self-f self-s (AlongLine a) = self_line F f df self-f a
self_action F S f s df ds self-f self-s (ByMail a) = self_mail F f df self-f a
