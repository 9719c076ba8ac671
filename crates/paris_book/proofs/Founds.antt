-- A plan that an instruction comes to on a board is fit, and its keys are declared there.
use Rattle.std.proofs.Common.{◌≡◌, ℕ, ◌<◌, ◌≤◌, List, [], ◌∷◌, Bool, true, false, cond, Option, Some, None, Result, Ok, Err, zero, suc, refl, subst, arith, length, get_or, nat_lt}
use Rattle.std.specs.Prelude.{not, IfOk, IfSome, option_map, ok_or, unwrap_or}
use Rattle.std.specs.List.{position_or_len}
use Rattle.std.proofs.lemmas.Bool.Decides.{nat_tests}
use Rattle.std.specs.Str.{bytes_eq}
use Rattle.paris_names.specs.declared.faults.Fault.{Fault}
use Rattle.paris_names.specs.declared.faults.Fault.TheVariants.{NoSet, NoField, WrongSet, BadAxis, BadLength, BadOperand, Overlap}
use Rattle.paris_names.specs.declared.limits.TheConstants.{MAX_WIDTH}
use Rattle.paris_names.specs.declared.profiles.Profile.{Profile}
use Rattle.paris_names.specs.declared.profiles.Profile.TheVariants.{One, Two}
use Rattle.paris_names.specs.Profiles.{max_width}
use Rattle.paris_board.specs.Board.{Board, DeclaredField, DeclaredSet, set_named, field_named, AreFields, IsBoard}
use Rattle.paris_model.specs.declared.actions.Operand.{Operand}
use Rattle.paris_model.specs.declared.actions.Conditional.{Conditional}
use Rattle.paris_model.specs.declared.actions.Conditional.TheVariants.{Binary, Unary, MoveConstant, Resize, Compare, MyCoordinate, MyAddress, SetTest, ClearTest, LoadTest, StoreTest}
use Rattle.paris_model.specs.declared.actions.Unconditional.{Unconditional}
use Rattle.paris_model.specs.declared.actions.Unconditional.TheVariants.{MoveAlways, SetContext, ClearContext, InvertContext, LoadContext, AndContext, OrContext, AndContextWithTest, StoreContext}
use Rattle.paris_model.specs.declared.actions.News.{News}
use Rattle.paris_model.specs.declared.actions.Line.{Line}
use Rattle.paris_model.specs.declared.actions.Line.TheVariants.{Scan, CopyScan, Spread, CopySpread, Reduce}
use Rattle.paris_model.specs.declared.actions.Mail.{Mail}
use Rattle.paris_model.specs.declared.actions.Action.{Action}
use Rattle.paris_model.specs.declared.actions.Action.TheVariants.{OnSelected, OnAll, ByNews, AlongLine, ByMail}
use Rattle.paris_model.specs.Fits.{IsFit, has_bad_axis, has_bad_length, has_bad_operand, has_overlap}
use Rattle.paris_model.specs.Instructions.{Plan, operands}
use Rattle.paris_instr.specs.Resolve.{operand_of, operand_named, set_no_named, operand_if_named, from_one, from_two, from_three, from_four, conditional_named, unconditional_named, news_named, line_named, mail_named, action_named, action_set, set_of_first, set_of_action, is_in_one_set, axes_of_action, planned, planned_from, resolution, IsOperandOf, AreOperandsOf, HasSet, IsFoundOn, IsFittedTo}
use Rattle.paris_instr.proofs.Resolves.{have_widths, made_fits}

-- what is known of a result hangs on what is known of those that it is made of
if_one : {W Z : Type 0} (P : W → Type 0) (Q : Z → Type 0) (f : W → Z) (r : Result W Fault) → IfOk r P → ((w : W) → P w → Q (f w)) → IfOk (from_one f r) Q
if_one P Q f (Ok w) p so = so w p
if_one P Q f (Err fault) p so = tt

if_two : {W X Z : Type 0} (P : W → Type 0) (R : X → Type 0) (Q : Z → Type 0) (f : W → X → Z) (r : Result W Fault) (q : Result X Fault) → IfOk r P → IfOk q R → ((w : W) (x : X) → P w → R x → Q (f w x)) → IfOk (from_two f r q) Q
if_two P R Q f (Ok w) q p k so = if_one R Q (f w) q k (λ x. so w x p)
if_two P R Q f (Err fault) q p k so = tt

if_three : {W X Y Z : Type 0} (P : W → Type 0) (R : X → Type 0) (S : Y → Type 0) (Q : Z → Type 0) (f : W → X → Y → Z) (r : Result W Fault) (q : Result X Fault) (t : Result Y Fault) → IfOk r P → IfOk q R → IfOk t S
    → ((w : W) (x : X) (y : Y) → P w → R x → S y → Q (f w x y)) → IfOk (from_three f r q t) Q
if_three P R S Q f (Ok w) q t p k l so = if_two R S Q (f w) q t k l (λ x y. so w x y p)
if_three P R S Q f (Err fault) q t p k l so = tt

if_four : {V W X Y Z : Type 0} (O : V → Type 0) (P : W → Type 0) (R : X → Type 0) (S : Y → Type 0) (Q : Z → Type 0) (f : V → W → X → Y → Z) (n : Result V Fault) (r : Result W Fault) (q : Result X Fault) (t : Result Y Fault)
    → IfOk n O → IfOk r P → IfOk q R → IfOk t S → ((v : V) (w : W) (x : X) (y : Y) → O v → P w → R x → S y → Q (f v w x y)) → IfOk (from_four f n r q t) Q
if_four O P R S Q f (Ok v) r q t o p k l so = if_three P R S Q (f v) r q t p k l (λ w x y. so v w x y o)
if_four O P R S Q f (Err fault) r q t o p k l so = tt

-- a place that is found is in the list
place_within : (m n i : ℕ) → cond (nat_lt m n) (Some m) None ≡ Some i → i < n
place_within m n i e = by_test (nat_lt m n) refl e
  where
    by_test : (b : Bool) → nat_lt m n ≡ b → cond b (Some m) None ≡ Some i → i < n
    by_test true t x = let same : m ≡ i = cc in let less : m < n = grind (arith, nat_tests, t) in subst (λ j. j < n) same less
    by_test false t x = absurd (cc)

-- a declared field is of a declared set, and from 1 bit to the widest wide
pub field_at : (widest sets : ℕ) (fs : List DeclaredField) (f : ℕ) (x : DeclaredField) → AreFields widest sets fs → f < length fs → ((get_or fs f x).set_no < sets) × (0 < (get_or fs f x).width) × ((get_or fs f x).width ≤ widest)
field_at widest sets [] f x h a = absurd (omega (arith, a))
field_at widest sets (y ∷ ys) zero x h a = (h.0, h.1, h.2)
field_at widest sets (y ∷ ys) (suc f) x h a = field_at widest sets ys f x h.3 (omega (arith, a))

widest_few : (p : Profile) → max_width p ≤ MAX_WIDTH
widest_few One = omega arith
widest_few Two = omega arith

abbrev no_field : DeclaredField
no_field = record { name = []; set_no = 0; width = 0 }

operand_known : (b : Board) → IsBoard b → (f : ℕ) → f < length b.fields → IsOperandOf b (operand_of b f)
operand_known b board f less =
    let at = field_at (max_width b.profile) (length b.sets) b.fields f no_field board less in
    let few = widest_few b.profile in
    let here : nat_lt f (length b.fields) ≡ true = grind (arith, nat_tests, less) in
    (here, refl, at.1, omega (arith, at.2, few))

operand_is : (b : Board) → IsBoard b → (name : List ℕ) → IfOk (operand_named b name) (IsOperandOf b)
operand_is b board name = by_place (field_named b name) refl
  where
    by_place : (o : Option ℕ) → field_named b name ≡ o → IfOk (ok_or (option_map (operand_of b) o) NoField) (IsOperandOf b)
    by_place None e = tt
    by_place (Some f) e = operand_known b board f (place_within (position_or_len (λ (x : DeclaredField). bytes_eq x.name name) b.fields) (length b.fields) f e)

set_is : (b : Board) (name : List ℕ) → IfOk (set_no_named b name) (λ s. s < length b.sets)
set_is b name = by_place (set_named b name) refl
  where
    by_place : (o : Option ℕ) → set_named b name ≡ o → IfOk (ok_or o NoSet) (λ s. s < length b.sets)
    by_place None e = tt
    by_place (Some s) e = place_within (position_or_len (λ (x : DeclaredSet). bytes_eq x.name name) b.sets) (length b.sets) s e

given_is : (b : Board) → IsBoard b → (name : Option (List ℕ)) → IfOk (operand_if_named b name) (λ o. IfSome o (IsOperandOf b))
given_is b board None = tt
given_is b board (Some name) = if_one (IsOperandOf b) (λ (o : Option Operand). IfSome o (IsOperandOf b)) Some (operand_named b name) (operand_is b board name) (λ o k. k)

module _ (b : Board) (board : IsBoard b) where
  abbrev O : Operand → Type 0
  O = IsOperandOf b

  abbrev G : Option Operand → Type 0
  G o = IfSome o (IsOperandOf b)

  known : (name : List ℕ) → IfOk (operand_named b name) O
  known name = operand_is b board name

  conditional_found : (i : Conditional (List ℕ) (List ℕ)) → IfOk (conditional_named b i) (λ c. IsFoundOn b (OnSelected c))
  conditional_found (Binary op D A B L) = if_three O O O (λ c. IsFoundOn b (OnSelected c)) (λ d x y. Binary op d x y L) _ _ _ (known D) (known A) (known B) (λ d x y p q r. record { fields = (p, (q, (r, tt))); set = tt })
  conditional_found (Unary op D A L) = if_two O O (λ c. IsFoundOn b (OnSelected c)) (λ d x. Unary op d x L) _ _ (known D) (known A) (λ d x p q. record { fields = (p, (q, tt)); set = tt })
  conditional_found (MoveConstant D K L) = if_one O (λ c. IsFoundOn b (OnSelected c)) (λ d. MoveConstant d K L) _ (known D) (λ d p. record { fields = (p, tt); set = tt })
  conditional_found (Resize sign D A L M) = if_two O O (λ c. IsFoundOn b (OnSelected c)) (λ d x. Resize sign d x L M) _ _ (known D) (known A) (λ d x p q. record { fields = (p, (q, tt)); set = tt })
  conditional_found (Compare op A B L) = if_two O O (λ c. IsFoundOn b (OnSelected c)) (λ x y. Compare op x y L) _ _ (known A) (known B) (λ x y p q. record { fields = (p, (q, tt)); set = tt })
  conditional_found (MyCoordinate D X L) = if_one O (λ c. IsFoundOn b (OnSelected c)) (λ d. MyCoordinate d X L) _ (known D) (λ d p. record { fields = (p, tt); set = tt })
  conditional_found (MyAddress D L) = if_one O (λ c. IsFoundOn b (OnSelected c)) (λ d. MyAddress d L) _ (known D) (λ d p. record { fields = (p, tt); set = tt })
  conditional_found (SetTest S) = if_one (λ s. s < length b.sets) (λ c. IsFoundOn b (OnSelected c)) SetTest _ (set_is b S) (λ s p. record { fields = tt; set = p })
  conditional_found (ClearTest S) = if_one (λ s. s < length b.sets) (λ c. IsFoundOn b (OnSelected c)) ClearTest _ (set_is b S) (λ s p. record { fields = tt; set = p })
  conditional_found (LoadTest F) = if_one O (λ c. IsFoundOn b (OnSelected c)) LoadTest _ (known F) (λ d p. record { fields = (p, tt); set = tt })
  conditional_found (StoreTest F) = if_one O (λ c. IsFoundOn b (OnSelected c)) StoreTest _ (known F) (λ d p. record { fields = (p, tt); set = tt })

  unconditional_found : (i : Unconditional (List ℕ) (List ℕ)) → IfOk (unconditional_named b i) (λ c. IsFoundOn b (OnAll c))
  unconditional_found (MoveAlways D A L) = if_two O O (λ c. IsFoundOn b (OnAll c)) (λ d x. MoveAlways d x L) _ _ (known D) (known A) (λ d x p q. record { fields = (p, (q, tt)); set = tt })
  unconditional_found (SetContext S) = if_one (λ s. s < length b.sets) (λ c. IsFoundOn b (OnAll c)) SetContext _ (set_is b S) (λ s p. record { fields = tt; set = p })
  unconditional_found (ClearContext S) = if_one (λ s. s < length b.sets) (λ c. IsFoundOn b (OnAll c)) ClearContext _ (set_is b S) (λ s p. record { fields = tt; set = p })
  unconditional_found (InvertContext S) = if_one (λ s. s < length b.sets) (λ c. IsFoundOn b (OnAll c)) InvertContext _ (set_is b S) (λ s p. record { fields = tt; set = p })
  unconditional_found (LoadContext F) = if_one O (λ c. IsFoundOn b (OnAll c)) LoadContext _ (known F) (λ d p. record { fields = (p, tt); set = tt })
  unconditional_found (AndContext F) = if_one O (λ c. IsFoundOn b (OnAll c)) AndContext _ (known F) (λ d p. record { fields = (p, tt); set = tt })
  unconditional_found (OrContext F) = if_one O (λ c. IsFoundOn b (OnAll c)) OrContext _ (known F) (λ d p. record { fields = (p, tt); set = tt })
  unconditional_found (AndContextWithTest S) = if_one (λ s. s < length b.sets) (λ c. IsFoundOn b (OnAll c)) AndContextWithTest _ (set_is b S) (λ s p. record { fields = tt; set = p })
  unconditional_found (StoreContext F) = if_one O (λ c. IsFoundOn b (OnAll c)) StoreContext _ (known F) (λ d p. record { fields = (p, tt); set = tt })

  news_found : (i : News (List ℕ)) → IfOk (news_named b i) (λ c. IsFoundOn b (ByNews c))
  news_found (News.Get D A X direction L) = if_two O O (λ c. IsFoundOn b (ByNews c)) (λ d x. News.Get d x X direction L) _ _ (known D) (known A) (λ d x p q. record { fields = (p, (q, tt)); set = tt })
  news_found (News.Send D A X direction L) = if_two O O (λ c. IsFoundOn b (ByNews c)) (λ d x. News.Send d x X direction L) _ _ (known D) (known A) (λ d x p q. record { fields = (p, (q, tt)); set = tt })

  line_found : (i : Line (List ℕ)) → IfOk (line_named b i) (λ c. IsFoundOn b (AlongLine c))
  line_found (Scan op D A X L direction inclusion S) = if_three O O G (λ c. IsFoundOn b (AlongLine c)) (λ d x g. Scan op d x X L direction inclusion g) _ _ _ (known D) (known A) (given_is b board S) by_segment
    where
      by_segment : (d x : Operand) (g : Option Operand) → O d → O x → G g → IsFoundOn b (AlongLine (Scan op d x X L direction inclusion g))
      by_segment d x None p q r = record { fields = (p, (q, tt)); set = tt }
      by_segment d x (Some g) p q r = record { fields = (p, (q, (r, tt))); set = tt }
  line_found (CopyScan D A X L direction S) = if_three O O G (λ c. IsFoundOn b (AlongLine c)) (λ d x g. CopyScan d x X L direction g) _ _ _ (known D) (known A) (given_is b board S) by_segment
    where
      by_segment : (d x : Operand) (g : Option Operand) → O d → O x → G g → IsFoundOn b (AlongLine (CopyScan d x X L direction g))
      by_segment d x None p q r = record { fields = (p, (q, tt)); set = tt }
      by_segment d x (Some g) p q r = record { fields = (p, (q, (r, tt))); set = tt }
  line_found (Spread op D A X L) = if_two O O (λ c. IsFoundOn b (AlongLine c)) (λ d x. Spread op d x X L) _ _ (known D) (known A) (λ d x p q. record { fields = (p, (q, tt)); set = tt })
  line_found (CopySpread D A X L C) = if_two O O (λ c. IsFoundOn b (AlongLine c)) (λ d x. CopySpread d x X L C) _ _ (known D) (known A) (λ d x p q. record { fields = (p, (q, tt)); set = tt })
  line_found (Reduce op D A X L C) = if_two O O (λ c. IsFoundOn b (AlongLine c)) (λ d x. Reduce op d x X L C) _ _ (known D) (known A) (λ d x p q. record { fields = (p, (q, tt)); set = tt })

  mail_found : (i : Mail (List ℕ)) → IfOk (mail_named b i) (λ c. IsFoundOn b (ByMail c))
  mail_found (Mail.Get D B A L) = if_three O O O (λ c. IsFoundOn b (ByMail c)) (λ d y x. Mail.Get d y x L) _ _ _ (known D) (known B) (known A) (λ d y x p q r. record { fields = (p, (q, (r, tt))); set = tt })
  mail_found (Mail.Send D B A L N) = if_four O O O G (λ c. IsFoundOn b (ByMail c)) (λ d y x n. Mail.Send d y x L n) _ _ _ _ (known D) (known B) (known A) (given_is b board N) by_notify
    where
      by_notify : (d y x : Operand) (n : Option Operand) → O d → O y → O x → G n → IsFoundOn b (ByMail (Mail.Send d y x L n))
      by_notify d y x None p q r s = record { fields = (p, (q, (r, tt))); set = tt }
      by_notify d y x (Some n) p q r s = record { fields = (p, (s, (q, (r, tt)))); set = tt }
  mail_found (Mail.CombiningSend op D B A L N) = if_four O O O G (λ c. IsFoundOn b (ByMail c)) (λ d y x n. Mail.CombiningSend op d y x L n) _ _ _ _ (known D) (known B) (known A) (given_is b board N) by_notify
    where
      by_notify : (d y x : Operand) (n : Option Operand) → O d → O y → O x → G n → IsFoundOn b (ByMail (Mail.CombiningSend op d y x L n))
      by_notify d y x None p q r s = record { fields = (p, (q, (r, tt))); set = tt }
      by_notify d y x (Some n) p q r s = record { fields = (p, (s, (q, (r, tt)))); set = tt }

  action_found : (i : Action (List ℕ) (List ℕ)) → IfOk (action_named b i) (IsFoundOn b)
  action_found (OnSelected i) = if_one (λ c. IsFoundOn b (OnSelected c)) (IsFoundOn b) OnSelected (conditional_named b i) (conditional_found i) (λ c k. k)
  action_found (OnAll i) = if_one (λ c. IsFoundOn b (OnAll c)) (IsFoundOn b) OnAll (unconditional_named b i) (unconditional_found i) (λ c k. k)
  action_found (ByNews i) = if_one (λ c. IsFoundOn b (ByNews c)) (IsFoundOn b) ByNews (news_named b i) (news_found i) (λ c k. k)
  action_found (AlongLine i) = if_one (λ c. IsFoundOn b (AlongLine c)) (IsFoundOn b) AlongLine (line_named b i) (line_found i) (λ c k. k)
  action_found (ByMail i) = if_one (λ c. IsFoundOn b (ByMail c)) (IsFoundOn b) ByMail (mail_named b i) (mail_found i) (λ c k. k)

-- the set of an action that was found is declared
set_declared : (b : Board) → IsBoard b → (s : Option ℕ) (os : List Operand) → AreOperandsOf b os → HasSet b s os → unwrap_or s (set_of_first b os) < length b.sets
set_declared b board (Some s) os known has = has
set_declared b board None [] known has = absurd has
set_declared b board None (o ∷ os) known has =
    let less : o.field < length b.fields = (let here : nat_lt o.field (length b.fields) ≡ true = known.0.0 in grind (arith, nat_tests, here)) in
    (field_at (max_width b.profile) (length b.sets) b.fields o.field no_field board less).0

-- what is known of a plan on a board
abbrev pub IsPlanOn : Board → Plan → Type 0
IsPlanOn b p = IsFit p.axes p.action × IsFittedTo b p

abbrev plan_of : Board → Action (List ℕ) (List ℕ) → Action Operand ℕ → Plan
plan_of b instr i = record { instr = instr; set_no = set_of_action b i; axes = axes_of_action b i; action = i }

planned_fits : (b : Board) → IsBoard b → (instr : Action (List ℕ) (List ℕ)) (i : Action Operand ℕ) → IsFoundOn b i → IfOk (planned b instr i) (IsPlanOn b)
planned_fits b board instr i found =
    by_tests (is_in_one_set b i) refl (has_bad_axis (axes_of_action b i) i) refl (has_bad_length i) refl (has_bad_operand (axes_of_action b i) i) refl (has_overlap i) refl
  where
    by_tests : (one : Bool) → is_in_one_set b i ≡ one → (axis : Bool) → has_bad_axis (axes_of_action b i) i ≡ axis → (long : Bool) → has_bad_length i ≡ long → (bad : Bool) → has_bad_operand (axes_of_action b i) i ≡ bad → (over : Bool) → has_overlap i ≡ over
        → IfOk (cond (not one) (Err WrongSet) (cond axis (Err BadAxis) (cond long (Err BadLength) (cond bad (Err BadOperand) (cond over (Err Overlap) (Ok (plan_of b instr i))))))) (IsPlanOn b)
    by_tests false one axis a long l bad o over v = tt
    by_tests true one true a long l bad o over v = tt
    by_tests true one false a true l bad o over v = tt
    by_tests true one false a false l true o over v = tt
    by_tests true one false a false l false o true v = tt
    by_tests true one false a false l false o false v = (
      record { axis = a; lengths = l; operands = o; overlap = v; widths = have_widths b (operands i) found.fields },
      made_fits b (plan_of b instr i) (record { known = found.fields; one_set = one; set_no = refl; declared = set_declared b board (action_set i) (operands i) found.fields found.set; axes = refl }),
    )

pub resolution_fits : (b : Board) → IsBoard b → (instr : Action (List ℕ) (List ℕ)) → IfOk (resolution b instr) (IsPlanOn b)
resolution_fits b board instr = by_named (action_named b instr) (action_found b board instr)
  where
    by_named : (r : Result (Action Operand ℕ) Fault) → IfOk r (IsFoundOn b) → IfOk (planned_from b instr r) (IsPlanOn b)
    by_named (Ok i) found = planned_fits b board instr i found
    by_named (Err fault) found = tt
