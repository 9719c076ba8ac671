-- What a plan leaves at each key.
use Rattle.std.proofs.Common.{◌≡◌, ℕ, List, [], ◌∷◌, ◌++◌, Bool, true, false, cond, Option, Some, None, Result, Ok, Err, refl, sym, ap, ◌∙◌, map}
use Rattle.std.specs.Prelude.{◌||◌}
use Rattle.paris_names.specs.declared.keys.Key.{Key}
use Rattle.paris_names.specs.Keys.{key_eq, has_key}
use Rattle.paris_names.proofs.KeyLists.{key_eq-true, has_key-in_order}
use Rattle.paris_model.specs.declared.actions.Refusal.{Refusal}
use Rattle.paris_model.specs.declared.actions.Operand.{Operand}
use Rattle.paris_model.specs.declared.actions.Action.{Action}
use Rattle.paris_model.specs.declared.actions.Action.TheVariants.{OnSelected, OnAll, ByNews, AlongLine, ByMail}
use Rattle.paris_model.specs.Frame.{World, Frame}
use Rattle.paris_model.specs.Instructions.{Plan, reads, writes, source_keys, target_keys, read_keys, stores_all_bits, value_at, outcome, outcome_in, refusal, refusal_in, frame_of, with_outcome, one, held, given}

pub or_false_first : (a b : Bool) → (a || b) ≡ false → a ≡ false
or_false_first true b h = h
or_false_first false b h = refl

pub or_false_second : (a b : Bool) → (a || b) ≡ false → b ≡ false
or_false_second true b h = absurd (let x : true ≡ false = h in cc)
or_false_second false b h = h

pub or_true_second : (a b : Bool) → b ≡ true → (a || b) ≡ true
or_true_second true b h = refl
or_true_second false b h = h

pub has_key-append : (xs ys : List Key) (k : Key) → has_key (xs ++ ys) k ≡ (has_key xs k || has_key ys k)
has_key-append [] ys k = refl
has_key-append (x ∷ xs) ys k = rw (has_key-append xs ys k) (by_first (key_eq k x))
  where
    by_first : (b : Bool) → (b || (has_key xs k || has_key ys k)) ≡ ((b || has_key xs k) || has_key ys k)
    by_first true = refl
    by_first false = refl

-- a source is read
pub reads_sources : (p : Plan) (k : Key) → has_key (source_keys p.set_no p.action) k ≡ true → has_key (reads p) k ≡ true
unfolding reads
reads_sources p k h =
    let rest = cond (stores_all_bits p.action) [] (target_keys p.set_no p.action) in
    has_key-in_order (read_keys p.set_no p.action) k ∙ has_key-append (source_keys p.set_no p.action) rest k ∙ ap (λ b. b || has_key rest k) h

-- and so is a target, where not all its bits are stored
pub reads_targets : (p : Plan) (k : Key) → stores_all_bits p.action ≡ false → has_key (target_keys p.set_no p.action) k ≡ true → has_key (reads p) k ≡ true
unfolding reads
reads_targets p k s h =
    has_key-in_order (read_keys p.set_no p.action) k
    ∙ has_key-append (source_keys p.set_no p.action) (cond (stores_all_bits p.action) [] (target_keys p.set_no p.action)) k
    ∙ rw s (or_true_second (has_key (source_keys p.set_no p.action) k) (has_key (target_keys p.set_no p.action) k) h)

pub writes_targets : (p : Plan) (k : Key) → has_key (writes p) k ≡ has_key (target_keys p.set_no p.action) k
unfolding writes
writes_targets p k = has_key-in_order (target_keys p.set_no p.action) k

pub reads_keys : (p : Plan) (k : Key) → has_key (reads p) k ≡ has_key (read_keys p.set_no p.action) k
unfolding reads
reads_keys p k = has_key-in_order (read_keys p.set_no p.action) k

-- only an action that leaves bits of what it writes is refused
refused_keeps : (m : Frame) (i : Action Operand ℕ) (cause : Refusal) → refusal_in m i ≡ Some cause → stores_all_bits i ≡ false
refused_keeps m (OnSelected i) cause e = refl
refused_keeps m (OnAll i) cause e = absurd (let none : None ≡ Some cause = e in cc)
refused_keeps m (ByNews i) cause e = refl
refused_keeps m (AlongLine i) cause e = refl
refused_keeps m (ByMail i) cause e = refl

-- a plan that is refused reads all that it writes
pub refused_reads : (p : Plan) (inputs : List (List ℕ)) (cause : Refusal) (k : Key) → outcome p inputs ≡ Err cause → has_key (writes p) k ≡ true → has_key (reads p) k ≡ true
unfolding outcome
refused_reads p inputs cause k e t = by_refusal (refusal p (value_at (reads p) inputs)) refl e
  where
    by_refusal : (o : Option Refusal) → refusal p (value_at (reads p) inputs) ≡ o → outcome_in p (value_at (reads p) inputs) o ≡ Err cause → has_key (reads p) k ≡ true
    by_refusal None x h = absurd (cc)
    by_refusal (Some c) x h = reads_targets p k (refused_keeps (frame_of p (value_at (reads p) inputs)) p.action c x) (sym (writes_targets p k) ∙ t)

-- the value of a key that is among keys is beside it
pub value_at-map : (w : World) (ks : List Key) (k : Key) → has_key ks k ≡ true → value_at ks (map w ks) k ≡ w k
value_at-map w [] k t = absurd (let e : false ≡ true = t in cc)
value_at-map w (j ∷ js) k t = by_first (value_at-map w js k) (key_eq k j) refl t
  where
    by_first : (has_key js k ≡ true → value_at js (map w js) k ≡ w k) → (b : Bool) → key_eq k j ≡ b → (b || has_key js k) ≡ true → cond b (w j) (value_at js (map w js) k) ≡ w k
    by_first rest true e s = ap w (sym (key_eq-true k j e))
    by_first rest false e s = rest s

-- what a plan leaves at a key hangs on what it reads alone
pub one_is : (p : Plan) (w : World) (k : Key) → one p w k ≡ cond (has_key (writes p) k) (given p (map w (reads p)) k) (w k)
unfolding one
one_is p w k = by_outcome (outcome p (map w (reads p))) refl (has_key (writes p) k) refl
  where
    by_outcome : (o : Result (List (List ℕ)) Refusal) → outcome p (map w (reads p)) ≡ o → (b : Bool) → has_key (writes p) k ≡ b → with_outcome o p w k ≡ cond b (held o p (map w (reads p)) k) (w k)
    by_outcome (Err c) e true t = sym (value_at-map w (reads p) k (refused_reads p (map w (reads p)) c k e t))
    by_outcome (Err c) e false t = refl
    by_outcome (Ok vs) e true t = rw t refl
    by_outcome (Ok vs) e false t = rw t refl

-- a plan leaves every key that it doesn't write
pub leaves : (p : Plan) (w : World) (k : Key) → has_key (writes p) k ≡ false → one p w k ≡ w k
leaves p w k t = one_is p w k ∙ rw t refl
