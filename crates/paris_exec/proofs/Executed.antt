-- What executing an order gives: the widths of its keys, and the outcome of what it leaves.
use Rattle.std.proofs.Common.{◌≡◌, ℕ, ◌≤◌, ◌==◌, Bool, true, false, List, [], ◌∷◌, refl, ap, ◌∙◌, arith, cond, Some, None}
use Rattle.std.specs.Prelude.{◌&&◌, nat_lt, nat_le}
use Rattle.std.specs.List.{list_all}
use Rattle.std.proofs.lemmas.Bool.{and_parts}
use Rattle.std.proofs.lemmas.Bool.Decides.{nat_tests}
use Rattle.paris_names.specs.declared.keys.FlagName.{FlagName}
use Rattle.paris_names.specs.declared.keys.Key.{Key}
use Rattle.paris_names.specs.declared.keys.Key.TheVariants.{Field, Flag}
use Rattle.paris_model.specs.declared.actions.Refusal.{Refusal}
use Rattle.paris_model.specs.declared.actions.Operand.{Operand}
use Rattle.paris_model.specs.Fits.{IsFit}
use Rattle.paris_model.specs.Instructions.{Plan, key_width, width_among, operands, refusal, outcome, outcome_in}
use Rattle.paris_field.specs.Fields.{FieldNumbers}
use Rattle.paris_exec.specs.declared.orders.Outcome.TheVariants.{Values, Refused}
use Rattle.paris_exec.specs.Tasks.{Task, left_values, seen_at, result_told, task_outcome}
use Rattle.paris_names.specs.declared.limits.TheConstants.{MAX_WIDTH}

pub flag_width : (p : Plan) (s : ℕ) (flag : FlagName) → key_width p (Flag s flag) ≡ 1
unfolding key_width
flag_width p s flag = refl

narrow_among : (os : List Operand) (f : ℕ) → list_all (λ (o : Operand). nat_lt 0 o.width && nat_le o.width MAX_WIDTH) os ≡ true → width_among os f ≤ MAX_WIDTH
narrow_among [] f h = omega arith
narrow_among (o ∷ os) f h =
    let parts = and_parts (nat_lt 0 o.width && nat_le o.width MAX_WIDTH) (list_all (λ (o : Operand). nat_lt 0 o.width && nat_le o.width MAX_WIDTH) os) h in
    let here : o.width ≤ MAX_WIDTH = (let e : nat_le o.width MAX_WIDTH ≡ true = (and_parts (nat_lt 0 o.width) (nat_le o.width MAX_WIDTH) parts.0).1 in grind (arith, nat_tests)) in
    by_first (o.field == f) here (narrow_among os f parts.1)
  where
    by_first : (b : Bool) → o.width ≤ MAX_WIDTH → width_among os f ≤ MAX_WIDTH → cond b o.width (width_among os f) ≤ MAX_WIDTH
    by_first true here rest = here
    by_first false here rest = rest

-- no key of a plan is wider than a field may be
pub key_narrow : (p : Plan) (k : Key) → IsFit p.axes p.action → key_width p k ≤ MAX_WIDTH
unfolding key_width
key_narrow p (Field f) fit = narrow_among (operands p.action) f fit.widths
key_narrow p (Flag s flag) fit = omega arith

-- the values that an instruction leaves are the task's outcome, where it isn't refused
pub direct_outcome : (t : Task) (xs : List FieldNumbers) → None ≡ refusal t.plan (seen_at t) → xs ≡ left_values t → Values xs ≡ task_outcome t
unfolding outcome
direct_outcome t xs direct is = ap Values is ∙ ap (λ o. result_told t.plan (outcome_in t.plan (seen_at t) o)) direct

-- where it is, the cause is
pub refused_outcome : (t : Task) (cause : Refusal) → Some cause ≡ refusal t.plan (seen_at t) → Refused cause ≡ task_outcome t
unfolding outcome
refused_outcome t cause refused = ap (λ o. result_told t.plan (outcome_in t.plan (seen_at t) o)) refused
