use Rattle.std.proofs.Common.{◌≡◌, ◌∙◌, ℕ, Bool, Some, List, ap, arith, cond, get_or, length, subst, sym}
use Rattle.paris_geometry.specs.declared.direction.Direction.{Direction}
use Rattle.paris_model.specs.declared.operators.Inclusion.{Inclusion}
use Rattle.paris_plane.proofs.Bits.{written}
use Rattle.paris_field.specs.Fields.{AllFit, FieldNumbers}
use Rattle.paris_field.specs.Numbers.{has}
use Rattle.paris_scan.specs.Running.{HasBefore, low_sums, over_sums, shown_value}
use Rattle.paris_scan.specs.Runs.{before}
use Rattle.paris_scan.proofs.Totals.{before_fits, lows_before, overs_before}
use Rattle.paris_scan.proofs.running.shown_sums.Goals as goal

pub from_words-requires-in-Exclusive-clause-fit : goal.from_words-requires-in-Exclusive-clause-fit
from_words-requires-in-Exclusive-clause-fit c =
    let d : Direction = c.args.steps.now.direction in
    let by : ℕ = c.args.steps.now.by in
    let old : List ℕ = c.args.words.items in
    let there : c.deref_mut.result.now ≡ old = c.deref_mut.ensures.value in
    let is : c.deref-in-Exclusive.result.now ≡ c.step_back.new.words = c.deref-in-Exclusive.ensures.value ∙ written _ c.step_back.new.words _ (c.step_back.auto.words ∙ c.deref_mut.ensures.len) in
    subst (λ (l : List ℕ). AllFit c.args.bits l) (sym is)
    (before_fits c.args.bits d by (has c.args.steps.now.begins) old c.step_back.new.words (c.step_back.ensures.long ∙ ap length there) c.requires.fit
    (λ v h none. subst (λ m. HasBefore d by m v) c.requires.count (c.args.steps.now.reach v (omega (arith, h, c.requires.count)) none))
    (λ v h. c.step_back.ensures.words v (omega (arith, h, ap length there)) ∙ ap (λ (l : List ℕ). cond (has c.args.steps.now.begins v) 0 (get_or l (before d by v) 0)) there))

pub returns-clause-value : goal.returns-clause-value
returns-clause-value c =
    λ sums low.
    let d : Direction = c.args.steps.now.direction in
    let by : ℕ = c.args.steps.now.by in
    let begins : ℕ → Bool = has c.args.steps.now.begins in
    let old : List ℕ = c.args.words.items in
    let there : c.deref_mut.result.now ≡ old = c.deref_mut.ensures.value in
    let is : c.deref-in-Exclusive.result.now ≡ c.step_back.new.words = c.deref-in-Exclusive.ensures.value ∙ written _ c.step_back.new.words _ (c.step_back.auto.words ∙ c.deref_mut.ensures.len) in
    let field : List ℕ → FieldNumbers = λ xs. record { width = c.args.bits; numbers = xs } in
    c.in_ok-from_words-in-Exclusive.ensures
    ∙ ap field (is
    ∙ lows_before c.args.bits d by begins sums old c.step_back.new.words low (c.step_back.ensures.long ∙ ap length there)
    (λ v h none. subst (λ m. HasBefore d by m v) c.requires.count (c.args.steps.now.reach v (omega (arith, h, c.requires.count)) none))
    (λ v h. c.step_back.ensures.words v (omega (arith, h, ap length there)) ∙ ap (λ (l : List ℕ). cond (begins v) 0 (get_or l (before d by v) 0)) there)
    ∙ ap (λ (i : Inclusion). low_sums c.args.bits (length old) (shown_value 0 i d by begins sums)) (sym c.in-Exclusive.is))

pub returns-clause-overflow : goal.returns-clause-overflow
returns-clause-overflow c =
    λ sums over.
    let d : Direction = c.args.steps.now.direction in
    let by : ℕ = c.args.steps.now.by in
    let begins : ℕ → Bool = has c.args.steps.now.begins in
    let n : ℕ = length c.args.words.items in
    ap Some (c.from_plane-in-Exclusive.ensures
    ∙ overs_before c.args.bits n d by begins sums c.args.overflow c.in_ok-before-in-Exclusive.before over (c.in_ok-before-in-Exclusive.ensures.long ∙ c.requires.long)
    (λ v h none. subst (λ m. HasBefore d by m v) c.requires.count (c.args.steps.now.reach v (omega (arith, h, c.requires.count)) none))
    (λ v h. c.in_ok-before-in-Exclusive.ensures.bits v (omega (arith, h, c.requires.long)))
    ∙ ap (λ (i : Inclusion). over_sums c.args.bits n (shown_value 0 i d by begins sums)) (sym c.in-Exclusive.is))
