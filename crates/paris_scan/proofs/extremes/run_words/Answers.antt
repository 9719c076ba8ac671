use Rattle.std.proofs.Common.{◌∙◌, ℕ, Bool, List, ap, arith, get_or, length, subst, sym}
use Rattle.paris_geometry.specs.declared.direction.Direction.{Direction}
use Rattle.paris_model.specs.declared.operators.Combiner.{Combiner}
use Rattle.paris_field.specs.Numbers.{has}
use Rattle.paris_scan.specs.Running.{AreRunning, HasBefore, shown_value, taken}
use Rattle.paris_scan.proofs.RunValues.{shown_values}
use Rattle.paris_scan.proofs.extremes.run_words.Goals as goal

pub returns-clause-words : goal.returns-clause-words
returns-clause-words g c =
    λ values runs v h.
    let op : Combiner = g.E.Extreme.operator in
    let d : Direction = c.args.steps.now.direction in
    let by : ℕ = c.args.steps.now.by in
    let begins : ℕ → Bool = has c.args.steps.now.begins in
    let n : ℕ = length c.args.words.now in
    let none : ℕ = c.none-none.result in
    let made : List ℕ = c.make_words.new.words in
    c.show_words.ensures.words v (omega (arith, h, c.make_words.ensures.long))
    ∙ shown_values none c.args.inclusion d by n begins (λ u. get_or made u 0) values v
    (c.make_words.ensures.words c.args.bits values (subst (λ z. AreRunning (taken op c.args.bits (has c.args.selected.now) c.args.words.now) z d by n begins values) (sym c.none-none.ensures) runs))
    h (λ e. subst (λ m. HasBefore d by m v) c.requires.count (c.args.steps.now.reach v (omega (arith, h, c.requires.count)) e))
    ∙ ap (λ z. shown_value z c.args.inclusion d by begins values v) c.none-none.ensures
