use Rattle.std.proofs.Common.{◌≡◌, ◌∙◌, ◌+◌, Some, ap, arith, length, ℕ, List, Bool}
use Rattle.paris_geometry.specs.Geometry.{processor_count}
use Rattle.paris_model.specs.declared.operators.Combiner.TheVariants.{Sum}
use Rattle.paris_field.specs.Fields.{operand}
use Rattle.paris_field.specs.Numbers.{has}
use Rattle.paris_scan.specs.declared.results.Combined.{Combined}
use Rattle.paris_scan.specs.Laws.{none_sum, one_sum}
use Rattle.paris_scan.specs.Lines.{combined_field, of_lines, sums_overflow}
use Rattle.paris_scan.specs.Sums.{sum_shown}
use Rattle.paris_scan.proofs.Own.{operand_fits, operand_shown}
use Rattle.paris_scan.proofs.spreads.spread_sums.Goals as goal

pub returns : goal.returns
returns c =
    let axes : List ℕ = c.args.geometry in
    let n : ℕ = processor_count axes in
    let L : ℕ = c.args.bits in
    let state : List (List Bool) = c.in_ok-state.state.items in
    let count : length state ≡ L + 1 = c.in_ok-state.ensures.count ∙ ap (λ (k : ℕ). k + 1) c.low.ensures.count in
    let values : ℕ → List ℕ = of_lines axes c.args.axis c.args.selected.now L c.args.x.now in
    let sums : ℕ → Combined = λ m. record { value = combined_field Sum L m values; overflow = Some (sums_overflow L m values) } in
    let long : c.len.result ≡ n = c.len.ensures ∙ c.requires.count in
    c.in_ok-combined.ensures L values (c.in_ok-planes.ensures.count ∙ count) (λ v h.
    c.in_ok-planes.ensures.shows L (has c.args.selected.now) (operand L c.args.x.now) count (operand_fits L c.args.x.now)
    (operand_shown sum_shown L (none_sum L) (one_sum L) n c.args.selected.now c.args.x.now c.low.result.now state c.requires.selected c.requires.count c.low.ensures.at c.in_ok-state.ensures.at) v (omega (arith, h, long)))
    ∙ ap sums long
