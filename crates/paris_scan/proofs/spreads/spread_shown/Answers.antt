use Rattle.std.proofs.Common.{◌≡◌, ◌∙◌, ap, arith, length, ℕ, List, Bool}
use Rattle.paris_geometry.specs.Geometry.{processor_count}
use Rattle.paris_field.specs.Fields.{operand}
use Rattle.paris_field.specs.Numbers.{has, value_of_planes}
use Rattle.paris_field.proofs.Places.{field_is}
use Rattle.paris_scan.specs.Lines.{of_lines}
use Rattle.paris_scan.proofs.Own.{operand_fits, operand_shown}
use Rattle.paris_scan.proofs.spreads.spread_shown.Goals as goal

pub returns : goal.returns
returns g c =
    let axes : List ℕ = c.args.geometry in
    let n : ℕ = processor_count axes in
    let L : ℕ = c.args.bits in
    let shows : ℕ → List ℕ → ℕ = g.C.Combine.shows in
    let planes : List (List Bool) = c.in_ok-planes.planes.items in
    let state : List (List Bool) = c.in_ok-state.state.items in
    let count : length state ≡ L = c.in_ok-state.ensures.count ∙ c.low.ensures.count in
    c.in_ok-value.ensures ∙ ap (λ (m : ℕ). value_of_planes m planes) (c.len.ensures ∙ c.requires.count)
    ∙ field_is n L planes (λ v. shows L (of_lines axes c.args.axis c.args.selected.now L c.args.x.now v)) (c.in_ok-planes.ensures.count ∙ count)
    (c.in_ok-planes.ensures.shows L (has c.args.selected.now) (operand L c.args.x.now) (omega (arith, count, c.requires.plain)) (operand_fits L c.args.x.now)
    (operand_shown shows L (g.met.C.Combine.none L) (g.met.C.Commute.one L) n c.args.selected.now c.args.x.now c.low.result.now state c.requires.selected c.requires.count c.low.ensures.at c.in_ok-state.ensures.at))
