use Rattle.std.proofs.Common.{◌≡◌, ◌∙◌, ap, arith, length, ℕ, List, Bool}
use Rattle.paris_geometry.specs.Geometry.{processor_count}
use Rattle.paris_field.specs.Fields.{operand}
use Rattle.paris_field.specs.Numbers.{has}
use Rattle.paris_scan.specs.Lines.{of_lines}
use Rattle.paris_scan.specs.Shown.{complement}
use Rattle.paris_scan.proofs.Own.{complement_fits, complement_brought, complements_are, line_mapped}
use Rattle.paris_scan.proofs.spreads.spread_complements.Goals as goal

pub returns : goal.returns
returns g c =
    let axes : List ℕ = c.args.geometry in
    let n : ℕ = processor_count axes in
    let L : ℕ = c.args.bits in
    let shows : ℕ → List ℕ → ℕ = g.C.Combine.shows in
    let planes : List (List Bool) = c.in_ok-planes.planes.items in
    let state : List (List Bool) = c.in_ok-state.state.items in
    let turned : ℕ → ℕ = λ u. complement L (operand L c.args.x.now u) in
    let count : length state ≡ L = c.in_ok-state.ensures.count ∙ c.low.ensures.count in
    let values : ℕ → List ℕ = of_lines axes c.args.axis c.args.selected.now L c.args.x.now in
    c.in_ok-value.ensures
    ∙ complements_are c.len.result n L planes shows values (c.len.ensures ∙ c.requires.count) (c.in_ok-planes.ensures.count ∙ count) (λ v h.
    c.in_ok-planes.ensures.shows L (has c.args.selected.now) turned (omega (arith, count, c.requires.plain)) (λ u. complement_fits L (operand L c.args.x.now u))
    (complement_brought shows L (g.met.C.Combine.none L) (g.met.C.Commute.one L) n c.args.selected.now c.args.x.now c.low.result.now state c.requires.selected c.requires.count c.low.ensures.count c.low.ensures.at c.in_ok-state.ensures.at) v h
    ∙ ap (shows L) (line_mapped (complement L) axes c.args.axis (has c.args.selected.now) (operand L c.args.x.now) v))
