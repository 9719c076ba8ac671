use Rattle.std.proofs.Common.{◌≡◌, ℕ, ◌∙◌, List, ap, arith}
use Rattle.std.proofs.lemmas.Result.{IfOk-weaker}
use Rattle.paris_geometry.specs.Geometry.{processor_count}
use Rattle.paris_field.specs.Fields.{FieldNumbers, operand}
use Rattle.paris_scan.specs.Adjacent.{lines_field}
use Rattle.paris_scan.specs.Lines.{of_lines}
use Rattle.paris_scan.specs.Shown.{shown_field}
use Rattle.paris_scan.proofs.OneLine.{lines_are, total_at}
use Rattle.paris_scan.proofs.adjacent.adjacent_shown.Goals as goal

pub returns : goal.returns
returns g c =
    let axes : List ℕ = c.args.geometry in
    let m : ℕ = processor_count axes in
    let n : ℕ = c.len-count.result in
    let L : ℕ = c.args.bits in
    let shows : ℕ → List ℕ → ℕ = g.T.Combine.shows in
    let totals : List ℕ = c.in_ok-totals.totals.items in
    let values : ℕ → List ℕ = of_lines axes c.args.axis c.args.selected.now L c.args.x.now in
    IfOk-weaker c.line_value.result _ (λ (value : FieldNumbers). value ≡ shown_field shows L m values)
    (λ value is.
    is ∙ ap (λ (xs : List ℕ). lines_field L n c.len.result xs) c.deref.ensures.value ∙ ap (λ k. lines_field L n k totals) (c.len.ensures ∙ c.requires.count)
    ∙ lines_are L n m totals (λ v. shows L (values v))
    (total_at shows L n axes c.args.axis c.args.selected.now (operand L c.args.x.now) c.low.result.now totals c.requires.adjacent c.len-count.ensures c.requires.selected c.low.ensures.count
    (λ v h _. c.low.ensures.at v (omega (arith, h, c.requires.count))) c.in_ok-totals.ensures.lines c.in_ok-totals.ensures.values)) c.line_value.ensures
