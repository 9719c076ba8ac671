use Rattle.std.proofs.Common.{◌≡◌, ℕ, ◌+◌, ◌*◌, ◌/◌, ◌%◌, ◌∙◌, List, ap, arith, length, sym}
use Rattle.std.proofs.lemmas.Result.{IfOk-weaker}
use Rattle.paris_geometry.specs.Geometry.{at_coordinate, axis_length, processor_count}
use Rattle.paris_field.specs.Fields.{FieldNumbers, operand}
use Rattle.paris_scan.specs.Adjacent.{lines_field}
use Rattle.paris_scan.specs.Lines.{placed_field}
use Rattle.paris_scan.proofs.OneLine.{all_lines, at_place, lines_are}
use Rattle.paris_scan.proofs.Spans.{line_below}
use Rattle.paris_scan.proofs.adjacent.adjacent_place.Goals as goal

pub returns : goal.returns
returns c =
    let axes : List ℕ = c.args.geometry in
    let a : ℕ = c.args.axis in
    let m : ℕ = processor_count axes in
    let n : ℕ = c.len-count.result in
    let L : ℕ = c.args.bits in
    let p : ℕ = c.args.place in
    let numbers : List ℕ = c.in_ok-numbers.numbers.items in
    let x : FieldNumbers = c.args.x.now in
    let same : n ≡ axis_length axes a = c.len-count.ensures in
    let all : length numbers * n ≡ m = ap (λ k. k * n) (c.in_ok-numbers.ensures.lines ∙ ap (λ k. k / n) c.requires.count) ∙ all_lines n m (ap (λ k. m % k) same ∙ c.requires.adjacent.3) in
    IfOk-weaker c.line_value.result _ (λ (value : FieldNumbers). value ≡ placed_field axes a p L x)
    (λ value is.
    is ∙ ap (λ (xs : List ℕ). lines_field L n c.len.result xs) c.deref.ensures.value ∙ ap (λ k. lines_field L n k numbers) (c.len.ensures ∙ c.requires.count)
    ∙ lines_are L n m numbers (λ v. operand L x (at_coordinate axes a v p)) (λ v h.
    c.in_ok-numbers.ensures.values (v / n) (line_below (length numbers) n v (omega (arith, same, c.requires.adjacent.2)) (omega (arith, h, all)))
    ∙ ap (λ k. operand L x (v / k * k + p)) same ∙ ap (operand L x) (sym (at_place axes a v p c.requires.adjacent.0)))) c.line_value.ensures
