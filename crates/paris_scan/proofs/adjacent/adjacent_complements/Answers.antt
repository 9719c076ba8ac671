use Rattle.std.proofs.Common.{◌≡◌, ℕ, ◌*◌, ◌/◌, ◌%◌, ◌<◌, ◌∙◌, List, Bool, true, ap, arith, length}
use Rattle.std.proofs.lemmas.Result.{IfOk-weaker}
use Rattle.std.specs.Prelude.{slice_index}
use Rattle.paris_geometry.specs.Geometry.{axis_length, processor_count}
use Rattle.paris_field.specs.Fields.{FieldNumbers, operand}
use Rattle.paris_field.specs.Numbers.{has, number_at}
use Rattle.paris_model.specs.Lines.{line_values}
use Rattle.paris_scan.specs.Adjacent.{lines_field}
use Rattle.paris_scan.specs.Lines.{of_lines}
use Rattle.paris_scan.specs.Shown.{complement, complement_shown, shown_field}
use Rattle.paris_scan.proofs.Own.{line_mapped}
use Rattle.paris_scan.proofs.OneLine.{all_lines, brought_where, lines_are, total_at}
use Rattle.paris_scan.proofs.Spans.{line_below}
use Rattle.paris_scan.proofs.adjacent.adjacent_complements.Goals as goal

pub returns : goal.returns
returns g c =
    let axes : List ℕ = c.args.geometry in
    let a : ℕ = c.args.axis in
    let m : ℕ = processor_count axes in
    let n : ℕ = c.len-count.result in
    let L : ℕ = c.args.bits in
    let shows : ℕ → List ℕ → ℕ = g.T.Combine.shows in
    let x : ℕ → ℕ = operand L c.args.x.now in
    let who = has c.args.selected.now in
    let lows : List (List Bool) = c.low.result.now in
    let state : List (List Bool) = c.deref.result.now in
    let held : state ≡ c.in_ok-planes.planes.items = c.deref.ensures.value ∙ c.in_ok-state.ensures in
    let totals : List ℕ = c.in_ok-totals.totals.items in
    let lent : c.deref-2.result.now ≡ totals = c.deref-2.ensures.value in
    let turned : List ℕ = c.in_ok-turned.turned.items in
    let count : length state ≡ L = ap length held ∙ c.in_ok-planes.ensures.count ∙ c.low.ensures.count in
    let values : ℕ → List ℕ = of_lines axes a c.args.selected.now L c.args.x.now in
    let same : n ≡ axis_length axes a = c.len-count.ensures in
    let all : length totals * n ≡ m = ap (λ k. k * n) (c.in_ok-totals.ensures.lines ∙ ap (λ k. k / n) c.requires.selected) ∙ all_lines n m (ap (λ k. m % k) same ∙ c.requires.adjacent.3) in
    let each : (u : ℕ) → u < m → who u ≡ true → number_at state u ≡ complement L (x u) = λ u h e.
    ap (λ ps. number_at ps u) held ∙ c.in_ok-planes.ensures.at u (omega (arith, h, c.requires.selected)) ∙ brought_where (who u) (complement (length lows) (number_at lows u)) e
    ∙ ap (λ k. complement k (number_at lows u)) c.low.ensures.count ∙ ap (complement L) (c.low.ensures.at u (omega (arith, h, c.requires.count))) in
    let total : (v : ℕ) → v < m → slice_index totals (v / n) ≡ shows L (line_values axes a who (λ u. complement L (x u)) v) =
    total_at shows L n axes a c.args.selected.now (λ u. complement L (x u)) state totals c.requires.adjacent same c.requires.selected count each c.in_ok-totals.ensures.lines c.in_ok-totals.ensures.values in
    IfOk-weaker c.line_value.result _ (λ (value : FieldNumbers). value ≡ shown_field (complement_shown shows) L m values)
    (λ value is.
    is ∙ ap (λ (xs : List ℕ). lines_field L n c.len.result xs) c.deref-3.ensures.value ∙ ap (λ k. lines_field L n k turned) (c.len.ensures ∙ c.requires.count)
    ∙ lines_are L n m turned (λ v. complement_shown shows L (values v)) (λ v h.
    let there : v / n < length totals = line_below (length totals) n v (omega (arith, same, c.requires.adjacent.2)) (omega (arith, h, all)) in
    c.in_ok-turned.ensures.values (v / n) (omega (arith, there, ap length lent)) ∙ ap (λ (xs : List ℕ). complement L (slice_index xs (v / n))) lent
    ∙ ap (complement L) (total v h ∙ ap (shows L) (line_mapped (complement L) axes a who x v)))) c.line_value.ensures
