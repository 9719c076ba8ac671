use Rattle.std.proofs.Common.{◌≡◌, ℕ, ◌*◌, ◌/◌, ◌%◌, ◌<◌, ◌^◌, ◌∙◌, List, Bool, Some, ap, arith, leb, length, sym}
use Rattle.std.specs.Prelude.{slice_index, sum}
use Rattle.paris_geometry.specs.Geometry.{axis_length, processor_count}
use Rattle.paris_field.specs.Fields.{FieldNumbers, operand}
use Rattle.paris_field.specs.Numbers.{bits_everywhere, has}
use Rattle.paris_field.proofs.Places.{bits_same}
use Rattle.paris_model.specs.declared.operators.Combiner.TheVariants.{Sum}
use Rattle.paris_model.specs.Combine.{combined, unit}
use Rattle.paris_scan.specs.declared.results.Combined.{Combined}
use Rattle.paris_scan.specs.Adjacent.{lines_field}
use Rattle.paris_scan.specs.Lines.{combined_field, of_lines, sums_overflow}
use Rattle.paris_scan.proofs.Units.{combined_sum}
use Rattle.paris_scan.proofs.OneLine.{all_lines, lines_are, total_at}
use Rattle.paris_scan.proofs.Spans.{line_below}
use Rattle.paris_scan.proofs.adjacent.adjacent_sums.Goals as goal

pub returns : goal.returns
returns c =
    let axes : List ℕ = c.args.geometry in
    let a : ℕ = c.args.axis in
    let m : ℕ = processor_count axes in
    let n : ℕ = c.len-count.result in
    let L : ℕ = c.args.bits in
    let limit : ℕ = c.power-limit.result in
    let sums : List ℕ = c.in_ok-sums.sums.items in
    let rests : List ℕ = c.in_ok-rests.rests.items in
    let reach : List Bool = c.in_ok-reach.reach.items in
    let values : ℕ → List ℕ = of_lines axes a c.args.selected.now L c.args.x.now in
    let pair : FieldNumbers → List Bool → Combined = λ x o. record { value = x; overflow = Some o } in
    let same : n ≡ axis_length axes a = c.len-count.ensures in
    let all : length sums * n ≡ m = ap (λ k. k * n) (c.in_ok-sums.ensures.lines ∙ ap (λ k. k / n) c.requires.selected) ∙ all_lines n m (ap (λ k. m % k) same ∙ c.requires.adjacent.3) in
    let there : (v : ℕ) → v < m → v / n < length sums = λ v h. line_below (length sums) n v (omega (arith, same, c.requires.adjacent.2)) (omega (arith, h, all)) in
    let at : (v : ℕ) → v < m → slice_index sums (v / n) ≡ sum (values v) =
    total_at (λ _ xs. sum xs) L n axes a c.args.selected.now (operand L c.args.x.now) c.low.result.now sums c.requires.adjacent same c.requires.selected c.low.ensures.count
    (λ v h _. c.low.ensures.at v (omega (arith, h, c.requires.count))) c.in_ok-sums.ensures.lines c.in_ok-sums.ensures.values in
    let value : c.in_ok-value.value ≡ combined_field Sum L m values =
    c.in_ok-value.ensures ∙ ap (λ (xs : List ℕ). lines_field L n c.len-2.result xs) c.deref-4.ensures.value ∙ ap (λ k. lines_field L n k rests) (c.len-2.ensures ∙ c.requires.count)
    ∙ lines_are L n m rests (λ v. combined Sum L (unit Sum L) (values v)) (λ v h.
    c.in_ok-rests.ensures.values (v / n) (omega (arith, there v h, ap length c.deref-3.ensures.value)) ∙ ap (λ (xs : List ℕ). slice_index xs (v / n) % limit) c.deref-3.ensures.value
    ∙ ap (λ s. s % limit) (at v h) ∙ ap (λ k. sum (values v) % k) c.power-limit.ensures ∙ sym (combined_sum L (values v))) in
    let over : c.from_plane.result ≡ sums_overflow L m values =
    c.from_plane.ensures ∙ c.in_ok-overflow.ensures ∙ ap (λ (bs : List Bool). bits_everywhere c.len.result (λ v. has bs (v / n))) c.deref-2.ensures.value
    ∙ ap (λ k. bits_everywhere k (λ v. has reach (v / n))) (c.len.ensures ∙ c.requires.count)
    ∙ bits_same m (λ v. has reach (v / n)) (λ v. leb (2 ^ L) (sum (values v))) (λ v h.
    c.in_ok-reach.ensures.values (v / n) (omega (arith, there v h, ap length c.deref.ensures.value)) ∙ ap (λ (xs : List ℕ). leb limit (slice_index xs (v / n))) c.deref.ensures.value
    ∙ ap (leb limit) (at v h) ∙ ap (λ k. leb k (sum (values v))) c.power-limit.ensures) in
    ap (λ x. pair x c.from_plane.result) value ∙ ap (pair (combined_field Sum L m values)) over
