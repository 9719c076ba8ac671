use Rattle.std.proofs.Common.{◌≡◌, ◌∙◌, ℕ, ◌+◌, ◌*◌, ◌/◌, ◌%◌, ◌<◌, ◌∷◌, [], ap, sym, arith, length, List, Bool, subst}
use Rattle.std.specs.Int.{IsPowerOfTwo}
use Rattle.std.proofs.Math.Nat.{mod-lt}
use Rattle.paris_geometry.specs.Geometry.{axis_length, processor_count, stride}
use Rattle.paris_geometry.proofs.Powers.{length_power}
use Rattle.paris_geometry.proofs.Strides.{above, geometry_powers, length_positive}
use Rattle.paris_model.specs.Lines.{values_where}
use Rattle.paris_field.specs.Numbers.{AllOf, number_at}
use Rattle.paris_scan.specs.Blocks.{block, block_start, row}
use Rattle.paris_scan.proofs.Added.{own_fits}
use Rattle.paris_scan.proofs.Gathered.{block_line}
use Rattle.paris_scan.proofs.Rows.{all_periods, period_count, place_of, start_of}
use Rattle.paris_scan.proofs.columns.column_planes.Goals as goal

-- numbers of words and of places that the set has
words_are : (s S : ℕ) → S ≡ s → s % 64 ≡ 0 → 64 * (S / 64) ≡ s
words_are s S e whole = omega (arith, ap (λ x. x % 64) e, e, whole)

sizes : (axes : List ℕ) (a S V n : ℕ) → a < length axes → 0 < stride axes a → 0 < axis_length axes a → S ≡ stride axes a → V ≡ processor_count axes → n ≡ axis_length axes a → stride axes a % 64 ≡ 0 → V / S / n * (n * (64 * (S / 64))) ≡ processor_count axes
sizes axes a S V n within some more eS eV en whole =
    let many : V / S / n ≡ above axes a = ap (λ x. x / S / n) eV ∙ ap (λ x. processor_count axes / x / n) eS ∙ ap (λ x. processor_count axes / stride axes a / x) en ∙ period_count axes a within some more in
    ap (λ x. x * (n * (64 * (S / 64)))) many
    ∙ ap (λ x. above axes a * (x * (64 * (S / 64)))) en
    ∙ ap (λ x. above axes a * (axis_length axes a * x)) (words_are (stride axes a) S eS whole)
    ∙ all_periods axes a within

pub fold_rows-requires-clause-power : goal.fold_rows-requires-clause-power
fold_rows-requires-clause-power g c = subst IsPowerOfTwo (sym c.len-count.ensures) (length_power c.args.geometry c.args.axis c.stride-stride.ensures.sound c.requires.axis)

pub fold_rows-requires-clause-state : goal.fold_rows-requires-clause-state
fold_rows-requires-clause-state g c =
    let size = sizes c.args.geometry c.args.axis c.stride-stride.result c.vps.result c.len-count.result c.requires.axis c.stride-stride.ensures.positive (length_positive c.args.geometry c.args.axis (geometry_powers c.args.geometry c.stride-stride.ensures.sound) c.requires.axis) c.stride-stride.ensures.value c.vps.ensures.value c.len-count.ensures c.requires.columns in
    subst (λ m. AllOf m c.args.state.items) (sym size) c.requires.state

pub fold_rows-requires-clause-period : goal.fold_rows-requires-clause-period
fold_rows-requires-clause-period g c =
    let axes : List ℕ = c.args.geometry in
    let a : ℕ = c.args.axis in
    let row : c.len-count.result * (64 * (c.stride-stride.result / 64)) ≡ axis_length axes a * stride axes a =
    ap (λ x. x * (64 * (c.stride-stride.result / 64))) c.len-count.ensures ∙ ap (λ x. axis_length axes a * x) (words_are (stride axes a) c.stride-stride.result c.stride-stride.ensures.value c.requires.columns) in
    omega (arith, row, c.stride-stride.ensures.within, c.vps.ensures.value, c.vps.ensures.few)

pub fold_rows-requires-clause-small : goal.fold_rows-requires-clause-small
fold_rows-requires-clause-small g c =
    let size = sizes c.args.geometry c.args.axis c.stride-stride.result c.vps.result c.len-count.result c.requires.axis c.stride-stride.ensures.positive (length_positive c.args.geometry c.args.axis (geometry_powers c.args.geometry c.stride-stride.ensures.sound) c.requires.axis) c.stride-stride.ensures.value c.vps.ensures.value c.len-count.ensures c.requires.columns in
    omega (arith, size, c.vps.ensures.value, c.vps.ensures.few)

pub repeated_planes-requires-clause-small : goal.repeated_planes-requires-clause-small
repeated_planes-requires-clause-small g c =
    let size = sizes c.args.geometry c.args.axis c.stride-stride.result c.vps.result c.len-count.result c.requires.axis c.stride-stride.ensures.positive (length_positive c.args.geometry c.args.axis (geometry_powers c.args.geometry c.stride-stride.ensures.sound) c.requires.axis) c.stride-stride.ensures.value c.vps.ensures.value c.len-count.ensures c.requires.columns in
    omega (arith, size, c.vps.ensures.value, c.vps.ensures.few)

pub repeated_planes-requires-clause-planes : goal.repeated_planes-requires-clause-planes
repeated_planes-requires-clause-planes g c = subst (AllOf (c.vps.result / c.stride-stride.result / c.len-count.result * (64 * (c.stride-stride.result / 64)))) (sym c.deref.ensures.value) c.in_ok-totals.ensures.long

pub returns-clause-long : goal.returns-clause-long
returns-clause-long g c =
    let size = sizes c.args.geometry c.args.axis c.stride-stride.result c.vps.result c.len-count.result c.requires.axis c.stride-stride.ensures.positive (length_positive c.args.geometry c.args.axis (geometry_powers c.args.geometry c.stride-stride.ensures.sound) c.requires.axis) c.stride-stride.ensures.value c.vps.ensures.value c.len-count.ensures c.requires.columns in
    subst (λ m. AllOf m c.in_ok-planes.planes.items) size c.in_ok-planes.ensures.long

pub returns-clause-shows : goal.returns-clause-shows
returns-clause-shows g c =
    λ L selected value count fits shown v h.
    let axes : List ℕ = c.args.geometry in
    let a : ℕ = c.args.axis in
    let S : ℕ = c.stride-stride.result in
    let W : ℕ = 64 * (S / 64) in
    let n : ℕ = c.len-count.result in
    let P : ℕ = c.vps.result / S / n in
    let own : ℕ → List ℕ = λ u. values_where selected value (u ∷ []) in
    let size : P * (n * W) ≡ processor_count axes = sizes c.args.geometry c.args.axis c.stride-stride.result c.vps.result c.len-count.result c.requires.axis c.stride-stride.ensures.positive (length_positive c.args.geometry c.args.axis (geometry_powers c.args.geometry c.stride-stride.ensures.sound) c.requires.axis) c.stride-stride.ensures.value c.vps.ensures.value c.len-count.ensures c.requires.columns in
    let wide : W ≡ stride axes a = words_are (stride axes a) S c.stride-stride.ensures.value c.requires.columns in
    let some : 0 < W = omega (arith, wide, c.stride-stride.ensures.positive) in
    let more : 0 < n = omega (arith, c.len-count.ensures, length_positive axes a (geometry_powers axes c.stride-stride.ensures.sound) c.requires.axis) in
    let p : ℕ = v / W / n in
    let place = place_of W n P v some more (omega (arith, h, size)) in
    let first : p * (n * W) + v % W ≡ block_start W n v = (let e : p * (n * W) ≡ p * n * W = omega arith in ap (λ x. x + v % W) e) ∙ start_of W n v in
    ap (number_at c.in_ok-planes.planes.items) place.1
    ∙ c.in_ok-planes.ensures.numbers p (v / W % n) (v % W) place.0 (mod-lt (v / W) more) (mod-lt v some)
    ∙ ap (λ (ps : List (List Bool)). number_at ps (p * W + v % W)) c.deref.ensures.value
    ∙ c.in_ok-totals.ensures.lines L own count (λ u. own_fits selected value L u (fits u)) (λ u there. shown u (omega (arith, there, size))) p (v % W) place.0 (mod-lt v some)
    ∙ ap (λ u. g.C.Combine.shows L (row own W n u)) first
    ∙ ap (λ s. g.C.Combine.shows L (block own s n v)) wide
    ∙ ap (λ m. g.C.Combine.shows L (block own (stride axes a) m v)) c.len-count.ensures
    ∙ ap (g.C.Combine.shows L) (block_line axes a selected value v)
