use Rattle.std.proofs.Common.{◌≡◌, ◌∙◌, ℕ, ◌<◌, ◌++◌, Bool, List, Some, ap, drop, length, subst, sym, take}
use Rattle.std.specs.Prelude.{Option, sum}
use Rattle.std.proofs.lemmas.List.FromFn.{length-map-range_with_len}
use Rattle.paris_geometry.specs.declared.direction.Direction.{Direction}
use Rattle.paris_geometry.specs.Geometry.{processor_count}
use Rattle.paris_model.specs.declared.operators.Combiner.TheVariants.{Sum}
use Rattle.paris_plane.proofs.Bits.{written}
use Rattle.paris_field.specs.Fields.{AllFit, FieldNumbers, operand}
use Rattle.paris_field.specs.Numbers.{has}
use Rattle.paris_field.proofs.Places.{length-bits_everywhere}
use Rattle.paris_scan.specs.declared.results.Combined.{Combined}
use Rattle.paris_scan.specs.Lines.{combined_field, scanned, sums_overflow}
use Rattle.paris_scan.specs.Running.{AreRunning, added, low_sums, over_sums, own_word, shown_value}
use Rattle.paris_scan.proofs.RunValues.{IsWalked, field_shows}
use Rattle.paris_scan.proofs.Totals.{field_adds, field_sum, lows_fit, totals_combined, totals_overflow}
use Rattle.paris_scan.proofs.running.scan_running.Goals as goal

pub make_sums-requires-clause-selected : goal.make_sums-requires-clause-selected
make_sums-requires-clause-selected c =
    ap length (c.plane.ensures ∙ c.in_ok-mask.ensures) ∙ c.requires.selected
    ∙ sym (ap length (c.deref_mut.ensures.value ∙ c.in_ok-words.ensures.value) ∙ length-map-range_with_len (operand c.args.bits c.args.x.now) 0 (length c.args.x.now.numbers) ∙ c.requires.count)

pub shown_sums-requires-clause-long : goal.shown_sums-requires-clause-long
shown_sums-requires-clause-long c =
    let axes : List ℕ = c.args.along.now.geometry in
    let sums : ℕ → ℕ = field_sum axes c.args.along.now.axis c.args.along.now.direction c.args.segments.now c.plane.result.now c.args.bits c.args.x.now in
    let words : List ℕ = c.deref_mut.result.now in
    let walks : IsWalked axes c.args.along.now.axis c.args.along.now.direction c.args.segments.now c.in_ok-steps.steps.direction c.in_ok-steps.steps.by c.in_ok-steps.steps.begins =
    record { sound = c.in_ok-steps.ensures.sound; within = c.requires.axis; same = c.in_ok-steps.ensures.direction; near = c.in_ok-steps.ensures.by; starts = c.in_ok-steps.ensures.begins } in
    ap length (c.make_sums.ensures.overflow sums
    (field_adds walks c.plane.result.now c.args.bits c.args.x.now words c.requires.count (c.deref_mut.ensures.value ∙ c.in_ok-words.ensures.value)))
    ∙ length-bits_everywhere (length words) _
    ∙ sym (ap length (written _ c.make_sums.new.words _ (c.make_sums.auto.words ∙ c.deref_mut.ensures.len)) ∙ c.make_sums.ensures.long)

pub shown_sums-requires-clause-fit : goal.shown_sums-requires-clause-fit
shown_sums-requires-clause-fit c =
    let axes : List ℕ = c.args.along.now.geometry in
    let sums : ℕ → ℕ = field_sum axes c.args.along.now.axis c.args.along.now.direction c.args.segments.now c.plane.result.now c.args.bits c.args.x.now in
    let words : List ℕ = c.deref_mut.result.now in
    let walks : IsWalked axes c.args.along.now.axis c.args.along.now.direction c.args.segments.now c.in_ok-steps.steps.direction c.in_ok-steps.steps.by c.in_ok-steps.steps.begins =
    record { sound = c.in_ok-steps.ensures.sound; within = c.requires.axis; same = c.in_ok-steps.ensures.direction; near = c.in_ok-steps.ensures.by; starts = c.in_ok-steps.ensures.begins } in
    subst (λ (l : List ℕ). AllFit c.args.bits l)
    (sym (written _ c.make_sums.new.words _ (c.make_sums.auto.words ∙ c.deref_mut.ensures.len)
    ∙ c.make_sums.ensures.words sums
    (field_adds walks c.plane.result.now c.args.bits c.args.x.now words c.requires.count (c.deref_mut.ensures.value ∙ c.in_ok-words.ensures.value))))
    (lows_fit (length words) c.args.bits sums)

pub returns : goal.returns
returns c =
    let axes : List ℕ = c.args.along.now.geometry in
    let a : ℕ = c.args.along.now.axis in
    let d : Direction = c.args.along.now.direction in
    let n : ℕ = processor_count axes in
    let L : ℕ = c.args.bits in
    let words : List ℕ = c.deref_mut.result.now in
    let walks : IsWalked axes c.args.along.now.axis c.args.along.now.direction c.args.segments.now c.in_ok-steps.steps.direction c.in_ok-steps.steps.by c.in_ok-steps.steps.begins =
    record { sound = c.in_ok-steps.ensures.sound; within = c.requires.axis; same = c.in_ok-steps.ensures.direction; near = c.in_ok-steps.ensures.by; starts = c.in_ok-steps.ensures.begins } in
    let begins : List Bool = c.in_ok-steps.steps.begins in
    let sums : ℕ → ℕ = field_sum axes a d c.args.segments.now c.plane.result.now L c.args.x.now in
    let made : List ℕ = take c.in_ok-words.words.len (c.make_sums.new.words ++ drop (length c.make_sums.new.words) c.in_ok-words.words.items) in
    let values : ℕ → List ℕ = scanned axes a d c.args.along.now.inclusion c.args.segments.now c.plane.result.now L c.args.x.now in
    let shown : ℕ → ℕ = shown_value 0 c.args.along.now.inclusion c.in_ok-steps.steps.direction c.in_ok-steps.steps.by (has begins) sums in
    let is : made ≡ c.make_sums.new.words = written _ c.make_sums.new.words _ (c.make_sums.auto.words ∙ c.deref_mut.ensures.len) in
    let adds : AreRunning (added (own_word (has c.plane.result.now) words)) 0 c.in_ok-steps.steps.direction c.in_ok-steps.steps.by (length words) (has begins) sums =
    field_adds walks c.plane.result.now L c.args.x.now words c.requires.count (c.deref_mut.ensures.value ∙ c.in_ok-words.ensures.value) in
    let same : length made ≡ length words = ap length is ∙ c.make_sums.ensures.long in
    let count : length made ≡ n = same ∙ ap length (c.deref_mut.ensures.value ∙ c.in_ok-words.ensures.value) ∙ length-map-range_with_len (operand L c.args.x.now) 0 (length c.args.x.now.numbers) ∙ c.requires.count in
    let at : (v : ℕ) → v < n → shown v ≡ sum (values v) =
    field_shows walks sum c.args.along.now.inclusion c.plane.result.now L c.args.x.now in
    let of : List Bool → Combined = λ l.
    record {
      value = combined_field Sum L n (scanned axes a d c.args.along.now.inclusion c.args.segments.now l L c.args.x.now);
      overflow = Some (sums_overflow L n (scanned axes a d c.args.along.now.inclusion c.args.segments.now l L c.args.x.now));
    } in
    let combined : FieldNumbers → Option (List Bool) → Combined = λ x o. record { value = x; overflow = o } in
    ap (λ x. combined x c.in_ok-combined.combined.overflow) (c.in_ok-combined.ensures.value sums (is ∙ c.make_sums.ensures.words sums adds ∙ ap (λ m. low_sums L m sums) (sym same)) ∙ totals_combined n (length made) L shown values count at)
    ∙ ap (combined (combined_field Sum L n values)) (c.in_ok-combined.ensures.overflow sums (c.make_sums.ensures.overflow sums adds ∙ ap (λ m. over_sums L m sums) (sym same)) ∙ ap Some (totals_overflow n (length made) L shown values count at))
    ∙ ap of (c.plane.ensures ∙ c.in_ok-mask.ensures)
