use Rattle.std.proofs.Common.{◌≡◌, ◌∙◌, ℕ, Bool, List, ap, length, subst, sym}
use Rattle.std.proofs.lemmas.List.FromFn.{length-map-range_with_len}
use Rattle.paris_geometry.specs.declared.direction.Direction.{Direction}
use Rattle.paris_geometry.specs.Geometry.{processor_count}
use Rattle.paris_model.specs.Combine.{combined, unit}
use Rattle.paris_model.specs.Store.{everywhere}
use Rattle.paris_model.specs.declared.operators.Combiner.{Combiner}
use Rattle.paris_plane.proofs.Bits.{written}
use Rattle.paris_field.specs.Fields.{AllFit, FieldNumbers, operand}
use Rattle.paris_scan.specs.Lines.{combined_field, scanned}
use Rattle.paris_scan.proofs.Own.{scanned_fit}
use Rattle.paris_scan.proofs.RunValues.{IsWalked, combined_fits, words_shown}
use Rattle.paris_scan.proofs.extremes.scan_words.Goals as goal

pub run_words-requires-clause-selected : goal.run_words-requires-clause-selected
run_words-requires-clause-selected g c =
    ap length (c.plane.ensures ∙ c.in_ok-mask.ensures) ∙ c.requires.selected
    ∙ sym (ap length (c.deref_mut.ensures.value ∙ c.in_ok-words.ensures.value) ∙ length-map-range_with_len (operand c.args.bits c.args.x.now) 0 (length c.args.x.now.numbers) ∙ c.requires.count)

pub from_words-requires-clause-fit : goal.from_words-requires-clause-fit
from_words-requires-clause-fit g c =
    let axes : List ℕ = c.args.along.now.geometry in
    let a : ℕ = c.args.along.now.axis in
    let d : Direction = c.args.along.now.direction in
    let L : ℕ = c.args.bits in
    let op : Combiner = g.E.Extreme.operator in
    let values : ℕ → List ℕ = scanned axes a d c.args.along.now.inclusion c.args.segments.now c.plane.result.now L c.args.x.now in
    let walks : IsWalked axes a d c.args.segments.now c.in_ok-steps.steps.direction c.in_ok-steps.steps.by c.in_ok-steps.steps.begins =
    record { sound = c.in_ok-steps.ensures.sound; within = c.requires.axis; same = c.in_ok-steps.ensures.direction; near = c.in_ok-steps.ensures.by; starts = c.in_ok-steps.ensures.begins } in
    let shown : c.deref.result.now ≡ everywhere (processor_count axes) (λ v. combined op L (unit op L) (values v)) =
    c.deref.ensures.value
    ∙ written _ c.run_words.new.words _ (c.run_words.auto.words ∙ c.deref_mut.ensures.len)
    ∙ words_shown walks op c.args.along.now.inclusion c.plane.result.now L c.args.x.now c.deref_mut.result.now c.run_words.new.words c.requires.count (c.deref_mut.ensures.value ∙ c.in_ok-words.ensures.value) c.run_words.ensures.long c.run_words.ensures.words in
    subst (λ (l : List ℕ). AllFit L l) (sym shown) (combined_fits op (processor_count axes) L values (scanned_fit axes a d c.args.along.now.inclusion c.args.segments.now c.plane.result.now L c.args.x.now))

pub returns : goal.returns
returns g c =
    let axes : List ℕ = c.args.along.now.geometry in
    let a : ℕ = c.args.along.now.axis in
    let d : Direction = c.args.along.now.direction in
    let L : ℕ = c.args.bits in
    let op : Combiner = g.E.Extreme.operator in
    let values : ℕ → List ℕ = scanned axes a d c.args.along.now.inclusion c.args.segments.now c.plane.result.now L c.args.x.now in
    let walks : IsWalked axes a d c.args.segments.now c.in_ok-steps.steps.direction c.in_ok-steps.steps.by c.in_ok-steps.steps.begins =
    record { sound = c.in_ok-steps.ensures.sound; within = c.requires.axis; same = c.in_ok-steps.ensures.direction; near = c.in_ok-steps.ensures.by; starts = c.in_ok-steps.ensures.begins } in
    let shown : c.deref.result.now ≡ everywhere (processor_count axes) (λ v. combined op L (unit op L) (values v)) =
    c.deref.ensures.value
    ∙ written _ c.run_words.new.words _ (c.run_words.auto.words ∙ c.deref_mut.ensures.len)
    ∙ words_shown walks op c.args.along.now.inclusion c.plane.result.now L c.args.x.now c.deref_mut.result.now c.run_words.new.words c.requires.count (c.deref_mut.ensures.value ∙ c.in_ok-words.ensures.value) c.run_words.ensures.long c.run_words.ensures.words in
    let field : List ℕ → FieldNumbers = λ xs. record { width = L; numbers = xs } in
    c.in_ok-value.ensures ∙ ap field shown
    ∙ ap (λ (l : List Bool). combined_field op L (processor_count axes) (scanned axes a d c.args.along.now.inclusion c.args.segments.now l L c.args.x.now)) (c.plane.ensures ∙ c.in_ok-mask.ensures)
