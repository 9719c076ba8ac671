use Rattle.std.proofs.Common.{◌≡◌, ℕ, ◌+◌, ◌-◌, ◌*◌, ◌<◌, ◌||◌, ◌∙◌, List, Bool, [], false, ap, sym, arith, drop, get_or, length}
use Rattle.std.proofs.lemmas.List.{get_or_read}
use Rattle.paris_plane.specs.Laws.{or_by_bit}
use Rattle.paris_plane.specs.Words.{zero_bit}
use Rattle.paris_plane.specs.Bits.{word_bit}
use Rattle.paris_field.specs.Numbers.{number_at, plane_at}
use Rattle.paris_field.proofs.Numbers.{none_above, number_at_from}
use Rattle.paris_stretches.specs.Stretches.{is_other}
use Rattle.paris_stretches.proofs.Others.{other_more}
use Rattle.paris_stretches.proofs.counts.others_in.Goals as goal

pub loop-k-init : goal.loop-k-init
loop-k-init c = λ i h u. zero_bit i h ∙ sym (ap is_other (none_above c.args.layers.now (64 * c.args.block + i)))

pub loop-k-preserved : goal.loop-k-preserved
loop-k-preserved c =
    let k : ℕ = c.loop-k.k - 1 in
    let ps : List (List Bool) = c.args.layers.now in
    let x : List Bool = c.index-layers-k.result in
    let below : k < length ps = omega arith in
    let at : x ≡ plane_at ps k = get_or_read ps k x below c.index-layers-k.is [] in
    let e : c.loop-k.k ≡ k + 1 = omega arith in
    λ i h u.
    let v : ℕ = 64 * c.args.block + i in
    or_by_bit c.loop-k.word c.word-word.result i
    ∙ ap (λ b. b || word_bit c.word-word.result i) (c.loop-k.invariant i h u ∙ ap (λ j. is_other (number_at (drop j ps) v)) e)
    ∙ ap (λ b. is_other (number_at (drop (k + 1) ps) v) || b) (c.word-word.ensures i h (omega (arith, u, ap length at, c.requires.long k below)))
    ∙ other_more (get_or x v false) (number_at (drop (k + 1) ps) v) (number_at (drop k ps) v) (number_at_from ps k v x below at)
