use Rattle.std.proofs.Common.{◌≡◌, ℕ, ◌+◌, ◌-◌, ◌*◌, ◌<◌, ◌++◌, ◌∙◌, List, ap, refl, sym, subst, arith, length, map, min, max}
use Rattle.std.specs.Prelude.{slice_index}
use Rattle.std.specs.List.{range_with_len}
use Rattle.std.proofs.lemmas.List.FromFn.{length-map-range_with_len}
use Rattle.paris_stretches.specs.Tallies.{IsTally}
use Rattle.paris_stretches.proofs.Spans.{part_is, span_after}
use Rattle.paris_stretches.proofs.tallies.tally_of.Goals as goal

pub add_block-requires-clause-room : goal.add_block-requires-clause-room
add_block-requires-clause-room c =
    let f = slice_index c.args.value.now.numbers in
    let so_far : ℕ = max c.args.start (min c.args.stop (64 * c.loop-block.block)) - c.args.start in
    (map f (range_with_len c.args.start so_far), c.loop-block.invariant, omega (arith, length-map-range_with_len f c.args.start so_far, c.min-count.ensures, c.max-from.ensures, c.ranges.stop.fits, c.requires.order, c.loop-block-test.true, c.loop-block.auto, c.div_ceil-block-end.ensures))

pub loop-block-preserved : goal.loop-block-preserved
loop-block-preserved c =
    let f = slice_index c.args.value.now.numbers in
    let b : ℕ = c.loop-block.block in
    let start : ℕ = c.args.start in
    let from : ℕ = c.max-from.result in
    let count : ℕ = c.min-count.result in
    let so_far : ℕ = max start (min c.args.stop (64 * b)) - start in
    let at : 64 * b + (from - 64 * b) ≡ from = omega (arith, c.max-from.ensures) in
    let reached : start + so_far ≡ 64 * b + (from - 64 * b) = omega (arith, c.max-from.ensures, c.requires.order, c.loop-block-test.true, c.loop-block.auto, c.div_ceil-block-end.ensures) in
    let next : so_far + count ≡ max start (min c.args.stop (64 * (b + 1))) - start = omega (arith, c.max-from.ensures, c.min-count.ensures, c.requires.order, c.loop-block-test.true, c.loop-block.auto, c.div_ceil-block-end.ensures) in
    subst (λ xs. IsTally xs c.add_block.new.self)
    (span_after f start so_far (64 * b + (from - 64 * b)) count reached ∙ ap (λ n. map f (range_with_len start n)) next)
    (c.add_block.ensures (map f (range_with_len start so_far)) c.loop-block.invariant)

pub returns : goal.returns
returns c =
    let f = slice_index c.args.value.now.numbers in
    let all : max c.args.start (min c.args.stop (64 * c.loop-block.block)) - c.args.start ≡ c.args.stop - c.args.start = omega (arith, c.requires.order, c.loop-block-test.false, c.loop-block.auto, c.div_ceil-block-end.ensures) in
    subst (λ xs. IsTally xs c.loop-block.tally)
    (ap (λ n. map f (range_with_len c.args.start n)) all ∙ sym (part_is f c.args.value.now.numbers c.args.start c.args.stop c.args.start c.requires.order c.requires.within (λ i h. refl)))
    c.loop-block.invariant
