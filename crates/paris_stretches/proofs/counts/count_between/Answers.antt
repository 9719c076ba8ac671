use Rattle.std.proofs.Common.{◌≡◌, ℕ, ◌+◌, ◌-◌, ◌*◌, ◌/◌, ◌^◌, ◌<◌, ◌≤◌, ◌∙◌, ap, sym, arith, length, map, max, min}
use Rattle.std.specs.List.{range_with_len}
use Rattle.std.specs.Prelude.{count_ones}
use Rattle.std.proofs.lemmas.List.FromFn.{length-map-range_with_len}
use Rattle.std.proofs.lemmas.List.Sums.{count_by-le-length}
use Rattle.paris_field.specs.Numbers.{number_at}
use Rattle.paris_field.proofs.Turn.{shr_bit}
use Rattle.paris_stretches.specs.Stretches.{count_others, is_other}
use Rattle.paris_stretches.proofs.Others.{count_joined, marked}
use Rattle.paris_stretches.proofs.Spans.{span_after}
use Rattle.paris_stretches.proofs.counts.count_between.Goals as goal

pub overflow_add-count : goal.overflow_add-count
overflow_add-count c =
    let f = number_at c.args.layers.now in
    let from : ℕ = c.max-from.result in
    let place : ℕ = from - 64 * c.loop-block.block in
    let bits : ℕ = c.min-bits.result in
    let at : 64 * c.loop-block.block + place ≡ from = omega (arith, c.max-from.ensures) in
    let here : c.from-count.result ≡ count_others (map f (range_with_len from bits)) =
    c.from-count.ensures ∙ ap count_ones c.low_bits-others.ensures ∙ marked is_other f (c.others_in.result / 2 ^ place) from bits (λ i h.
    shr_bit c.others_in.result place i ∙ c.others_in.ensures (place + i) (omega (arith, h, c.min-bits.ensures)) (omega (arith, h, at, c.min-bits.ensures, c.requires.within))
    ∙ ap (λ v. is_other (f v)) (let e : 64 * c.loop-block.block + (place + i) ≡ from + i = omega (arith, at) in e)) in
    omega (arith, here, c.loop-block.invariant.small, c.min-bits.ensures, c.max-from.ensures, c.ranges.stop.fits, count_by-le-length is_other (map f (range_with_len from bits)), length-map-range_with_len f from bits)

pub loop-block-preserved : goal.loop-block-preserved
loop-block-preserved c =
    let f = number_at c.args.layers.now in
    let b : ℕ = c.loop-block.block in
    let start : ℕ = c.args.start in
    let from : ℕ = c.max-from.result in
    let place : ℕ = from - 64 * b in
    let bits : ℕ = c.min-bits.result in
    let so_far : ℕ = max start (min c.args.stop (64 * b)) - start in
    let at : 64 * b + place ≡ from = omega (arith, c.max-from.ensures) in
    let reached : start + so_far ≡ from = omega (arith, c.max-from.ensures, c.requires.order, c.loop-block-test.true, c.loop-block.auto, c.div_ceil-block-end.ensures) in
    let next : so_far + bits ≡ max start (min c.args.stop (64 * (b + 1))) - start = omega (arith, c.max-from.ensures, c.min-bits.ensures, c.requires.order, c.loop-block-test.true, c.loop-block.auto, c.div_ceil-block-end.ensures) in
    let here : c.from-count.result ≡ count_others (map f (range_with_len from bits)) =
    c.from-count.ensures ∙ ap count_ones c.low_bits-others.ensures ∙ marked is_other f (c.others_in.result / 2 ^ place) from bits (λ i h.
    shr_bit c.others_in.result place i ∙ c.others_in.ensures (place + i) (omega (arith, h, c.min-bits.ensures)) (omega (arith, h, at, c.min-bits.ensures, c.requires.within))
    ∙ ap (λ v. is_other (f v)) (let e : 64 * b + (place + i) ≡ from + i = omega (arith, at) in e)) in
    let joined : count_others (map f (range_with_len start so_far)) + count_others (map f (range_with_len from bits)) ≡ count_others (map f (range_with_len start (max start (min c.args.stop (64 * (b + 1))) - start))) =
    count_joined (map f (range_with_len start so_far)) (map f (range_with_len from bits)) ∙ ap count_others (span_after f start so_far from bits reached) ∙ ap (λ n. count_others (map f (range_with_len start n))) next in
    record {
      value = omega (arith, here, c.loop-block.invariant.value, joined);
      small = omega (arith, here, next, c.loop-block.invariant.small, count_by-le-length is_other (map f (range_with_len from bits)), length-map-range_with_len f from bits);
    }

pub returns : goal.returns
returns c =
    let f = number_at c.args.layers.now in
    let all : max c.args.start (min c.args.stop (64 * c.loop-block.block)) - c.args.start ≡ c.args.stop - c.args.start = omega (arith, c.requires.order, c.loop-block-test.false, c.loop-block.auto, c.div_ceil-block-end.ensures) in
    c.loop-block.invariant.value ∙ ap (λ n. count_others (map f (range_with_len c.args.start n))) all
