use Rattle.std.proofs.Common.{◌≡◌, ℕ, ◌+◌, ◌*◌, ◌/◌, ◌<◌, ◌≤◌, ◌^◌, arith, ap, refl, bit_and}
use Rattle.std.specs.Prelude.{count_ones}
use Rattle.std.specs.Int.Bits.{and_lt}
use lib.Count.{ones-le}
use Rattle.paris_field.specs.Numbers.{bit_in, has}
use Rattle.paris_counts.specs.Masked.{masked_sum}
use Rattle.paris_counts.proofs.Sums.{block_sum, sum_joined}
use Rattle.paris_counts.proofs.counts.count_with.Goals as goal

pub loop-i-init : goal.loop-i-init
unfolding masked_sum
loop-i-init c = record { value = refl; small = omega arith }

pub loop-i-preserved : goal.loop-i-preserved
loop-i-preserved c =
    let i : ℕ = c.loop-i.i in
    let b : ℕ = c.args.start / 64 + i in
    let s : ℕ = c.args.start in
    let wx : ℕ = c.word.result in
    let wm : ℕ = c.word-in-loop-i.result in
    let who = has c.args.mask.now in
    let f = bit_in c.args.x.now in
    let at : s + 64 * i ≡ 64 * b = omega (arith, c.requires.start) in
    let z : bit_and wx wm < 2 ^ 64 = and_lt 64 wx wm (omega (arith, c.word.type_inv)) (omega (arith, c.word-in-loop-i.type_inv)) in
    let here : masked_sum who f (64 * b) 64 ≡ count_ones (bit_and wx wm) =
    block_sum c.args.x.now c.args.mask.now b wx wm z (λ j h. c.word.ensures j h (omega (arith, h, at, c.requires))) (λ j h. c.word-in-loop-i.ensures j h (omega (arith, h, at, c.requires))) in
    let next : masked_sum who f s (64 * (i + 1)) ≡ masked_sum who f s (64 * i + 64) = ap (masked_sum who f s) (let e : 64 * (i + 1) ≡ 64 * i + 64 = omega arith in e) in
    let from : masked_sum who f (s + 64 * i) 64 ≡ masked_sum who f (64 * b) 64 = ap (λ t. masked_sum who f t 64) at in
    let most : count_ones (bit_and wx wm) ≤ 64 = ones-le 64 (bit_and wx wm) z in
    record {
      value = omega (arith, c.loop-i.invariant.value, c.from-ones.ensures, here, next, from, sum_joined who f s (64 * i) 64);
      small = omega (arith, c.loop-i.invariant.small, c.from-ones.ensures, most);
    }
