use Rattle.std.proofs.Common.{◌≡◌, ◌≢◌, ℕ, ◌+◌, ◌*◌, ◌<◌, ◌^◌, ◌∙◌, ap, arith, get_or, take, drop, false, below_more, refl}
use Rattle.std.proofs.lemmas.Grind.{get_or-set_at}
use Rattle.std.proofs.lemmas.List.{get_or-set_other, length-set, take_rest}
use Rattle.paris_field.specs.Numbers.{number_at, plane_at}
use Rattle.paris_field.proofs.Halves.{word_is, halves}
use Rattle.paris_field.proofs.blocks.block_numbers.Goals as goal

pub loop-i-preserved : goal.loop-i-preserved
loop-i-preserved c =
    let i : ℕ = c.loop-i.i in
    let v : ℕ = 64 * c.args.block + i in
    let low : ℕ = get_or c.low_words-low.result i 0 in
    let high : ℕ = get_or c.low_words-high.result i 0 in
    let low_fits : low < 2 ^ 64 = omega arith in
    let high_fits : high < 2 ^ 64 = omega arith in
    let rest = take_rest c.args.layers.now c.min.result in
    let value : v < c.args.vps → high * 2 ^ 64 + low ≡ number_at c.args.layers.now v = λ within.
    let low_is : low ≡ number_at (take 64 c.args.layers.now) v = word_is low c.args.layers.now v low_fits (λ k h. c.low_words-low.ensures i k (omega arith) h within) in
    let high_is : high ≡ number_at (take 64 (drop c.min.result c.args.layers.now)) v = word_is high (drop c.min.result c.args.layers.now) v high_fits (λ k h. c.low_words-high.ensures i k (omega arith) h within ∙ ap (λ l. get_or (plane_at l k) v false) rest) in
    omega (
      arith,
      low_is,
      high_is,
      ap (λ m. number_at (take 64 (drop m c.args.layers.now)) v) c.min.ensures,
      halves c.args.layers.now v c.requires.narrow,
    ) in
    record {
      long = length-set c.loop-i.numbers i _ ∙ c.loop-i.invariant.long;
      done = below_more _ _
          (λ j h within. let ne : j ≢ i = omega arith in
          get_or-set_other c.loop-i.numbers i j _ 0 ne ∙ c.loop-i.invariant.done j h within)
          (λ within. get_or-set_at c.loop-i.numbers i i _ 0 refl (omega arith) ∙ value within);
    }
