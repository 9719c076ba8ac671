use Rattle.std.proofs.Common.{◌≡◌, ℕ, ◌+◌, ◌-◌, ◌*◌, ◌/◌, ◌%◌, ◌^◌, ◌∙◌, ap, arith, get_or, sym, inl, inr}
use Rattle.std.proofs.lemmas.Bool.{cases_lt}
use Rattle.paris_field.specs.Numbers.{number_at}
use Rattle.paris_field.proofs.quads.pairs_by_blocks.Goals as goal

pub loop-q-preserved : goal.loop-q-preserved
loop-q-preserved c =
    let q : ℕ = c.loop-q.q in
    record {
      lows = λ i below within.
          elim (cases_lt i (64 * q)) [
            | inl under ↦
                ap (λ w. w % 2 ^ 32) (c.put_part_words.ensures.others i (λ above. absurd (omega (arith, under, above)))) ∙ c.loop-q.invariant.lows i under within
            | inr here ↦
                let j : ℕ = i - 64 * q in
                let place : 64 * q + j ≡ i = omega (arith, here) in
                let there : 64 * (4 * c.args.quad + q) + j ≡ 256 * c.args.quad + i = omega (arith, here) in
                ap (λ u. get_or c.put_part_words.new.words u 0 % 2 ^ 32) (sym place)
                ∙ ap (λ w. w % 2 ^ 32) (c.put_part_words.ensures.put j (omega (arith, here, below)))
                ∙ c.block_pairs-part.ensures.low j (omega (arith, here, below)) (omega (arith, here, within))
                ∙ ap (number_at c.args.xs.now) there
          ];
      highs = λ i below within.
          elim (cases_lt i (64 * q)) [
            | inl under ↦
                ap (λ w. w / 2 ^ 32) (c.put_part_words.ensures.others i (λ above. absurd (omega (arith, under, above)))) ∙ c.loop-q.invariant.highs i under within
            | inr here ↦
                let j : ℕ = i - 64 * q in
                let place : 64 * q + j ≡ i = omega (arith, here) in
                let there : 64 * (4 * c.args.quad + q) + j ≡ 256 * c.args.quad + i = omega (arith, here) in
                ap (λ u. get_or c.put_part_words.new.words u 0 / 2 ^ 32) (sym place)
                ∙ ap (λ w. w / 2 ^ 32) (c.put_part_words.ensures.put j (omega (arith, here, below)))
                ∙ c.block_pairs-part.ensures.high j (omega (arith, here, below)) (omega (arith, here, within))
                ∙ ap (number_at c.args.ys.now) there
          ];
    }

pub returns : goal.returns
returns c =
    record {
      low = λ i hi within. c.loop-q.invariant.lows i (omega (arith, hi, within)) within;
      high = λ i hi within. c.loop-q.invariant.highs i (omega (arith, hi, within)) within;
    }
