use Rattle.std.proofs.Common.{◌≡◌, ℕ, ◌+◌, ◌-◌, ◌*◌, ◌∙◌, ap, arith, get_or, sym, inl, inr}
use Rattle.std.proofs.lemmas.Bool.{cases_lt}
use Rattle.paris_field.specs.Numbers.{number_at}
use Rattle.paris_field.proofs.quads.words_by_blocks.Goals as goal

pub loop-q-preserved : goal.loop-q-preserved
loop-q-preserved c =
    let q : ℕ = c.loop-q.q in
    record {
      done = λ i below within.
          elim (cases_lt i (64 * q)) [
            | inl under ↦
                c.put_part_words.ensures.others i (λ above. absurd (omega (arith, under, above))) ∙ c.loop-q.invariant.done i under within
            | inr here ↦
                let j : ℕ = i - 64 * q in
                let place : 64 * q + j ≡ i = omega (arith, here) in
                let there : 64 * (4 * c.args.quad + q) + j ≡ 256 * c.args.quad + i = omega (arith, here) in
                ap (λ u. get_or c.put_part_words.new.words u 0) (sym place)
                ∙ c.put_part_words.ensures.put j (omega (arith, here, below))
                ∙ c.block_words-part.ensures j (omega (arith, here, below)) (omega (arith, here, within))
                ∙ ap (number_at c.args.layers.now) there
          ];
    }

pub returns : goal.returns
returns c = λ i hi within. c.loop-q.invariant.done i (omega (arith, hi, within)) within
