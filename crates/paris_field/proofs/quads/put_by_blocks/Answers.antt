use Rattle.std.proofs.Common.{◌≡◌, ◌≢◌, ℕ, ◌+◌, ◌-◌, ◌*◌, ◌/◌, ◌%◌, ◌^◌, ◌∙◌, ap, arith, drop, get_or, length, sym, inl, inr}
use Rattle.std.proofs.lemmas.Bool.{cases_lt}
use Rattle.std.proofs.lemmas.List.{get_or-drop, get_or-take}
use Rattle.paris_field.specs.Numbers.{number_at}
use Rattle.paris_field.proofs.quads.put_by_blocks.Goals as goal

pub loop-q-preserved : goal.loop-q-preserved
loop-q-preserved c =
    let q : ℕ = c.loop-q.q in
    let b : ℕ = 4 * c.args.quad + q in
    record {
      long = c.put_word_block.ensures.long;
      numbers = λ i below within.
          elim (cases_lt i (64 * q)) [
            | inl under ↦
                let ne : (256 * c.args.quad + i) / 64 ≢ b = omega (arith, under) in
                c.put_word_block.ensures.others (256 * c.args.quad + i) within ne ∙ c.loop-q.invariant.numbers i under within
            | inr here ↦
                let j : ℕ = i - 64 * q in
                let place : 64 * q + j ≡ i = omega (arith, here) in
                let there : 64 * b + j ≡ 256 * c.args.quad + i = omega (arith, here) in
                ap (number_at c.put_word_block.new.planes) (sym there)
                ∙ c.put_word_block.ensures.numbers j (omega (arith, here, below)) (omega (arith, here, within))
                ∙ ap (λ x. x % 2 ^ length c.loop-q.planes) (get_or-take _ (drop (64 * q) c.args.words.now) j 0 (omega (arith, here, below)) ∙ get_or-drop (64 * q) c.args.words.now j 0 ∙ ap (λ u. get_or c.args.words.now u 0) place)
                ∙ ap (λ n. get_or c.args.words.now i 0 % 2 ^ n) (omega arith)
          ];
      others = λ v within elsewhere.
          let ne : v / 64 ≢ b = omega (arith, elsewhere) in
          c.put_word_block.ensures.others v within ne ∙ c.loop-q.invariant.others v within elsewhere;
    }
