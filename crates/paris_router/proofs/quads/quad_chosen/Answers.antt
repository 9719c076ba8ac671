use Rattle.std.proofs.Common.{◌≡◌, ◌≢◌, ℕ, ◌+◌, ◌*◌, ◌/◌, ◌%◌, ◌∙◌, ap, arith, inl, inr}
use Rattle.std.proofs.lemmas.Bool.{cases_lt}
use Rattle.std.proofs.lemmas.Grind.{get_or-set_at}
use Rattle.std.proofs.lemmas.List.{get_or-set_other, length-set}
use Rattle.paris_plane.specs.Bits.{word_bit}
use Rattle.paris_field.specs.Numbers.{has}
use Rattle.paris_router.proofs.quads.quad_chosen.Goals as goal

pub loop-q-preserved : goal.loop-q-preserved
loop-q-preserved c =
    let q : ℕ = c.loop-q.q in
    let word : ℕ = c.word.result in
    record {
      long = length-set c.loop-q.words q word ∙ c.loop-q.invariant.long;
      done = λ i below within.
          elim (cases_lt i (64 * q)) [
            | inl under ↦
                let ne : i / 64 ≢ q = omega (arith, under) in
                ap (λ w. word_bit w (i % 64)) (get_or-set_other c.loop-q.words q (i / 64) word 0 ne) ∙ c.loop-q.invariant.done i under within
            | inr here ↦
                let same : i / 64 ≡ q = omega (arith, here, below) in
                let there : 64 * (4 * c.args.quad + q) + i % 64 ≡ 256 * c.args.quad + i = omega (arith, here, below) in
                ap (λ w. word_bit w (i % 64)) (get_or-set_at c.loop-q.words q (i / 64) word 0 same (omega arith))
                ∙ c.word.ensures (i % 64) (omega arith) (omega (arith, there, within))
                ∙ ap (has c.args.selected.now) there
          ];
    }

pub returns : goal.returns
returns c = λ i hi within. c.loop-q.invariant.done i (omega (arith, hi, within)) within
