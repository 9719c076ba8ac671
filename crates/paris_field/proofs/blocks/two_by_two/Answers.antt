use Rattle.std.proofs.Common.{◌≢◌, ◌+◌, ◌*◌, ◌%◌, ◌^◌, ℕ, ◌∙◌, ap, arith, below_more, get_or, refl}
use Rattle.std.proofs.lemmas.Grind.{get_or-set_at}
use Rattle.std.proofs.lemmas.List.{get_or-set_other, length-set}
use Rattle.paris_plane.specs.Bits.{word_bit}
use Rattle.paris_field.proofs.Turn.{pair_bit}
use Rattle.paris_field.proofs.blocks.two_by_two.Goals as goal

pub loop-j-preserved : goal.loop-j-preserved
loop-j-preserved c =
    let j : ℕ = c.loop-j.j in
    let pair : ℕ = get_or c.args.words.now (32 + j) 0 % 2 ^ 32 * 2 ^ 32 + get_or c.args.words.now j 0 % 2 ^ 32 in
    record {
      long = length-set c.loop-j.rows j pair ∙ c.loop-j.invariant.long;
      done = below_more _ _
          (λ k h i hi. let ne : k ≢ j = omega arith in
          ap (λ w. word_bit w i) (get_or-set_other c.loop-j.rows j k pair 0 ne) ∙ c.loop-j.invariant.done k h i hi)
          (λ i hi. ap (λ w. word_bit w i) (get_or-set_at c.loop-j.rows j j pair 0 refl (omega arith)) ∙ pair_bit c.args.words.now j i hi);
    }

pub returns : goal.returns
returns c = λ j i hj hi. c.loop-j.invariant.done j (omega arith) i hi
