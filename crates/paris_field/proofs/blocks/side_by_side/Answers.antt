use Rattle.std.proofs.Common.{◌≢◌, ◌∙◌, ap, arith, below_more, refl}
use Rattle.std.proofs.lemmas.Grind.{get_or-set_at}
use Rattle.std.proofs.lemmas.List.{get_or-set_other, length-set}
use Rattle.paris_plane.specs.Bits.{word_bit}
use Rattle.paris_field.proofs.Turn.{joined_bit}
use Rattle.paris_field.proofs.blocks.side_by_side.Goals as goal

pub loop-j-preserved : goal.loop-j-preserved
loop-j-preserved c =
    record {
      long = length-set c.loop-j.rows c.loop-j.j c.joined.result ∙ c.loop-j.invariant.long;
      done = below_more _ _
          (λ k h i hi. let ne : k ≢ c.loop-j.j = omega arith in
          ap (λ w. word_bit w i) (get_or-set_other c.loop-j.rows c.loop-j.j k c.joined.result 0 ne) ∙ c.loop-j.invariant.done k h i hi)
          (λ i hi. ap (λ w. word_bit w i) (get_or-set_at c.loop-j.rows c.loop-j.j c.loop-j.j c.joined.result 0 refl (omega arith) ∙ c.joined.ensures) ∙ joined_bit c.args.words.now c.loop-j.j i hi);
    }

pub returns : goal.returns
returns c = λ j i hj hi. c.loop-j.invariant.done j (omega arith) i hi
