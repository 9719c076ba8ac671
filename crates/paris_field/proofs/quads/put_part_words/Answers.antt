use Rattle.std.proofs.Common.{◌≢◌, ◌+◌, ◌∙◌, arith, below_more, refl}
use Rattle.std.proofs.lemmas.Grind.{get_or-set_at}
use Rattle.std.proofs.lemmas.List.{get_or-set_other, length-set}
use Rattle.paris_field.proofs.quads.put_part_words.Goals as goal

pub loop-j-preserved : goal.loop-j-preserved
loop-j-preserved c =
    let place = c.args.at + c.loop-j.j in
    record {
      long = length-set c.loop-j.words place _ ∙ c.loop-j.invariant.long;
      put = below_more _ _
          (λ j h. let ne : c.args.at + j ≢ place = omega arith in
          get_or-set_other c.loop-j.words place (c.args.at + j) _ 0 ne ∙ c.loop-j.invariant.put j h)
          (get_or-set_at c.loop-j.words place place _ 0 refl (omega arith));
      others = λ i outside.
          let ne : i ≢ place = λ same. omega (arith, same, outside (omega (arith, same))) in
          get_or-set_other c.loop-j.words place i _ 0 ne ∙ c.loop-j.invariant.others i (λ above. omega (arith, outside above));
    }
