use Rattle.std.proofs.Common.{◌≢◌, ◌∙◌, [], arith, below_more, refl}
use Rattle.std.proofs.lemmas.Grind.{get_or-set_at}
use Rattle.std.proofs.lemmas.List.{get_or-set_other, length-set}
use Rattle.paris_field.proofs.lanes.next_rows.Goals as goal

pub loop-j-preserved : goal.loop-j-preserved
loop-j-preserved c =
    record {
      long = length-set c.loop-j.eight c.loop-j.j _ ∙ c.loop-j.invariant.long;
      done = below_more _ _
          (λ k h. let ne : k ≢ c.loop-j.j = omega arith in
          get_or-set_other c.loop-j.eight c.loop-j.j k _ [] ne ∙ c.loop-j.invariant.done k h)
          (get_or-set_at c.loop-j.eight c.loop-j.j c.loop-j.j _ [] refl (omega arith));
    }
