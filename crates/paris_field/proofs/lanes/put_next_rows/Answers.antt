use Rattle.std.proofs.Common.{◌≢◌, ◌+◌, ◌∙◌, [], arith, below_more, refl}
use Rattle.std.proofs.lemmas.Grind.{get_or-set_at}
use Rattle.std.proofs.lemmas.List.{get_or-set_other, length-set}
use Rattle.paris_field.proofs.lanes.put_next_rows.Goals as goal

pub loop-j-preserved : goal.loop-j-preserved
loop-j-preserved c =
    let place = c.args.start + c.loop-j.j in
    record {
      long = length-set c.loop-j.rows place _ ∙ c.loop-j.invariant.long;
      put = below_more _ _
          (λ k h. let ne : c.args.start + k ≢ place = omega arith in
          get_or-set_other c.loop-j.rows place (c.args.start + k) _ [] ne ∙ c.loop-j.invariant.put k h)
          (get_or-set_at c.loop-j.rows place place _ [] refl (omega arith));
      others = λ k outside.
          get_or-set_other c.loop-j.rows place k _ [] (outside c.loop-j.j (omega arith)) ∙ c.loop-j.invariant.others k outside;
    }

pub returns : goal.returns
returns c =
    record {
      put = λ j h. c.loop-j.invariant.put j (omega arith);
      others = λ k outside. c.loop-j.invariant.others k outside;
    }
