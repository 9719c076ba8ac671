use Rattle.std.proofs.Common.{◌≢◌, ◌∙◌, arith, below_more, refl}
use Rattle.std.proofs.lemmas.Grind.{get_or-set_at}
use Rattle.std.proofs.lemmas.List.{get_or-set_other, length-set}
use Rattle.paris_field.proofs.pairs.spread.Goals as goal

pub loop-i-preserved : goal.loop-i-preserved
loop-i-preserved c =
    record {
      long = length-set c.loop-i.words c.loop-i.i _ ∙ c.loop-i.invariant.long;
      done = below_more _ _
          (λ j h. let ne : j ≢ c.loop-i.i = omega arith in
          get_or-set_other c.loop-i.words c.loop-i.i j _ 0 ne ∙ c.loop-i.invariant.done j h)
          (get_or-set_at c.loop-i.words c.loop-i.i c.loop-i.i _ 0 refl (omega arith));
    }
