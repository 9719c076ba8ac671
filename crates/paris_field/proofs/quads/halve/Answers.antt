use Rattle.std.proofs.Common.{◌≡◌, ◌≢◌, ℕ, ◌/◌, ◌%◌, ◌^◌, ◌∙◌, ap, arith, below_more, get_or, refl}
use Rattle.std.proofs.lemmas.Grind.{get_or-set_at}
use Rattle.std.proofs.lemmas.List.{get_or-set_other, length-set}
use Rattle.paris_field.proofs.quads.halve.Goals as goal

pub loop-i-preserved : goal.loop-i-preserved
loop-i-preserved c =
    let i : ℕ = c.loop-i.i in
    let old : get_or c.loop-i.low i 0 ≡ get_or c.args.low.now i 0 = c.loop-i.invariant.rest i (omega arith) in
    record {
      low_long = length-set c.loop-i.low i _ ∙ c.loop-i.invariant.low_long;
      high_long = length-set c.loop-i.high i _ ∙ c.loop-i.invariant.high_long;
      lows = below_more _ _
          (λ j h. let ne : j ≢ i = omega (arith, h) in
          get_or-set_other c.loop-i.low i j _ 0 ne ∙ c.loop-i.invariant.lows j h)
          (get_or-set_at c.loop-i.low i i _ 0 refl (omega arith) ∙ ap (λ w. w % 2 ^ 32) old);
      rest = λ j h.
          let ne : j ≢ i = omega (arith, h) in
          get_or-set_other c.loop-i.low i j _ 0 ne ∙ c.loop-i.invariant.rest j (omega (arith, h));
      highs = below_more _ _
          (λ j h. let ne : j ≢ i = omega (arith, h) in
          get_or-set_other c.loop-i.high i j _ 0 ne ∙ c.loop-i.invariant.highs j h)
          (get_or-set_at c.loop-i.high i i _ 0 refl (omega arith) ∙ ap (λ w. w / 2 ^ 32) old);
    }
