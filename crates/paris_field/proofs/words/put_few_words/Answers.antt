use Rattle.std.proofs.Common.{◌+◌, ◌%◌, ◌^◌, ◌≢◌, ◌∙◌, ap, arith, below_more, get_or}
use Rattle.paris_field.proofs.words.put_few_words.Goals as goal

pub loop-i-preserved : goal.loop-i-preserved
loop-i-preserved c =
    record {
      long = c.put_number.ensures.long;
      put = below_more _ _
          (λ j h. let ne : c.args.from + j ≢ c.args.from + c.loop-i.i = omega arith in
          c.put_number.ensures.others (c.args.from + j) ne ∙ c.loop-i.invariant.put j h)
          (c.put_number.ensures.number ∙ ap (λ n. get_or c.args.words.now c.loop-i.i 0 % 2 ^ n) c.loop-i.auto.planes);
      before = λ u h.
          let ne : u ≢ c.args.from + c.loop-i.i = omega arith in
          c.put_number.ensures.others u ne ∙ c.loop-i.invariant.before u h;
      after = λ u h.
          let ne : u ≢ c.args.from + c.loop-i.i = omega arith in
          c.put_number.ensures.others u ne ∙ c.loop-i.invariant.after u (omega arith);
    }
