use Rattle.std.proofs.Common.{◌+◌, ◌*◌, ◌%◌, ◌^◌, ◌∙◌, ap, arith, get_or, inl, inr}
use Rattle.std.proofs.lemmas.Bool.{cases_lt}
use Rattle.paris_field.proofs.words.put_words_from.Goals as goal

pub loop-block-preserved : goal.loop-block-preserved
loop-block-preserved c =
    record {
      long = c.put_in_block.ensures.long;
      put = λ i inside below.
          elim (cases_lt (c.args.from + i) (64 * c.loop-block.block)) [
            | inl under ↦
                c.put_in_block.ensures.others (c.args.from + i) (omega arith) (λ here _. absurd (omega (arith, here)))
                ∙ c.loop-block.invariant.put i inside under
            | inr here ↦
                c.put_in_block.ensures.put i inside (omega arith) ∙ ap (λ n. get_or c.args.words.now i 0 % 2 ^ n) c.loop-block.auto.planes
          ];
      others = λ v within outside.
          c.put_in_block.ensures.others v within (λ _ h. outside h) ∙ c.loop-block.invariant.others v within outside;
    }
