use Rattle.std.proofs.Common.{◌≢◌, ◌+◌, ◌*◌, ◌/◌, ◌∙◌, arith}
use Rattle.paris_field.proofs.Spread.{four_blocks}
use Rattle.paris_field.proofs.quads.put_four_words.Goals as goal

pub returns : goal.returns
returns c =
    record {
      long = c.set_word-4.ensures.long ∙ c.set_word-3.ensures.long ∙ c.set_word-2.ensures.long ∙ c.set_word.ensures.long;
      bits = four_blocks c.args.quad c.args.words c.set_word-4.new.self c.set_word-3.new.self c.set_word-2.new.self c.set_word.new.self c.args.plane.now c.requires.within
          c.set_word.ensures.long c.set_word-2.ensures.long c.set_word-3.ensures.long
          c.set_word.ensures.bits c.set_word-2.ensures.bits c.set_word-3.ensures.bits c.set_word-4.ensures.bits c.set_word-2.ensures.others c.set_word-3.ensures.others c.set_word-4.ensures.others;
      others = λ v inside elsewhere.
          let n0 : v / 64 ≢ 4 * c.args.quad = omega (arith, elsewhere) in
          let n1 : v / 64 ≢ 4 * c.args.quad + 1 = omega (arith, elsewhere) in
          let n2 : v / 64 ≢ 4 * c.args.quad + 2 = omega (arith, elsewhere) in
          let n3 : v / 64 ≢ 4 * c.args.quad + 3 = omega (arith, elsewhere) in
          c.set_word-4.ensures.others v (omega (arith, inside, c.set_word-3.ensures.long, c.set_word-2.ensures.long, c.set_word.ensures.long)) n3
          ∙ c.set_word-3.ensures.others v (omega (arith, inside, c.set_word-2.ensures.long, c.set_word.ensures.long)) n2
          ∙ c.set_word-2.ensures.others v (omega (arith, inside, c.set_word.ensures.long)) n1
          ∙ c.set_word.ensures.others v inside n0;
    }
