use Rattle.std.proofs.Common.{◌+◌, ◌*◌, ◌%◌, ◌^◌, ◌∙◌, ap, arith, get_or}
use Rattle.paris_field.proofs.Halves.{number_from_bits, same_number}
use Rattle.paris_field.proofs.words.put_word_block.Goals as goal

pub returns-clause-numbers : goal.returns-clause-numbers
returns-clause-numbers c =
    λ i inside within.
    number_from_bits c.put_word_bits.new.planes (64 * c.args.block + i) (get_or c.args.words.now i 0) (λ k h. c.put_word_bits.ensures.bits k (omega arith) i inside within)
    ∙ ap (λ n. get_or c.args.words.now i 0 % 2 ^ n) (omega arith)

pub returns-clause-others : goal.returns-clause-others
returns-clause-others c =
    λ v within elsewhere.
    same_number c.put_word_bits.new.planes c.args.planes.now v (omega arith) (λ k h. c.put_word_bits.ensures.others k h v within elsewhere)
