use Rattle.std.proofs.Common.{◌≡◌, ◌+◌, ◌*◌, ◌%◌, ◌^◌, ◌∙◌, ap, arith, get_or, false, sym}
use Rattle.paris_field.specs.Numbers.{plane_at}
use Rattle.paris_field.proofs.Halves.{number_from_bits, same_number}
use Rattle.paris_field.proofs.blocks.put_block_words.Goals as goal

pub returns-clause-numbers : goal.returns-clause-numbers
returns-clause-numbers c =
    λ i inside within.
    number_from_bits c.put_rows.new.planes (64 * c.args.block + i) (get_or c.args.words i 0) (λ k h.
    let there : 0 + k ≡ k = omega arith in
    ap (λ j. get_or (plane_at c.put_rows.new.planes j) (64 * c.args.block + i) false) (sym there)
    ∙ c.put_rows.ensures.bits k (omega arith) (omega arith) i inside within)
    ∙ ap (λ n. get_or c.args.words i 0 % 2 ^ n) (omega arith)

pub returns-clause-others : goal.returns-clause-others
returns-clause-others c =
    λ v within elsewhere.
    same_number c.put_rows.new.planes c.args.planes.now v (omega arith) (λ k h. c.put_rows.ensures.others k h v within elsewhere)
