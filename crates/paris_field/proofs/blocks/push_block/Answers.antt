use Rattle.std.proofs.Common.{◌≤◌, ℕ, ◌*◌, ◌∙◌, ◌++◌, ap, arith, length, take}
use Rattle.paris_field.specs.Numbers.{numbers}
use Rattle.paris_field.proofs.Lists.{numbers_append}
use Rattle.paris_field.proofs.blocks.push_block.Goals as goal

pub returns : goal.returns
returns c =
    let count : ℕ = c.min-count.result in
    let room : count ≤ length c.block_numbers-block_numbers.result = omega arith in
    c.in_ok-extend_from_slice.ensures.items ∙ ap (λ l. l ++ take count c.block_numbers-block_numbers.result) c.requires.below
    ∙ numbers_append (64 * c.args.block) count c.args.layers.now c.block_numbers-block_numbers.result room (λ i h. c.block_numbers-block_numbers.ensures i (omega arith) (omega arith))
    ∙ ap (λ n. numbers n c.args.layers.now) (omega arith)
