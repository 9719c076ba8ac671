use Rattle.std.proofs.Common.{◌+◌, ◌*◌, arith, length}
use Rattle.paris_muldiv.proofs.Outcomes.{operand_fits, overflow_of, value_of}
use Rattle.paris_muldiv.proofs.blocks.put_number_results.Goals as goal

pub block_results-word-requires-clause-xs_fit : goal.block_results-word-requires-clause-xs_fit
block_results-word-requires-clause-xs_fit g c =
    λ i h. operand_fits c.args.xs.now (64 * c.args.block + i) (length c.args.values.now) _ c.requires.x_count (c.block_numbers-x.ensures i (omega (arith, h)) (omega (arith, h)))

pub block_results-word-requires-clause-ys_fit : goal.block_results-word-requires-clause-ys_fit
block_results-word-requires-clause-ys_fit g c =
    λ i h. operand_fits c.args.ys.now (64 * c.args.block + i) (length c.args.values.now) _ c.requires.y_count (c.block_numbers-y.ensures i (omega (arith, h)) (omega (arith, h)))

pub returns-clause-values : goal.returns-clause-values
returns-clause-values g c =
    λ i inside within.
    value_of g.O.NumberOp.operator (length c.args.values.now) _ _ _ _ _ _ (c.put_block.ensures.numbers i inside (omega arith)) (c.block_results-word.ensures.values i (omega arith))
    (c.block_numbers-x.ensures i inside (omega arith)) (c.block_numbers-y.ensures i inside (omega arith))

pub returns-clause-overflow : goal.returns-clause-overflow
returns-clause-overflow g c =
    λ i inside within.
    overflow_of g.O.NumberOp.operator (length c.args.values.now) _ _ _ _ _ _ (c.set_word.ensures.bits i inside within) (c.block_results-word.ensures.overflow i (omega arith))
    (c.block_numbers-x.ensures i inside (omega arith)) (c.block_numbers-y.ensures i inside (omega arith))
