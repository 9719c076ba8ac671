use Rattle.std.proofs.Common.{◌+◌, ◌*◌, arith, refl}
use Rattle.paris_muldiv.proofs.Outcomes.{operand_fits, overflow_of, value_of}
use Rattle.paris_muldiv.proofs.blocks.put_quad_results.Goals as goal

pub quad_results-requires-clause-xs_fit : goal.quad_results-requires-clause-xs_fit
quad_results-requires-clause-xs_fit g c =
    λ i h within. operand_fits c.args.xs.now (256 * c.args.quad + i) _ _ c.requires.x_count (c.quad_operands.ensures.x i h (omega (arith, within)))

pub quad_results-requires-clause-ys_fit : goal.quad_results-requires-clause-ys_fit
quad_results-requires-clause-ys_fit g c =
    λ i h within. operand_fits c.args.ys.now (256 * c.args.quad + i) _ _ c.requires.y_count (c.quad_operands.ensures.y i h (omega (arith, within)))

pub returns-clause-values : goal.returns-clause-values
returns-clause-values g c =
    λ i inside within.
    value_of _ _ _ _ _ _ _ _ (c.put_quad_words.ensures.numbers i inside (omega (arith, within))) (c.quad_results.ensures.values i inside within)
    (c.quad_operands.ensures.x i inside (omega (arith, within))) (c.quad_operands.ensures.y i inside (omega (arith, within)))

pub returns-clause-overflow : goal.returns-clause-overflow
returns-clause-overflow g c =
    λ i inside within.
    overflow_of _ _ _ _ _ _ _ _ refl (c.quad_results.ensures.overflow i inside within)
    (c.quad_operands.ensures.x i inside (omega (arith, within))) (c.quad_operands.ensures.y i inside (omega (arith, within)))
