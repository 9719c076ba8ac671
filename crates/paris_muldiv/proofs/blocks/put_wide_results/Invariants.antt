use Rattle.std.proofs.Common.{◌≡◌, ℕ, ◌*◌, ◌<◌, get_or, length, false}
use Rattle.paris_model.specs.Elementwise.{binary_overflow, binary_result}
use Rattle.paris_model.specs.Store.{low}
use Rattle.paris_field.specs.Numbers.{AllOf, number_at}
use Rattle.paris_muldiv.proofs.blocks.put_wide_results.Given as goal

abbrev pub invariant-loop-block : goal.invariant-loop-block
invariant-loop-block g l = record {
  long : length l.overflow ≡ length l.fn.overflow;
  planes : AllOf (length l.fn.overflow) l.values;
  values : (v : ℕ) → v < length l.fn.overflow → v < 64 * l.block → number_at l.values v ≡ low (length l.fn.values) (binary_result g.O.NumberOp.operator (length l.fn.values) (number_at l.xs v) (number_at l.ys v) 0 0);
  overflow : (v : ℕ) → v < length l.fn.overflow → v < 64 * l.block → get_or l.overflow v false ≡ binary_overflow g.O.NumberOp.operator (length l.fn.values) (number_at l.xs v) (number_at l.ys v) 0;
}
