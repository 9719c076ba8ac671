use Rattle.std.proofs.Common.{◌≡◌, ◌≢◌, ℕ, ◌+◌, ◌*◌, ◌/◌, ◌<◌, ◌≤◌, get_or, length, false}
use Rattle.paris_model.specs.Elementwise.{binary_overflow, binary_result}
use Rattle.paris_model.specs.Store.{low}
use Rattle.paris_muldiv.proofs.blocks.quad_results.Given as goal

abbrev pub invariant-loop-q : goal.invariant-loop-q
invariant-loop-q g l = record {
  same : length l.overflow ≡ length l.fn.overflow;
  values : (i : ℕ) → i < 64 * l.q → 256 * l.quad + i < length l.fn.overflow → low l.bits (get_or l.xs i 0) ≡ low l.bits (binary_result g.O.NumberOp.operator l.bits (get_or l.fn.xs i 0) (get_or l.ys i 0) 0 0);
  marks : (i : ℕ) → i < 64 * l.q → 256 * l.quad + i < length l.fn.overflow → get_or l.overflow (256 * l.quad + i) false ≡ binary_overflow g.O.NumberOp.operator l.bits (get_or l.fn.xs i 0) (get_or l.ys i 0) 0;
  kept : (i : ℕ) → 64 * l.q ≤ i → get_or l.xs i 0 ≡ get_or l.fn.xs i 0;
  others : (v : ℕ) → v < length l.fn.overflow → v / 256 ≢ l.quad → get_or l.overflow v false ≡ get_or l.fn.overflow v false;
}
