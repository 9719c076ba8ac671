use Rattle.std.proofs.Common.{◌≡◌, ℕ, ◌+◌, ◌<◌, ◌≤◌, false, get_or, length}
use Rattle.paris_model.specs.Elementwise.{binary_overflow, binary_result}
use Rattle.paris_model.specs.Store.{low}
use Rattle.paris_plane.specs.Bits.{word_bit}
use Rattle.paris_muldiv.proofs.blocks.word_results.Given as goal

abbrev pub invariant-loop-i : goal.invariant-loop-i
invariant-loop-i g l = record {
  long : length l.xs ≡ 256;
  values : (j : ℕ) → j < l.i → low l.bits (get_or l.xs (l.at + j) 0) ≡ low l.bits (binary_result g.O.NumberOp.operator l.bits (get_or l.fn.xs (l.at + j) 0) (get_or l.ys (l.at + j) 0) 0 0);
  marks : (j : ℕ) → j < l.i → word_bit l.word j ≡ binary_overflow g.O.NumberOp.operator l.bits (get_or l.fn.xs (l.at + j) 0) (get_or l.ys (l.at + j) 0) 0;
  clear : (j : ℕ) → l.i ≤ j → j < 64 → word_bit l.word j ≡ false;
  others : (k : ℕ) → (l.at ≤ k → l.at + l.i ≤ k) → get_or l.xs k 0 ≡ get_or l.fn.xs k 0;
}
