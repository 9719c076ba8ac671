use Rattle.std.proofs.Common.{◌≡◌, ℕ, ◌+◌, ◌/◌, ◌%◌, ◌^◌, ◌<◌, ◌≤◌, get_or, length}
use Rattle.paris_field.proofs.blocks.put_part.Given as goal

abbrev pub invariant-loop-j : goal.invariant-loop-j
invariant-loop-j g l = record {
  long : length l.numbers ≡ 64;
  part : (j : ℕ) → j < l.j → get_or l.numbers (g.row.FROM + j) 0 ≡ get_or l.rows j 0 / 2 ^ g.row.FROM % 2 ^ g.row.W;
  others : (i : ℕ) → (g.row.FROM ≤ i → g.row.FROM + l.j ≤ i) → get_or l.numbers i 0 ≡ get_or l.fn.numbers i 0;
}
