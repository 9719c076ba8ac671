use Rattle.std.proofs.Common.{◌≡◌, ◌≢◌, ℕ, ◌+◌, ◌*◌, ◌<◌, [], get_or, length}
use Rattle.paris_field.proofs.lanes.put_spaced_rows.Given as goal

abbrev pub invariant-loop-j : goal.invariant-loop-j
invariant-loop-j l = record {
  long : length l.rows ≡ 64;
  put : (k : ℕ) → k < l.j → get_or l.rows (l.start + 8 * k) [] ≡ get_or l.eight k [];
  others : (k : ℕ) → ((m : ℕ) → m < 8 → k ≢ l.start + 8 * m) → get_or l.rows k [] ≡ get_or l.fn.rows k [];
}
