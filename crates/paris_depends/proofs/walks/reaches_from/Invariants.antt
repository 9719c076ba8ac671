-- The reaches of the keys so far.
use Rattle.std.proofs.Common.{◌≡◌, ℕ, ◌<◌, ◌≤◌, ◌+◌, ◌*◌, ◌^◌, map, take, length}
use Rattle.paris_depends.specs.Reaches.{reach_at}
use Rattle.paris_depends.proofs.walks.reaches_from.Given as goal

abbrev pub invariant-loop-i : goal.invariant-loop-i
invariant-loop-i g l = record {
  reaches : l.reaches.items ≡ map (λ k. reach_at l.index.rows k l.place) (take l.i l.keys);
  looks : (b : ℕ) → length l.program.rows < 2 ^ b → l.looks ≤ l.fn.looks + l.i * (2 * b + 1);
  more : l.fn.looks ≤ l.looks;
}
