-- The reaches of the keys so far are added.
use Rattle.std.proofs.Common.{◌≡◌, ℕ, ◌<◌, ◌≤◌, ◌+◌, ◌*◌, ◌^◌, ◌++◌, map, take, length, unwrap_or, []}
use Rattle.paris_depends.specs.Index.{keys_written}
use Rattle.paris_depends.specs.Reaches.{reach_at}
use Rattle.paris_depends.proofs.reaches.add_writes.Given as goal

abbrev pub invariant-loop-i : goal.invariant-loop-i
invariant-loop-i g l = record {
  reaches : l.reaches.items ≡ l.fn.reaches.items ++ map (λ k. reach_at l.index.rows k l.place) (take l.i (unwrap_or (keys_written l.index.rows l.id.0) []));
  looks : (b : ℕ) → length l.program.rows < 2 ^ b → l.looks ≤ l.fn.looks + l.i * (2 * b + 1);
  more : l.fn.looks ≤ l.looks;
}
