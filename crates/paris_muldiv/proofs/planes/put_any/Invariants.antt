use Rattle.std.proofs.Common.{◌≡◌, ℕ, ◌<◌, length, take, get_or, false, ltb}
use Rattle.paris_field.specs.Numbers.{number_at}
use Rattle.paris_muldiv.proofs.planes.put_any.Given as goal

abbrev pub invariant-loop-k : goal.invariant-loop-k
invariant-loop-k l = record {
  long : length l.any ≡ length l.fn.any;
  bits : (v : ℕ) → v < length l.fn.any → get_or l.any v false ≡ ltb 0 (number_at (take l.k l.planes) v);
}
