-- The room begins with the ids so far.
use Rattle.std.proofs.Common.{◌≡◌, length, map, take}
use Rattle.paris_c.proofs.looks.put_ids.Given as goal

abbrev pub invariant-loop-i : goal.invariant-loop-i
invariant-loop-i l = (length l.room ≡ length l.rows) × (take l.i l.room ≡ take l.i (map (λ row. row.id.0) l.rows))
