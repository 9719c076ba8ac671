use Rattle.std.proofs.Common.{◌*◌}
use Rattle.paris_field.proofs.Turn.{Halfway}
use Rattle.paris_field.proofs.transpose.exchange_digits.Given as goal

abbrev pub invariant-loop-block : goal.invariant-loop-block
invariant-loop-block g l = Halfway g.row.S (2 * g.row.S * l.block) l.rows l.fn.rows
