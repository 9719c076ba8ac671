use Rattle.std.proofs.Common.{◌≡◌, length}
use Rattle.paris_field.proofs.Turn.{Exchanged}
use Rattle.paris_field.proofs.transpose.exchange_block.Given as goal

abbrev pub invariant-loop-row : goal.invariant-loop-row
invariant-loop-row g l = record {
  long : length l.rows ≡ 64;
  exchanged : Exchanged g.row.S l.start l.row l.rows l.fn.rows;
}
