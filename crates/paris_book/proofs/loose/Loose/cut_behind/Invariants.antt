-- The sweep has come so far.
use Rattle.std.proofs.Common.{◌-◌, length}
use Rattle.paris_depends.specs.Sweeps.{marked}
use Rattle.paris_book.specs.Steps.{WasSettled}
use Rattle.paris_book.proofs.Sweeping.{Swept}
use Rattle.paris_book.proofs.loose.Loose.cut_behind.Given as goal

abbrev pub invariant-loop-behind : goal.invariant-loop-behind
invariant-loop-behind l = record {
  was : WasSettled l.fn.self l.fn.place;
  swept : Swept was.before l.fn.self (marked l.fresh) l.from l.self;
}

abbrev pub decreases-loop-behind : goal.decreases-loop-behind
decreases-loop-behind l = length l.fn.self.rows - l.from
