use Rattle.std.proofs.Common.{length}
use Rattle.paris_desk.specs.Closing.{AreWithin}
use Rattle.paris_desk.proofs.closing.first_ahead.Given as goal

abbrev pub invariant-loop-number : goal.invariant-loop-number
invariant-loop-number g l = AreWithin l.number (length l.known) l.seats
