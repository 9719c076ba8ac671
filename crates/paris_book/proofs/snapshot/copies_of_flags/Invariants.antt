-- The flags so far are copied.
use Rattle.std.proofs.Common.{◌≡◌, take}
use Rattle.paris_book.proofs.snapshot.copies_of_flags.Given as goal

abbrev pub invariant-loop-flags : goal.invariant-loop-flags
invariant-loop-flags l = l.copies.items ≡ take l.flags-index l.all
