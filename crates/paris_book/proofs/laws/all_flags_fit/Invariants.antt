-- The flags so far fit.
use Rattle.std.proofs.Common.{All, take}
use Rattle.paris_book.specs.Laws.{FlagsFit}
use Rattle.paris_book.proofs.laws.all_flags_fit.Given as goal

abbrev pub invariant-loop-flags : goal.invariant-loop-flags
invariant-loop-flags l = All FlagsFit (take l.flags-index l.all)
