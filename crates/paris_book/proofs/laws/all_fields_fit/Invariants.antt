-- The fields so far fit.
use Rattle.std.proofs.Common.{All, take}
use Rattle.paris_book.specs.Laws.{InputFits}
use Rattle.paris_book.proofs.laws.all_fields_fit.Given as goal

abbrev pub invariant-loop-input : goal.invariant-loop-input
invariant-loop-input l = All InputFits (take l.input-index l.fields)
