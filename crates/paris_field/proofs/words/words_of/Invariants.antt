-- The numbers so far are words.
use Rattle.std.proofs.Common.{◌≡◌, take}
use Rattle.paris_field.proofs.words.words_of.Given as goal

abbrev pub invariant-loop-number : goal.invariant-loop-number
invariant-loop-number l = l.words.items ≡ take l.number-index l.numbers
