-- The numbers so far are the words of the front.
use Rattle.std.proofs.Common.{◌≡◌, take}
use Rattle.paris_c.proofs.inputs.list_of.Given as goal

abbrev pub invariant-loop-word : goal.invariant-loop-word
invariant-loop-word l = l.numbers.items ≡ take l.word-index l.words
