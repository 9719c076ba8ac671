use Rattle.std.proofs.Common.{◌≡◌, ◌<◌, ◌^◌, drop}
use Rattle.paris_text.specs.Words.{value_from}
use Rattle.paris_text.proofs.words.value_of_first_digits.Given as goal

abbrev pub invariant-loop-i : goal.invariant-loop-i
invariant-loop-i l = record {
  same : value_from l.value (drop l.i l.word) ≡ value_from 0 l.word;
  small : l.value < 10 ^ l.i;
}
