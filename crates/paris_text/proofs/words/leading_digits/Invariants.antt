-- The bytes so far are digits, and spell the value.
use Rattle.std.proofs.Common.{◌≡◌, ◌<◌, ◌^◌, take, true}
use Rattle.std.specs.List.{list_all}
use Rattle.paris_text.specs.Words.{is_digit, value_from}
use Rattle.paris_text.proofs.words.leading_digits.Given as goal

abbrev pub invariant-loop-i : goal.invariant-loop-i
invariant-loop-i l = record {
  digits : list_all is_digit (take l.i l.bytes) ≡ true;
  same : l.value ≡ value_from 0 (take l.i l.bytes);
  small : l.value < 10 ^ l.i;
}
