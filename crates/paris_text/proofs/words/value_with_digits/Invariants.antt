use Rattle.std.proofs.Common.{◌≡◌, ◌<◌, ◌^◌, drop}
use Rattle.paris_text.specs.Words.{value_from}
use Rattle.paris_text.proofs.words.value_with_digits.Given as goal

abbrev pub invariant-loop-byte : goal.invariant-loop-byte
invariant-loop-byte l = record {
  same : value_from l.value (drop l.byte-index l.word) ≡ value_from l.fn.start l.word;
  fits : l.value < 2 ^ 128;
}
