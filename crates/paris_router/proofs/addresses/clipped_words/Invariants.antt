-- The words are those of the numbers below v.
use Rattle.std.proofs.Common.{◌≡◌, ◌≤◌, length, map, take}
use Rattle.paris_router.specs.Mail.{clipped}
use Rattle.paris_router.proofs.addresses.clipped_words.Given as goal

abbrev pub invariant-loop-v : goal.invariant-loop-v
invariant-loop-v l = record {
  long : l.words.len ≡ l.v;
  room : length l.numbers ≤ l.words.cap;
  value : l.words.items ≡ map clipped (take l.v l.numbers);
}
