use Rattle.std.proofs.Common.{◌≡◌, ◌++◌, ◌^◌, ◌<◌, map, drop}
use Rattle.std.specs.Fmt.{decimal}
use Rattle.std.specs.List.{AllByRecursion}
use Rattle.paris_text.specs.Writing.{tail_text}
use Rattle.paris_text.proofs.writer.push_numbers.Given as goal

abbrev pub invariant-loop-number : goal.invariant-loop-number
invariant-loop-number l = record {
  text : l.line.items ++ tail_text (map decimal (drop l.number-index l.numbers)) ≡ l.fn.line.items ++ tail_text (map decimal l.numbers);
  fits : AllByRecursion (λ n. n < 2 ^ 64) (drop l.number-index l.numbers) → AllByRecursion (λ n. n < 2 ^ 64) l.numbers;
}
