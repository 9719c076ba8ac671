use Rattle.std.proofs.Common.{◌≡◌, ◌++◌, drop, true}
use Rattle.std.specs.List.{AllByRecursion}
use Rattle.paris_names.specs.Names.{is_name}
use Rattle.paris_text.specs.Writing.{tail_text}
use Rattle.paris_text.proofs.writer.push_names.Given as goal

abbrev pub invariant-loop-name : goal.invariant-loop-name
invariant-loop-name l = record {
  text : l.line.items ++ tail_text (drop l.name-index l.names) ≡ l.fn.line.items ++ tail_text l.names;
  fits : AllByRecursion (λ n. is_name n ≡ true) (drop l.name-index l.names) → AllByRecursion (λ n. is_name n ≡ true) l.names;
}
