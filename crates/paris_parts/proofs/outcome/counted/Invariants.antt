use Rattle.std.proofs.Common.{◌≡◌, ◌≤◌, ◌*◌}
use Rattle.paris_parts.specs.Texts.{commands_in, refusals_in}
use Rattle.paris_parts.proofs.outcome.counted.Given as goal

abbrev pub invariant-loop-number : goal.invariant-loop-number
invariant-loop-number g l = record {
  commands : l.summary.commands ≡ commands_in l.jobs l.number;
  refusals : l.summary.refusals ≡ refusals_in l.jobs l.number;
  few : l.summary.commands ≤ 1125899906842624 * l.number;
  less : l.summary.refusals ≤ l.summary.commands;
}
