use Rattle.std.proofs.Common.{sym, ◌∙◌}
use Rattle.paris_edits.specs.declared.edits.Edit.TheVariants.{Input}
use Rattle.paris_c.specs.Calls.{wide_numbers}
use Rattle.paris_c.proofs.FaultNumbers.{edit_fits}
use Rattle.paris_c.proofs.contents.Contents.without_list.Goals as goal

pub returns-in-Some-clause-memory : goal.returns-in-Some-clause-memory
returns-in-Some-clause-memory c = λ memory. absurd (edit_fits c.args.self.now.session.state (Input c.args.key c.args.from (wide_numbers c.args.given.now)) c.in-Some.fault (sym c.in-Some.is ∙ c.wide_fault.ensures) (sym c.of_fault.ensures.number ∙ memory))
