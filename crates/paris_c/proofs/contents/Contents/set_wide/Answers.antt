use Rattle.std.proofs.Common.{◌≡◌, ◌∙◌, sym}
use Rattle.paris_edits.specs.declared.edits.Edit.TheVariants.{Input}
use Rattle.paris_c.specs.Calls.{wide_numbers}
use Rattle.paris_c.proofs.FaultNumbers.{due_numbered, none_due}
use Rattle.paris_c.proofs.contents.Contents.set_wide.Goals as goal

pub returns-in-Err-clause-fault : goal.returns-in-Err-clause-fault
returns-in-Err-clause-fault c =
    let given : c.in-Ok.numbers.items ≡ wide_numbers c.args.given.now = c.in-Ok.ensures in
    λ some few other. rw (← c.in-Some.ensures, ← given, ← c.new-values.ensures) (due_numbered _ c.in-Err.fault c.of_fault.result c.in-Err.ensures.err.1 c.of_fault.ensures.number other)

pub returns-in-Err-clause-memory : goal.returns-in-Err-clause-memory
returns-in-Err-clause-memory c =
    let given : c.in-Ok.numbers.items ≡ wide_numbers c.args.given.now = c.in-Ok.ensures in
    λ memory. rw (← c.in-Some.ensures, ← given, ← c.new-values.ensures) (none_due c.args.self.now.session.state (Input c.in-Some.key c.args.from c.new-values.result) c.in-Err.fault c.in-Err.ensures.err.1 (sym c.of_fault.ensures.number ∙ memory))

pub returns-in_default-numbers_of-clause-fault : goal.returns-in_default-numbers_of-clause-fault
returns-in_default-numbers_of-clause-fault c = λ some few other. rw (← c.in-Some.ensures) (c.without_list.ensures.fault other)

pub returns-in_default-numbers_of-clause-memory : goal.returns-in_default-numbers_of-clause-memory
returns-in_default-numbers_of-clause-memory c = λ memory. rw (← c.in-Some.ensures) (c.without_list.ensures.memory memory)
