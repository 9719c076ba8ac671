use Rattle.std.proofs.Common.{ap, sym, ◌∙◌}
use Rattle.paris_edits.specs.declared.edits.Edit.TheVariants.{Input}
use Rattle.paris_session.specs.Transcript.{Sitting}
use Rattle.paris_c.specs.declared.contents.Contents.{Contents}
use Rattle.paris_c.proofs.FaultNumbers.{none_due}
use Rattle.paris_c.proofs.contents.Contents.set.Goals as goal

pub returns-in-Ok-clause-set : goal.returns-in-Ok-clause-set
returns-in-Ok-clause-set c =
    let with_session : Sitting → Contents = λ s. record c.args.self.now { session = s } in
    let done = c.in-Ok.ensures.ok in
    λ ok. rw (← c.in-Some.ensures) (done.0, ap with_session done.1)

pub returns-in-Err-clause-memory : goal.returns-in-Err-clause-memory
returns-in-Err-clause-memory c = λ memory. rw (← c.in-Some.ensures) (none_due c.args.self.now.session.state (Input c.in-Some.key c.args.from c.args.words.now) c.in-Err.fault c.in-Err.ensures.err.1 (sym c.of_fault.ensures.number ∙ memory))
