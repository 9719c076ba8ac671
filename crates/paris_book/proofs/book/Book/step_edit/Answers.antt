use Rattle.std.proofs.Common.{sym, ap, ◌∙◌}
use Rattle.paris_events.specs.Edits.{edit_fault, after_edit_by}
use Rattle.paris_book.proofs.DueFaults.{no_fault_due, fault_due}
use Rattle.paris_book.proofs.book.Book.step_edit.Goals as goal

pub returns-then-is_no_memory-clause-due : goal.returns-then-is_no_memory-clause-due
returns-then-is_no_memory-clause-due c =
    no_fault_due c.args.self.now c.args.edit.now c.in-Err.fault c.in-Err.ensures.err.1 (sym c.is_no_memory.ensures ∙ c.if-is_no_memory.true)

pub returns-else-is_no_memory-clause-state : goal.returns-else-is_no_memory-clause-state
returns-else-is_no_memory-clause-state c =
    let due = fault_due (edit_fault c.args.self.now c.args.edit.now) c.in-Err.fault c.in-Err.ensures.err.1 (sym c.is_no_memory.ensures ∙ c.if-is_no_memory.false) in
    c.in-Err.ensures.err.0 ∙ sym (ap (after_edit_by c.args.self.now c.args.edit.now) due)
