use Rattle.paris_records.proofs.Sameness.{edit_decides}
use Rattle.paris_records.proofs.same.is_same_edit.Goals as goal

pub returns : goal.returns
returns c = rw c.eq.ensures (edit_decides c.args.edit.now c.args.other.now)
