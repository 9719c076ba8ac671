use Rattle.std.proofs.lemmas.Slice.Eq.{slice_eq-Decides}
use Rattle.paris_records.proofs.Sameness.{look_decides}
use Rattle.paris_records.proofs.same.are_same_looks.Goals as goal

pub returns : goal.returns
returns c = slice_eq-Decides look_decides c.args.looks.now c.args.others.now c.eq.result c.eq.ensures
