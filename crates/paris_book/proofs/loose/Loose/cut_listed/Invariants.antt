-- The rows of the ids so far were looked at.
use Rattle.std.proofs.Common.{◌≡◌, take}
use Rattle.paris_book.specs.Marks.{ids_in}
use Rattle.paris_book.specs.Touched.{cut_listed}
use Rattle.paris_book.proofs.loose.Loose.cut_listed.Given as goal

abbrev pub invariant-loop-id : goal.invariant-loop-id
invariant-loop-id l = l.self ≡ cut_listed (ids_in (take l.id-index l.ids)) l.fn.self
