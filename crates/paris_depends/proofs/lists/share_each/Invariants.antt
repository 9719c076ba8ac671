-- The ids stay.
use Rattle.std.proofs.Common.{◌≡◌, map}
use Rattle.paris_depends.specs.ListsInside.{ids_held}
use Rattle.paris_depends.proofs.lists.share_each.Given as goal

abbrev pub invariant-loop-list : goal.invariant-loop-list
invariant-loop-list l = map ids_held l.lists ≡ map ids_held l.fn.lists
