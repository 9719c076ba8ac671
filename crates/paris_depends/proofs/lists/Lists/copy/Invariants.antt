-- The lists so far.
use Rattle.std.proofs.Common.{◌≡◌, map, take}
use Rattle.paris_depends.specs.ListsInside.{ids_held}
use Rattle.paris_depends.proofs.lists.Lists.copy.Given as goal

abbrev pub invariant-loop-list : goal.invariant-loop-list
invariant-loop-list l = map ids_held l.lists.items ≡ map ids_held (take l.list-index l.list-items)
