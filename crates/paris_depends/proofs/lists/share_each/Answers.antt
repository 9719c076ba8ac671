use Rattle.std.proofs.Common.{sym, ap, ◌∙◌, arith}
use Rattle.paris_depends.specs.ListsInside.{ids_held}
use Rattle.paris_depends.proofs.Slots.{map-set_kept}
use Rattle.paris_depends.proofs.lists.share_each.Goals as goal

pub loop-list-preserved : goal.loop-list-preserved
loop-list-preserved c =
    map-set_kept ids_held c.loop-list.lists c.loop-list.list-index c.share.new.self c.list-item.result (omega arith) c.list-item.is (c.share.ensures ∙ sym (ap ids_held c.list-item.is)) ∙ c.loop-list.invariant
