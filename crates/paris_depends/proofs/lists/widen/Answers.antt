use Rattle.std.proofs.Common.{List, [], ap, ◌∙◌, arith, map, get_or}
use Rattle.paris_depends.specs.ListsInside.{ids_held, room_in}
use Rattle.paris_depends.specs.declared.id_list.IdList.{IdList}
use Rattle.paris_depends.proofs.Slots.{get_or-push_default, pushed_more}
use Rattle.paris_depends.proofs.lists.widen.Goals as goal

pub loop-alloc-preserved : goal.loop-alloc-preserved
loop-alloc-preserved c = record {
  ids = λ s. ap (λ (l : List IdList). get_or (map ids_held l) s []) c.in_ok-push.ensures.items ∙ get_or-push_default ids_held [] c.loop-alloc.lists.items c.new.result s c.new.ensures ∙ c.loop-alloc.invariant.ids s;
  more = λ s.
      let up = pushed_more room_in c.loop-alloc.lists.items c.new.result s in
      let now = ap (λ (l : List IdList). get_or (map room_in l) s 0) c.in_ok-push.ensures.items in
      omega (arith, up, now, c.loop-alloc.invariant.more s);
  longer = omega (arith, c.loop-alloc.invariant.longer, c.in_ok-push.ensures.len);
}
