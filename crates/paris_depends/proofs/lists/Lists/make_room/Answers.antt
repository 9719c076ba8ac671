use Rattle.std.proofs.Common.{ℕ, ◌<◌, List, [], arith, ap, ◌∙◌, get_or}
use Rattle.paris_depends.specs.Lists.{Lists, room_at, list_at}
use Rattle.paris_depends.specs.ListsInside.{ids_held, room_in}
use Rattle.paris_depends.proofs.Slots.{map-set_kept, get_or-mapped_set, grown, on_ok}
use Rattle.paris_depends.proofs.lists.Lists.make_room.Goals as goal

pub returns-clause-ids : goal.returns-clause-ids
returns-clause-ids c = λ s.
    let kept = map-set_kept ids_held c.widen.new.lists.items c.args.slot c.make_room.new.self c.index_mut.result.now c.in_ok-widen.ensures.ok c.index_mut.ensures.value c.make_room.ensures.ids in
    ap (λ (ls : List (List ℕ)). get_or ls s []) kept ∙ c.widen.ensures.ids s ∙ ap (λ (l : Lists). list_at l s) c.self.view_is

pub returns-clause-more : goal.returns-clause-more
returns-clause-more c = λ s.
    let more = grown room_in c.widen.new.lists.items c.args.slot c.make_room.new.self c.index_mut.result.now s c.index_mut.ensures.value c.make_room.ensures.more in
    let now = ap (λ (l : Lists). room_at l s) c.self.view_is in
    omega (arith, more, now, c.widen.ensures.more s)

pub returns-clause-ok : goal.returns-clause-ok
returns-clause-ok c =
    let now = get_or-mapped_set room_in c.widen.new.lists.items c.args.slot c.make_room.new.self 0 c.in_ok-widen.ensures.ok in
    on_ok _ _ _ (λ (h : 0 < room_in c.make_room.new.self). omega (arith, h, now)) c.make_room.ensures.ok
