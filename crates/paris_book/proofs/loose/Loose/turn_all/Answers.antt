use Rattle.std.proofs.Common.{◌+◌, ◌++◌, ◌∙◌, ap, sym, subst, arith}
use Rattle.paris_book.specs.Rounds.{Advances}
use Rattle.paris_book.specs.Wanted.{turned_all}
use Rattle.paris_book.specs.RanIds.{id_ordered, turned_ids}
use Rattle.paris_book.specs.Steps.{turn_order}
use Rattle.paris_book.proofs.RanIds.{ids_last, turn_told}
use Rattle.paris_book.proofs.Advancing.{turn_advances, advances_more}
use Rattle.paris_book.proofs.Stopping.{one_turned, stops_at}
use Rattle.paris_book.proofs.Wanting.{turned_last}
use Rattle.paris_book.proofs.loose.Loose.turn_all.Goals as goal

pub overflow_add-ran : goal.overflow_add-ran
overflow_add-ran c =
    let turned : Advances c.in-Ok.more c.loop-place.self c.turn_at.new.self =
    subst (λ n. Advances n c.loop-place.self c.turn_at.new.self) (sym c.in-Ok.ensures.ran) (subst (Advances _ c.loop-place.self) (sym c.in-Ok.ensures.state) (turn_advances c.loop-place.self c.in-Some.place)) in
    let advances : Advances (c.loop-place.ran + c.in-Ok.more) c.args.self.now c.turn_at.new.self = advances_more c.loop-place.ran c.in-Ok.more c.args.self.now c.loop-place.self c.turn_at.new.self c.loop-place.invariant.advances turned in
    let few = advances.rows in
    let many = c.unsettled_count-unsettled.ensures in
    omega (arith, few, many)

pub loop-place-preserved : goal.loop-place-preserved
loop-place-preserved c =
    let turned : Advances c.in-Ok.more c.loop-place.self c.turn_at.new.self =
    subst (λ n. Advances n c.loop-place.self c.turn_at.new.self) (sym c.in-Ok.ensures.ran) (subst (Advances _ c.loop-place.self) (sym c.in-Ok.ensures.state) (turn_advances c.loop-place.self c.in-Some.place)) in
    let advances : Advances (c.loop-place.ran + c.in-Ok.more) c.args.self.now c.turn_at.new.self = advances_more c.loop-place.ran c.in-Ok.more c.args.self.now c.loop-place.self c.turn_at.new.self c.loop-place.invariant.advances turned in
    let ids = c.loop-place.invariant in
    let left = ids.left ∙ ap (λ places. turned_ids places c.loop-place.self) c.in-Some.ensures.items ∙ ids_last c.pop.new.self.items c.in-Some.place c.loop-place.self ∙ ap (λ z. id_ordered (turn_order c.loop-place.self c.in-Some.place) ++ turned_ids c.pop.new.self.items z) (sym c.in-Ok.ensures.state) in
    let told = turn_told c.loop-place.self c.in-Some.place c.in-Ok.more c.loop-place.ran c.id_at-id.result c.args.room.now c.loop-place.room c.put_ran.new.room (turned_ids c.args.places.items c.args.self.now) (turned_ids c.pop.new.self.items c.turn_at.new.self) c.in-Ok.ensures.ran c.id_at-id.ensures c.put_ran.ensures.none c.put_ran.ensures.put ids.filled left ids.some in
    record {
      state = ap (turned_all c.pop.new.self.items) c.in-Ok.ensures.state ∙ sym (turned_last c.pop.new.self.items c.in-Some.place c.loop-place.self) ∙ ap (λ places. turned_all places c.loop-place.self) (sym c.in-Some.ensures.items) ∙ c.loop-place.invariant.state;
      advances = advances;
      filled = told.0;
      left = told.1;
      some = told.2;
      turned = one_turned c.args.places.items c.loop-place.left.items c.pop.new.self.items c.in-Some.place c.args.self.now c.loop-place.self ids.turned c.in-Some.ensures.items c.turn_at.new.self c.in-Ok.ensures.state;
    }

pub returns-in_default-turn_at-clause-stopped : goal.returns-in_default-turn_at-clause-stopped
returns-in_default-turn_at-clause-stopped c =
    stops_at c.args.places.items c.loop-place.left.items c.pop.new.self.items c.in-Some.place c.args.self.now c.loop-place.self c.loop-place.invariant.turned c.in-Some.ensures.items c.turn_at.new.self c.in_default-turn_at.ensures.err c.in_default-turn_at.ensures.left
