use Rattle.std.proofs.Common.{◌+◌, sym, arith}
use Rattle.paris_book.proofs.InOrder.{had_skipped, had_turn, had_few, had_fewer, had_all}
use Rattle.paris_book.proofs.loose.Loose.run_in_order.Goals as goal

pub overflow_add-ran : goal.overflow_add-ran
overflow_add-ran g c =
    let turn = had_skipped c.args.self.now c.loop-place.from c.loop-place.ran c.loop-place.self c.loop-place.invariant c.in-Some.place (sym c.in-Some.ensures.value) in
    let next = had_turn c.args.self.now c.in-Some.place c.loop-place.ran c.loop-place.self turn.3 c.requires c.ids_are_apart.ensures turn.0 c.turn_at.new.self c.in-Ok.more turn.1 turn.2 c.in-Ok.ensures.state c.in-Ok.ensures.ran in
    let few = had_few c.args.self.now (c.in-Some.place + 1) (c.loop-place.ran + c.in-Ok.more) c.turn_at.new.self next in
    let as_many = next.as_many in
    let before = c.loop-place.invariant.as_many in
    omega (arith, few, as_many, before, c.in-Some.ensures.few)

pub returns-in_default-turn_at-clause-fewer : goal.returns-in_default-turn_at-clause-fewer
returns-in_default-turn_at-clause-fewer g c =
    let turn = had_skipped c.args.self.now c.loop-place.from c.loop-place.ran c.loop-place.self c.loop-place.invariant c.in-Some.place (sym c.in-Some.ensures.value) in
    had_fewer c.args.self.now c.in-Some.place c.loop-place.ran c.loop-place.self turn.3 c.requires c.ids_are_apart.ensures turn.0 turn.1 turn.2 c.in_default-turn_at.ensures.left

pub loop-place-preserved : goal.loop-place-preserved
loop-place-preserved g c =
    let turn = had_skipped c.args.self.now c.loop-place.from c.loop-place.ran c.loop-place.self c.loop-place.invariant c.in-Some.place (sym c.in-Some.ensures.value) in
    had_turn c.args.self.now c.in-Some.place c.loop-place.ran c.loop-place.self turn.3 c.requires c.ids_are_apart.ensures turn.0 c.turn_at.new.self c.in-Ok.more turn.1 turn.2 c.in-Ok.ensures.state c.in-Ok.ensures.ran

pub returns-clause-settled : goal.returns-clause-settled
returns-clause-settled g c = had_all c.args.self.now c.loop-place.from c.loop-place.ran c.loop-place.self c.loop-place.invariant (sym c.in_default.ensures.value)
