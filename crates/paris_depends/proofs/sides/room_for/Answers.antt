use Rattle.std.proofs.Common.{arith, ◌∙◌}
use Rattle.paris_depends.specs.Lists.{room_at}
use Rattle.paris_depends.proofs.KeyTurns.{room-more}
use Rattle.paris_depends.proofs.sides.room_for.Goals as goal

pub loop-key-preserved : goal.loop-key-preserved
loop-key-preserved c = record {
  ids = λ s. c.make_room.ensures.ids s ∙ c.loop-key.invariant.ids s;
  more = λ s. omega (arith, c.make_room.ensures.more s, c.loop-key.invariant.more s);
  ready = room-more c.args.keys.now c.loop-key.key-index c.key-item.result c.loop-key-test.true c.key-item.is c.slot.result (room_at c.loop-key.lists) (room_at c.make_room.new.self) c.slot.ensures.value c.make_room.ensures.more c.in_ok-make_room.ensures.ok c.loop-key.invariant.ready;
}
