use Rattle.std.proofs.Common.{◌∙◌, ap}
use Rattle.std.specs.Option.{option_map}
use Rattle.paris_exec.specs.Tasks.{Task}
use Rattle.paris_events.specs.Orders.{take_reply}
use Rattle.paris_book.proofs.RanIds.{ran_one}
use Rattle.paris_book.proofs.book.Book.run_ids.Goals as goal

pub loop-ran-preserved : goal.loop-ran-preserved
loop-ran-preserved c =
    let ready = c.in-Some.ensures ∙ ap (λ z. option_map (λ (t : Task). t.id) (take_reply z)) c.self.view_is in
    let one = ran_one c.args.self.now c.loop-ran.self c.run_one.new.self c.args.room.now c.loop-ran.room c.put_id.new.room c.loop-ran.ran c.in-Some.id ready c.loop-ran.invariant.state c.in-Ok.ensures.state c.loop-ran.invariant.filled c.loop-ran.invariant.count c.put_id.ensures in
    record { state = one.0; filled = one.1; count = one.2 }
