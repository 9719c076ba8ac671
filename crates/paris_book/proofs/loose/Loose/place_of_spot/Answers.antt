use Rattle.std.proofs.Common.{◌≡◌, Some, sym, subst}
use Rattle.std.specs.Prelude.{IfOk}
use Rattle.paris_program.specs.Program.{place_of}
use Rattle.paris_book.specs.Among.{inputs_of}
use Rattle.paris_events.specs.State.{place_of_spot}
use Rattle.paris_book.proofs.Calls.{spot_is, spot_none}
use Rattle.paris_book.proofs.loose.Loose.place_of_spot.Goals as goal

pub returns-in-After-clause-ok : goal.returns-in-After-clause-ok
returns-in-After-clause-ok c =
    let is = spot_is c.self.inside.board c.self.inside.edits c.self.inside.rows.next_id (inputs_of c.self.inside.inputs) c.self.inside.rows.rows c.args.self.now c.args.spot c.in-After.id c.self.view_is c.in-After.is in
    subst (λ spot. IfOk c.place_after.result (λ place. spot ≡ Some place)) (sym is) c.place_after.ensures.ok

pub returns-in-After-clause-err : goal.returns-in-After-clause-err
returns-in-After-clause-err c =
    let is = spot_is c.self.inside.board c.self.inside.edits c.self.inside.rows.next_id (inputs_of c.self.inside.inputs) c.self.inside.rows.rows c.args.self.now c.args.spot c.in-After.id c.self.view_is c.in-After.is in
    spot_none c.place_after.result (place_of_spot c.args.self.now c.args.spot) (place_of c.self.inside.rows.rows c.in-After.id.0) is c.place_after.ensures.err
