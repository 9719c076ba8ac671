use Rattle.paris_board.proofs.Fields.{field_at_place}
use Rattle.paris_board.proofs.declarations.Board.declaration.Goals as goal

pub returns : goal.returns
returns c =
    let known = field_at_place c.self.inside c.args.self.now c.number.result c.args.field c.index.result.now c.self.view_is c.number.ensures.value c.self.invariant c.index.ensures in
    record { set = known.set_is; declared = known.of_board.declared; width = known.width_is; positive = known.of_board.positive; small = known.of_board.small }
