use Rattle.paris_board.proofs.Fields.{axes_at}
use Rattle.paris_board.proofs.declarations.Board.geometry.Goals as goal

pub returns : goal.returns
returns c = rw (← c.self.view_is, ← c.number.ensures.value) (axes_at c.self.inside c.number.result c.index.result.now c.index.ensures)
