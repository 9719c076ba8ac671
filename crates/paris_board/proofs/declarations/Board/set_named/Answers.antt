use Rattle.std.proofs.Common.{Some, ap, ◌∙◌}
use Rattle.paris_board.specs.Board.{Board, set_named}
use Rattle.paris_board.proofs.Places.{set_place}
use Rattle.paris_board.proofs.declarations.Board.set_named.Goals as goal

pub returns-in-Some-clause-value : goal.returns-in-Some-clause-value
returns-in-Some-clause-value c =
    ap Some c.new.ensures ∙ c.in-Some.ensures.index ∙ set_place c.self.inside c.args.name ∙ ap (λ (b : Board). set_named b c.args.name) c.self.view_is

pub returns-in-None-clause-value : goal.returns-in-None-clause-value
returns-in-None-clause-value c =
    c.in-None.ensures.index ∙ set_place c.self.inside c.args.name ∙ ap (λ (b : Board). set_named b c.args.name) c.self.view_is
