use Rattle.std.proofs.Common.{◌≡◌, None, sym, ap, ◌∙◌}
use Rattle.std.proofs.lemmas.List.{length-map}
use Rattle.paris_board.specs.Board.{Board, set_fault}
use Rattle.paris_board.specs.BoardFields.{declared_set, board_of}
use Rattle.paris_board.proofs.Growth.{grown_by_set}
use Rattle.paris_board.proofs.declarations.Board.add_set.Goals as goal

pub invariant_of-self-2 : goal.invariant_of-self-2
invariant_of-self-2 c =
    let free : set_fault (board_of c.self.inside) c.args.name ≡ None = ap (λ (b : Board). set_fault b c.args.name) c.self.view_is ∙ sym c.in_default.ensures.value in
    (grown_by_set c.self.inside c.args.name c.args.geometry c.insert.new.self c.self.invariant free c.in-Ok.ensures.entries).sound

pub returns-clause-ok : goal.returns-clause-ok
returns-clause-ok c =
    let free : set_fault (board_of c.self.inside) c.args.name ≡ None = ap (λ (b : Board). set_fault b c.args.name) c.self.view_is ∙ sym c.in_default.ensures.value in
    let grown = grown_by_set c.self.inside c.args.name c.args.geometry c.insert.new.self c.self.invariant free c.in-Ok.ensures.entries in
    rw (← c.self.view_is) (
      free,
      c.new.ensures ∙ c.len-place.ensures.len ∙ sym (length-map c.self.inside.sets.entries declared_set),
      grown.shown,
    )
