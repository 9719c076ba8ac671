use Rattle.std.proofs.Common.{◌≡◌, ◌<◌, length, Some, None, sym, ap, ◌∙◌, subst}
use Rattle.std.proofs.lemmas.List.{length-map}
use Rattle.paris_names.specs.declared.faults.Fault.TheVariants.{NoSet}
use Rattle.paris_board.specs.Board.{Board, set_named, field_fault}
use Rattle.paris_board.specs.BoardFields.{declared_field, board_of}
use Rattle.paris_board.proofs.Growth.{grown_by_field, some_of_ok}
use Rattle.paris_board.proofs.declarations.Board.add_field.Goals as goal

pub invariant_of-self-2 : goal.invariant_of-self-2
invariant_of-self-2 c =
    let free : field_fault (board_of c.self.inside) c.args.name c.args.set c.args.width ≡ None = ap (λ (b : Board). field_fault b c.args.name c.args.set c.args.width) c.self.view_is ∙ sym c.in_default.ensures in
    let declared : c.in_ok-set.set < length (board_of c.self.inside).sets = subst (λ (b : Board). c.in_ok-set.set < length b.sets) (sym c.self.view_is) c.in_ok-set.ensures.declared in
    (grown_by_field c.self.inside c.args.name c.args.set (record { set = c.in_ok-set.set; width = c.args.width }) c.insert.new.self c.self.invariant free declared c.in-Ok.ensures.entries).sound

pub returns-clause-ok : goal.returns-clause-ok
returns-clause-ok c =
    let free : field_fault (board_of c.self.inside) c.args.name c.args.set c.args.width ≡ None = ap (λ (b : Board). field_fault b c.args.name c.args.set c.args.width) c.self.view_is ∙ sym c.in_default.ensures in
    let declared : c.in_ok-set.set < length (board_of c.self.inside).sets = subst (λ (b : Board). c.in_ok-set.set < length b.sets) (sym c.self.view_is) c.in_ok-set.ensures.declared in
    let named : set_named (board_of c.self.inside) c.args.set ≡ Some c.in_ok-set.set = ap (λ (b : Board). set_named b c.args.set) c.self.view_is ∙ some_of_ok (set_named c.args.self.now c.args.set) NoSet c.in_ok-set.set c.in_ok-set.ensures.value in
    let grown = grown_by_field c.self.inside c.args.name c.args.set (record { set = c.in_ok-set.set; width = c.args.width }) c.insert.new.self c.self.invariant free declared c.in-Ok.ensures.entries in
    rw (← c.self.view_is) (
      free,
      c.new.ensures ∙ c.len-place.ensures.len ∙ sym (length-map c.self.inside.fields.entries declared_field),
      (c.in_ok-set.set, named, grown.shown),
    )
