use Rattle.std.proofs.Common.{◌≡◌, ℕ, List, Some, sym, ap, ◌∙◌, subst}
use Rattle.std.specs.Prelude.{IsSome, remove}
use Rattle.std.specs.Option.{unwrap_or}
use Rattle.paris_program.specs.Program.{ids_of, place_of, place_in}
use Rattle.paris_depends.specs.Index.{Footprint}
use Rattle.paris_book.specs.Entries.{Entry}
use Rattle.paris_book.specs.SharedIndexes.{indexed_in}
use Rattle.paris_book.proofs.Indexing.{found_in_index, fewer_indexed, ids_indexed}
use Rattle.paris_book.specs.Indexed.{is_unsettled_entry}
use Rattle.paris_book.proofs.Holding.{held_still}
use Rattle.paris_book.proofs.program_rows.Rows.delete.Goals as goal

pub own_row-requires-clause-of : goal.own_row-requires-clause-of
own_row-requires-clause-of c = rw c.in_ok-own.ensures.rows (ids_indexed c.self.inside.program.rows (indexed_in c.self.inside.index) c.self.invariant.listed.indexed)

pub own_row-requires-clause-there : goal.own_row-requires-clause-there
own_row-requires-clause-there c = rw c.in_ok-own.ensures.rows (found_in_index c.self.inside.program.rows (indexed_in c.self.inside.index) c.args.id.0 c.self.invariant.listed.indexed (rw (← c.self.view_is) at c.requires))

pub remove-requires-clause-of : goal.remove-requires-clause-of
remove-requires-clause-of c =
    ap (λ (l : List Entry). ids_of l) c.in_ok-own_to_delete.ensures.rows
    ∙ ids_indexed c.self.inside.program.rows (indexed_in c.self.inside.index) c.self.invariant.listed.indexed
    ∙ ap (λ (l : List (ℕ × Footprint)). ids_of l) (sym (c.in_ok-own_row.ensures.rows ∙ c.in_ok-own.ensures.rows))

pub remove-requires-clause-there : goal.remove-requires-clause-there
remove-requires-clause-there c = rw (c.in_ok-own_row.ensures.rows, c.in_ok-own.ensures.rows) (found_in_index c.self.inside.program.rows (indexed_in c.self.inside.index) c.args.id.0 c.self.invariant.listed.indexed (rw (← c.self.view_is) at c.requires))

pub delete-row-requires-clause-there : goal.delete-row-requires-clause-there
delete-row-requires-clause-there c = subst (λ (l : List Entry). IsSome (place_of l c.args.id.0)) (sym c.in_ok-own_to_delete.ensures.rows) (rw (← c.self.view_is) at c.requires)

pub invariant_of-self-2 : goal.invariant_of-self-2
invariant_of-self-2 c =
    let rows = c.self.inside.program.rows in
    let same = c.in_ok-own_to_delete.ensures.rows in
    let there : place_of rows c.args.id.0 ≡ Some c.unwrap-place.result = ap (λ (l : List Entry). place_of l c.args.id.0) (sym same) ∙ sym c.place_of.ensures.value ∙ c.unwrap-place.ensures in
    record {
      listed = fewer_indexed rows c.delete-row.new.self.rows (indexed_in c.self.inside.index) (indexed_in c.share.new.self) c.self.inside.statuses c.remove-2.new.self c.args.id.0 c.self.invariant.listed
          (c.delete-row.ensures.rows ∙ ap (λ (l : List Entry). remove l (place_in l c.args.id.0)) same)
          (c.share.ensures ∙ c.remove.ensures ∙ ap (λ (l : List (ℕ × Footprint)). remove l (place_in l c.args.id.0)) (c.in_ok-own_row.ensures.rows ∙ c.in_ok-own.ensures.rows))
          (c.remove-2.ensures ∙ ap (λ o. remove c.self.inside.statuses (unwrap_or o 0)) (sym there));
      own = c.delete-row.ensures.own is_unsettled_entry (c.in_ok-own_to_delete.ensures.own is_unsettled_entry c.self.invariant.own);
    }

pub returns-clause-ok : goal.returns-clause-ok
returns-clause-ok c = rw (← c.self.view_is) (c.delete-row.ensures.rows ∙ ap (λ (l : List Entry). remove l (place_in l c.args.id.0)) c.in_ok-own_to_delete.ensures.rows)

pub returns-clause-own : goal.returns-clause-own
returns-clause-own c = rw (← c.self.view_is) (λ test own. c.delete-row.ensures.own test (c.in_ok-own_to_delete.ensures.own test own))

-- ---- where memory is refused

pub invariant_of-self-in_err-own_to_delete : goal.invariant_of-self-in_err-own_to_delete
invariant_of-self-in_err-own_to_delete c =
    held_still c.self.inside.program (indexed_in c.self.inside.index) c.self.inside.statuses c.self.invariant c.own_to_delete.new.self (indexed_in c.own_row.new.self) c.own_to_delete.ensures.rows c.own_to_delete.ensures.own (c.own_row.ensures.rows ∙ c.own.ensures.rows)

pub returns-in_err-own_to_delete-clause-own : goal.returns-in_err-own_to_delete-clause-own
returns-in_err-own_to_delete-clause-own c = rw (← c.self.view_is) c.own_to_delete.ensures.own
