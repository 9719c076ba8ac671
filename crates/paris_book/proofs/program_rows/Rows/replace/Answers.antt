use Rattle.std.proofs.Common.{◌<◌, ℕ, List, length, sym, ap, ◌∙◌, subst, arith}
use Rattle.std.specs.Prelude.{set, IfSome, IsSome}
use Rattle.paris_program.specs.Program.{Program, ids_of, place_of, place_in, with_row}
use Rattle.paris_program.proofs.CallerLemmas.{ids-with_row, length-with_row}
use Rattle.paris_model.specs.Instructions.{Plan}
use Rattle.paris_depends.specs.Index.{Footprint, footprint}
use Rattle.paris_book.specs.Entries.{Entry}
use Rattle.paris_book.specs.Indexed.{is_unsettled_entry}
use Rattle.paris_book.specs.Marks.{data_plan}
use Rattle.paris_book.specs.Rows.{RowData}
use Rattle.paris_book.specs.SharedIndexes.{HasOwnRoom, indexed_in}
use Rattle.paris_book.proofs.Indexing.{as_many, found_in_index, ids_indexed, replaced_all, standing_replaced}
use Rattle.paris_book.proofs.Holding.{held_still, replaced_own, replaced_rows}
use Rattle.paris_book.proofs.program_rows.Rows.replace.Goals as goal

pub room_to_replace-requires-clause-of : goal.room_to_replace-requires-clause-of
room_to_replace-requires-clause-of c = rw c.in_ok-own.ensures.rows (ids_indexed c.self.inside.program.rows (indexed_in c.self.inside.index) c.self.invariant.listed.indexed)

pub room_to_replace-requires-clause-there : goal.room_to_replace-requires-clause-there
room_to_replace-requires-clause-there c = rw c.in_ok-own.ensures.rows (found_in_index c.self.inside.program.rows (indexed_in c.self.inside.index) c.args.id.0 c.self.invariant.listed.indexed (rw (← c.self.view_is) at c.requires))

pub replace-requires-2-clause-of : goal.replace-requires-2-clause-of
replace-requires-2-clause-of c =
    let p = c.self.inside.program in
    let at = ap (λ (l : List Entry). place_of l c.args.id.0) (sym c.in_ok-own-2.ensures.rows) ∙ sym c.place_of.ensures.value ∙ c.unwrap-place.ensures in
    let is = replaced_rows p c.own-2.new.self c.replace.new.self c.args.id.0 c.args.row c.in_ok-own-2.ensures.rows c.replace.ensures.rows c.unwrap-place.result at in
    ap (λ (l : List Entry). ids_of l) is
    ∙ ids-with_row p.rows c.unwrap-place.result c.args.row
    ∙ ids_indexed p.rows (indexed_in c.self.inside.index) c.self.invariant.listed.indexed
    ∙ ap (λ (l : List (ℕ × Footprint)). ids_of l) (sym (c.in_ok-room_to_replace.ensures.rows ∙ c.in_ok-own.ensures.rows))

pub replace-requires-2-clause-there : goal.replace-requires-2-clause-there
replace-requires-2-clause-there c =
    rw (c.in_ok-room_to_replace.ensures.rows, c.in_ok-own.ensures.rows) (found_in_index c.self.inside.program.rows (indexed_in c.self.inside.index) c.args.id.0 c.self.invariant.listed.indexed (rw (← c.self.view_is) at c.requires))

pub replace-requires-2-clause-room : goal.replace-requires-2-clause-room
replace-requires-2-clause-room c = subst (λ (p : Plan). HasOwnRoom c.room_to_replace.new.self (footprint p)) c.get.ensures c.in_ok-room_to_replace.ensures.ok

pub returns-clause-ok : goal.returns-clause-ok
returns-clause-ok c = rw (← c.self.view_is) (ap (λ (p : Program RowData). p.rows) c.replace.ensures.rows ∙ ap (λ (l : List Entry). with_row l (place_in l c.args.id.0) c.args.row) c.in_ok-own-2.ensures.rows)

pub replace-requires : goal.replace-requires
replace-requires c = record { there = subst (λ (l : List Entry). IsSome (place_of l c.args.id.0)) (sym c.in_ok-own-2.ensures.rows) (rw (← c.self.view_is) at c.requires); own = c.in_ok-own-2.ensures.ok }

pub returns-clause-own : goal.returns-clause-own
returns-clause-own c =
    let there = rw (← c.self.view_is) at c.requires in
    rw (← c.self.view_is) (replaced_own c.self.inside.program c.own-2.new.self c.replace.new.self c.args.id.0 c.args.row c.in_ok-own-2.ensures.rows c.replace.ensures.rows c.own-2.ensures.own c.in_ok-own-2.ensures.ok there)

pub invariant_of-self-2 : goal.invariant_of-self-2
invariant_of-self-2 c =
    let p = c.self.inside.program in
    let at = ap (λ (l : List Entry). place_of l c.args.id.0) (sym c.in_ok-own-2.ensures.rows) ∙ sym c.place_of.ensures.value ∙ c.unwrap-place.ensures in
    let is = replaced_rows p c.own-2.new.self c.replace.new.self c.args.id.0 c.args.row c.in_ok-own-2.ensures.rows c.replace.ensures.rows c.unwrap-place.result at in
    let long = ap length is ∙ length-with_row p.rows c.unwrap-place.result c.args.row in
    let few = c.self.invariant.listed.few in
    let there = rw (← c.self.view_is) at c.requires in
    record {
      listed = record {
        indexed = replaced_all data_plan p.rows c.replace.new.self.rows (indexed_in c.self.inside.index) (indexed_in c.share.new.self) c.args.id.0 c.unwrap-place.result c.args.row c.self.invariant.listed.indexed at is
            (c.share.ensures
            ∙ c.replace-3.ensures
            ∙ ap (λ (l : List (ℕ × Footprint)). with_row l (place_in l c.args.id.0) (footprint c.in_ok-plan.plan)) (c.in_ok-room_to_replace.ensures.rows ∙ c.in_ok-own.ensures.rows)
            ∙ ap (λ (p : Plan). with_row (indexed_in c.self.inside.index) (place_in (indexed_in c.self.inside.index) c.args.id.0) (footprint p)) c.in_ok-plan.ensures);
        few = omega (arith, long, few);
        standing = standing_replaced p.rows c.replace.new.self.rows c.self.inside.statuses c.unwrap-place.result c.args.row c.self.invariant.listed.standing is ∙ ap (set c.self.inside.statuses c.unwrap-place.result) (sym c.status.ensures) ∙ sym c.set.ensures;
      };
      own = replaced_own p c.own-2.new.self c.replace.new.self c.args.id.0 c.args.row c.in_ok-own-2.ensures.rows c.replace.ensures.rows c.own-2.ensures.own c.in_ok-own-2.ensures.ok there is_unsettled_entry c.self.invariant.own;
    }

pub set-requires : goal.set-requires
set-requires c =
    let inside : c.unwrap-place.result < length c.own-2.new.self.rows = subst (λ o. IfSome o (λ place. place < length c.own-2.new.self.rows)) c.unwrap-place.ensures c.place_of.ensures.within in
    let same = ap length c.in_ok-own-2.ensures.rows in
    let long = as_many c.self.inside.program.rows (indexed_in c.self.inside.index) c.self.inside.statuses c.self.invariant.listed in
    omega (arith, inside, same, long)

-- ---- where memory is refused

pub invariant_of-self-in_err-own-2 : goal.invariant_of-self-in_err-own-2
invariant_of-self-in_err-own-2 c =
    held_still c.self.inside.program (indexed_in c.self.inside.index) c.self.inside.statuses c.self.invariant c.own-2.new.self (indexed_in c.room_to_replace.new.self) c.own-2.ensures.rows c.own-2.ensures.own (c.room_to_replace.ensures.rows ∙ c.own.ensures.rows)

pub returns-in_err-own-2-clause-own : goal.returns-in_err-own-2-clause-own
returns-in_err-own-2-clause-own c = rw (← c.self.view_is) c.own-2.ensures.own
