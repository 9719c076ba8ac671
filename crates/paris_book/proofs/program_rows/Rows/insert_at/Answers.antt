use Rattle.std.proofs.Common.{◌≡◌, ◌≤◌, ℕ, List, refl, sym, ap, ◌∙◌, subst, arith, length}
use Rattle.std.specs.Prelude.{insert}
use Rattle.std.proofs.lemmas.List.{length-map}
use Rattle.std.proofs.lemmas.List.Edits.{length-insert}
use Rattle.paris_program.specs.Program.{Program}
use Rattle.paris_model.specs.Instructions.{Plan}
use Rattle.paris_depends.specs.Index.{Footprint, footprint}
use Rattle.paris_book.specs.Entries.{Entry}
use Rattle.paris_book.specs.Marks.{data_plan}
use Rattle.paris_book.specs.Rows.{RowData}
use Rattle.paris_edits.specs.declared.rows.Status.{Status}
use Rattle.paris_book.specs.SharedIndexes.{CanAddIn, indexed_in}
use Rattle.paris_book.proofs.Indexing.{put_others, put_plan, standing_put}
use Rattle.paris_book.specs.Indexed.{IsHeld, is_unsettled_entry}
use Rattle.paris_book.proofs.Holding.{held_still}
use Rattle.paris_book.proofs.program_rows.Rows.insert_at.Goals as goal

within : (c : goal.After-add_row-arg-2-1) → c.args.place ≤ length c.self.inside.program.rows
within c =
    let same : length c.self.inside.program.rows ≡ length c.args.self.now.rows = ap (λ (p : Program RowData). length p.rows) c.self.view_is in
    let place = c.requires.place in
    omega (arith, same, place)

abbrev row : (c : goal.After-add_row-arg-2-1) → Entry
row c = (c.room.new.self.next_id, c.args.row)

put : (c : goal.After-add_row-arg-2-1) → c.put_at-id.new.self.rows ≡ insert c.self.inside.program.rows c.args.place (row c)
put c = c.put_at-id.ensures.value.1 ∙ ap (λ l. insert l c.args.place (row c)) c.in_ok-room.ensures.rows

pub room-requires-2-clause-there : goal.room-requires-2-clause-there
room-requires-2-clause-there c =
    let same : length c.self.inside.program.rows ≡ length c.args.self.now.rows = ap (λ (p : Program RowData). length p.rows) c.self.view_is in
    let long = ap length (c.self.invariant.listed.indexed ∙ sym c.in_ok-own.ensures.rows) in
    let place = c.requires.place in
    omega (arith, same, long, place, length-map {B = ℕ × Footprint} c.self.inside.program.rows (λ (e : Entry). (e.0, footprint (data_plan e.1))))

pub put_at-id-requires-clause-place : goal.put_at-id-requires-clause-place
put_at-id-requires-clause-place c =
    let same : length c.self.inside.program.rows ≡ length c.args.self.now.rows = ap (λ (p : Program RowData). length p.rows) c.self.view_is in
    let more = ap length c.in_ok-room.ensures.rows in
    let place = c.requires.place in
    omega (arith, same, more, place)

pub add_row-requires-clause-there : goal.add_row-requires-clause-there
add_row-requires-clause-there c =
    let place = within c in
    let long = ap length (put c) ∙ length-insert c.self.inside.program.rows c.args.place (row c) place in
    omega (arith, place, long)

pub add_row-requires-clause-others : goal.add_row-requires-clause-others
add_row-requires-clause-others c =
    put_others data_plan c.self.inside.program.rows c.put_at-id.new.self.rows c.args.place (row c) (within c) (put c) ∙ c.self.invariant.listed.indexed ∙ sym (c.in_ok-room-2.ensures.rows ∙ c.in_ok-own.ensures.rows)

pub add_row-requires-clause-plan : goal.add_row-requires-clause-plan
add_row-requires-clause-plan c = λ e at.
    sym (put_plan data_plan c.self.inside.program.rows c.put_at-id.new.self.rows c.args.place (row c) e (within c) (put c) at) ∙ sym c.in_ok-plan.ensures

pub add_row-requires-clause-room : goal.add_row-requires-clause-room
add_row-requires-clause-room c = subst (λ (p : Plan). CanAddIn c.room-2.new.self c.args.place (footprint p)) c.get.ensures c.in_ok-room-2.ensures.ok

pub invariant_of-self-2 : goal.invariant_of-self-2
invariant_of-self-2 c =
    let rows = c.self.inside.program.rows in
    let e : Entry = (c.room.new.self.next_id, c.args.row) in
    let same : length rows ≡ length c.args.self.now.rows = ap (λ (p : Program RowData). length p.rows) c.self.view_is in
    let place = c.requires.place in
    let fewer = c.requires.few in
    let is : c.put_at-id.new.self.rows ≡ insert rows c.args.place e = c.put_at-id.ensures.value.1 ∙ ap (λ l. insert l c.args.place e) c.in_ok-room.ensures.rows in
    let long = ap length is ∙ length-insert rows c.args.place e (omega (arith, same, place)) in
    record {
      listed = record {
        indexed = c.add_row.ensures ∙ sym c.share.ensures;
        few = omega (arith, same, fewer, long);
        standing = standing_put rows c.put_at-id.new.self.rows c.self.inside.statuses c.args.place e c.self.invariant.listed.standing is
            ∙ ap (insert c.self.inside.statuses c.args.place) (sym c.status.ensures)
            ∙ sym c.in_ok-insert.ensures.ok;
      };
      own = c.put_at-id.ensures.own is_unsettled_entry (c.in_ok-room.ensures.own is_unsettled_entry c.self.invariant.own);
    }

pub returns-clause-own : goal.returns-clause-own
returns-clause-own c = rw (← c.self.view_is) (λ test own. c.put_at-id.ensures.own test (c.room.ensures.own test own))

-- ---- where memory is refused

pub invariant_of-self : goal.invariant_of-self
invariant_of-self c = held_still c.self.inside.program (indexed_in c.self.inside.index) c.self.inside.statuses c.self.invariant c.room.new.self (indexed_in c.self.inside.index) c.room.ensures.rows c.room.ensures.own refl

pub returns-in_err-room-clause-own : goal.returns-in_err-room-clause-own
returns-in_err-room-clause-own c = rw (← c.self.view_is) c.room.ensures.own

pub invariant_of-self-in_err-own : goal.invariant_of-self-in_err-own
invariant_of-self-in_err-own c = held_still c.self.inside.program (indexed_in c.self.inside.index) c.self.inside.statuses c.self.invariant c.room.new.self (indexed_in c.own.new.self) c.room.ensures.rows c.room.ensures.own c.own.ensures.rows

pub returns-in_err-own-clause-own : goal.returns-in_err-own-clause-own
returns-in_err-own-clause-own c = rw (← c.self.view_is) c.room.ensures.own

pub invariant_of-self-in_err-room-2 : goal.invariant_of-self-in_err-room-2
invariant_of-self-in_err-room-2 c = held_still c.self.inside.program (indexed_in c.self.inside.index) c.self.inside.statuses c.self.invariant c.room.new.self (indexed_in c.room-2.new.self) c.room.ensures.rows c.room.ensures.own (c.room-2.ensures.rows ∙ c.own.ensures.rows)

pub returns-in_err-room-2-clause-own : goal.returns-in_err-room-2-clause-own
returns-in_err-room-2-clause-own c = rw (← c.self.view_is) c.room.ensures.own

pub invariant_of-self-in_err-insert : goal.invariant_of-self-in_err-insert
invariant_of-self-in_err-insert c =
    subst (λ (l : List Status). IsHeld c.room.new.self (indexed_in c.room-2.new.self) l) (sym c.in_err-insert.ensures.err)
    (held_still c.self.inside.program (indexed_in c.self.inside.index) c.self.inside.statuses c.self.invariant c.room.new.self (indexed_in c.room-2.new.self) c.room.ensures.rows c.room.ensures.own (c.room-2.ensures.rows ∙ c.own.ensures.rows))

pub returns-in_err-insert-clause-own : goal.returns-in_err-insert-clause-own
returns-in_err-insert-clause-own c = rw (← c.self.view_is) c.room.ensures.own
