use Rattle.std.proofs.Common.{◌≡◌, ◌∙◌, None, refl, sym, ap, arith, map, take, add-one}
use Rattle.std.proofs.lemmas.List.{take-map, take_all}
use Rattle.std.specs.Option.{option_map}
use Rattle.std.specs.List.{find, enumerate_from}
use Rattle.paris_book.specs.Entries.{Entry, machine_row}
use Rattle.paris_book.proofs.Among.{ready_among, next_among}
use Rattle.paris_book.proofs.Finds.{row_at}
use Rattle.paris_events.proofs.Finds.{find_here, find_more}
use Rattle.paris_book.proofs.Pending.{none_pending, none_ready_before, none_ready_at_all, pending_past, ready_is}
use Rattle.paris_book.proofs.Searches.{next_row, no_next_row}
use Rattle.paris_book.proofs.looks.first_ready.Goals as goal
use Rattle.paris_book.proofs.Takes.{next_seen}

pub loop-i-init : goal.loop-i-init
loop-i-init c =
    let rows = c.args.rows.now.rows in
    let first = next_row (map machine_row rows) 0 c.in-Some.start (sym c.in-Some.ensures.value) refl in
    record { none = none_ready_before rows c.in-Some.start first.3; marks = none_pending 128 rows c.in-Some.start first.3 }

pub returns-in_default : goal.returns-in_default
returns-in_default c =
    let rows = c.args.rows.now.rows in
    sym (ap (option_map (λ e. e.0)) (next_seen rows ∙ none_ready_at_all rows (no_next_row (map machine_row rows) 0 (sym c.next_unsettled.ensures.value ∙ c.in_default.is) refl)))

pub returns-then-pass : goal.returns-then-pass
returns-then-pass c =
    let rows = c.args.rows.now.rows in
    let i = c.loop-i.i in
    let e : Entry = (c.at.result.0.0, c.at.result.1.now) in
    let ready = ready_is c.loop-i.pending rows i e c.loop-i.invariant.marks ∙ sym c.pass.ensures.ready ∙ c.if-pass.true in
    sym (ap (option_map (λ e. e.0)) (next_seen rows ∙ find_here (ready_among rows) (map machine_row rows) 0 i i (machine_row e) (omega arith) c.loop-i.invariant.none (row_at rows i e c.at.ensures.value) ready))

pub loop-i-preserved : goal.loop-i-preserved
loop-i-preserved c =
    let rows = c.args.rows.now.rows in
    let i = c.loop-i.i in
    let e : Entry = (c.at.result.0.0, c.at.result.1.now) in
    let ready = ready_is c.loop-i.pending rows i e c.loop-i.invariant.marks ∙ sym c.pass.ensures.ready ∙ c.if-pass.false in
    record {
      none = ap (λ k. find (ready_among rows) (enumerate_from 0 (take k (map machine_row rows)))) (add-one i) ∙ find_more (ready_among rows) (map machine_row rows) 0 i i (machine_row e) (omega arith) c.loop-i.invariant.none (row_at rows i e c.at.ensures.value) ready;
      marks = pending_past c.loop-i.pending c.pass.new.pending rows i e c.at.ensures.value c.loop-i.invariant.marks c.pass.ensures.marks;
    }

pub returns : goal.returns
returns c =
    let rows = c.args.rows.now.rows in
    let none : next_among rows ≡ None =
    ap (λ xs. find (ready_among rows) (enumerate_from 0 xs)) (sym (take-map machine_row c.loop-i.i rows ∙ ap (map machine_row) (take_all c.loop-i.i rows (omega arith))))
    ∙ c.loop-i.invariant.none in
    sym (ap (option_map (λ e. e.0)) (next_seen rows ∙ none))
