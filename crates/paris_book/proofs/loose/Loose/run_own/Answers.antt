use Rattle.std.proofs.Common.{◌≡◌, ◌∙◌, List, false, Some, ap, sym, subst, arith, slice_get}
use Rattle.std.proofs.Math.Path.{ap₂}
use Rattle.std.specs.Prelude.{is_some, not, Option, IfSome}
use Rattle.paris_model.specs.Instructions.{reads}
use Rattle.paris_exec.specs.Tasks.{Task}
use Rattle.paris_edits.specs.Rows.{is_settled}
use Rattle.paris_events.specs.State.{State}
use Rattle.paris_book.specs.Among.{inputs_of}
use Rattle.paris_book.specs.Entries.{Entry, machine_row}
use Rattle.paris_book.specs.Sources.{AreSources}
use Rattle.paris_book.specs.Steps.{own_order, settled_on}
use Rattle.paris_book.proofs.Finds.{entry_at, row_at}
use Rattle.paris_book.proofs.Inserts.{state_of}
use Rattle.paris_book.proofs.OwnOrders.{own_at, own_entry, own_plan, own_whole, own_state}
use Rattle.paris_book.proofs.loose.Loose.run_own.Goals as goal

pub returns-in_default-clause-ran : goal.returns-in_default-clause-ran
returns-in_default-clause-ran g c =
    let e = entry_at c.self.inside.rows.rows c.args.place (omega arith) in
    ap is_some (sym c.in_default.is ∙ c.in_ok-order.ensures.order e.0 e.1 ∙ own_at c.self.inside.board c.self.inside.edits c.self.inside.rows.next_id (inputs_of c.self.inside.inputs) c.self.inside.rows.rows c.args.self.now c.args.place c.self.view_is e.0 e.1)

pub keep-requires-clause-unsettled : goal.keep-requires-clause-unsettled
keep-requires-clause-unsettled g c =
    let e = entry_at c.self.inside.rows.rows c.args.place (omega arith) in
    let own : own_order c.args.self.now c.args.place ≡ Some c.in-Some.order =
    sym (own_at c.self.inside.board c.self.inside.edits c.self.inside.rows.next_id (inputs_of c.self.inside.inputs) c.self.inside.rows.rows c.args.self.now c.args.place c.self.view_is e.0 e.1) ∙ sym (c.in_ok-order.ensures.order e.0 e.1) ∙ c.in-Some.is in
    let seen : slice_get c.args.self.now.rows c.args.place ≡ Some (machine_row e.0) = ap (λ (s : State). slice_get s.rows c.args.place) (sym c.self.view_is) ∙ row_at c.self.inside.rows.rows c.args.place e.0 e.1 in
    record { row = e.0; there = e.1; unsettled = ap not (ap settled_on (sym seen) ∙ c.requires) }

pub keep-requires-clause-plan : goal.keep-requires-clause-plan
keep-requires-clause-plan g c =
    let e = entry_at c.self.inside.rows.rows c.args.place (omega arith) in
    let own : own_order c.args.self.now c.args.place ≡ Some c.in-Some-execute_inside.done =
    sym (own_at c.self.inside.board c.self.inside.edits c.self.inside.rows.next_id (inputs_of c.self.inside.inputs) c.self.inside.rows.rows c.args.self.now c.args.place c.self.view_is e.0 e.1) ∙ sym (c.in_ok-order.ensures.order e.0 e.1) ∙ c.in-Some.is ∙ ap Some (sym c.in-Some-execute_inside.ensures) in
    own_plan c.self.inside.board c.self.inside.edits c.self.inside.rows.next_id (inputs_of c.self.inside.inputs) c.self.inside.rows.rows c.args.self.now c.args.place c.self.view_is c.in-Some-execute_inside.done own

pub invariant_of-self : goal.invariant_of-self
invariant_of-self g c =
    let e = entry_at c.self.inside.rows.rows c.args.place (omega arith) in
    let own : own_order c.args.self.now c.args.place ≡ Some c.in-Some-execute_inside.done =
    sym (own_at c.self.inside.board c.self.inside.edits c.self.inside.rows.next_id (inputs_of c.self.inside.inputs) c.self.inside.rows.rows c.args.self.now c.args.place c.self.view_is e.0 e.1) ∙ sym (c.in_ok-order.ensures.order e.0 e.1) ∙ c.in-Some.is ∙ ap Some (sym c.in-Some-execute_inside.ensures) in
    let own_is = own_entry c.self.inside.board c.self.inside.edits c.self.inside.rows.next_id (inputs_of c.self.inside.inputs) c.self.inside.rows.rows c.args.self.now c.args.place c.self.view_is c.in-Some-execute_inside.done own in
    let seen : slice_get c.args.self.now.rows c.args.place ≡ Some (machine_row own_is.0) = ap (λ (s : State). slice_get s.rows c.args.place) (sym c.self.view_is) ∙ row_at c.self.inside.rows.rows c.args.place own_is.0 own_is.1 in
    let unsettled : is_settled own_is.0.1.status ≡ false = ap settled_on (sym seen) ∙ c.requires in
    let put = c.keep.ensures.rows own_is.0 own_is.1 in
    let from = subst (λ (o : Option Task). IfSome o (λ order. (x : Entry) → slice_get c.self.inside.rows.rows c.args.place ≡ Some x → AreSources (inputs_of c.self.inside.inputs) c.self.inside.rows.rows c.args.place (reads x.1.plan) c.sourced_order_at.new.sources.keys)) c.in-Some.is c.in_ok-order.ensures.sources in
    rw (c.keep.ensures.next_id, put) (own_whole c.self.inside.board c.self.inside.edits c.self.inside.rows.next_id (inputs_of c.self.inside.inputs) c.self.inside.rows.rows c.args.self.now c.args.place c.self.view_is c.in-Some-execute_inside.done own own_is.0 _ own_is.1 own_is.2 own_is.3 unsettled (from own_is.0 own_is.1) c.self.invariant)

pub returns-in-Some-execute_inside-clause-ran : goal.returns-in-Some-execute_inside-clause-ran
returns-in-Some-execute_inside-clause-ran g c =
    let e = entry_at c.self.inside.rows.rows c.args.place (omega arith) in
    let own : own_order c.args.self.now c.args.place ≡ Some c.in-Some.order =
    sym (own_at c.self.inside.board c.self.inside.edits c.self.inside.rows.next_id (inputs_of c.self.inside.inputs) c.self.inside.rows.rows c.args.self.now c.args.place c.self.view_is e.0 e.1) ∙ sym (c.in_ok-order.ensures.order e.0 e.1) ∙ c.in-Some.is in
    ap is_some (sym own)

pub returns-in-Some-execute_inside-clause-state : goal.returns-in-Some-execute_inside-clause-state
returns-in-Some-execute_inside-clause-state g c =
    let e = entry_at c.self.inside.rows.rows c.args.place (omega arith) in
    let own : own_order c.args.self.now c.args.place ≡ Some c.in-Some-execute_inside.done =
    sym (own_at c.self.inside.board c.self.inside.edits c.self.inside.rows.next_id (inputs_of c.self.inside.inputs) c.self.inside.rows.rows c.args.self.now c.args.place c.self.view_is e.0 e.1) ∙ sym (c.in_ok-order.ensures.order e.0 e.1) ∙ c.in-Some.is ∙ ap Some (sym c.in-Some-execute_inside.ensures) in
    let own_is = own_entry c.self.inside.board c.self.inside.edits c.self.inside.rows.next_id (inputs_of c.self.inside.inputs) c.self.inside.rows.rows c.args.self.now c.args.place c.self.view_is c.in-Some-execute_inside.done own in
    let put = c.keep.ensures.rows own_is.0 own_is.1 in
    ap₂ (λ next (es : List Entry). state_of c.self.inside.board c.self.inside.edits next (inputs_of c.self.inside.inputs) es) c.keep.ensures.next_id put
    ∙ own_state c.self.inside.board c.self.inside.edits c.self.inside.rows.next_id (inputs_of c.self.inside.inputs) c.self.inside.rows.rows c.args.self.now c.args.place c.self.view_is c.in-Some-execute_inside.done own_is.0 _ own_is.1 own_is.3
