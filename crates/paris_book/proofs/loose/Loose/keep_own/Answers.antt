use Rattle.std.proofs.Common.{◌≡◌, List, Some, ap, sym, ◌∙◌, slice_get}
use Rattle.std.specs.Prelude.{false, not}
use Rattle.paris_edits.specs.Rows.{is_settled}
use Rattle.paris_events.specs.State.{State}
use Rattle.paris_book.specs.Steps.{settled_on}
use Rattle.paris_book.proofs.Finds.{row_at}
use Rattle.std.proofs.Math.Path.{ap₂}
use Rattle.std.proofs.lemmas.Option.{slice_get_within}
use Rattle.paris_book.specs.Among.{inputs_of}
use Rattle.paris_book.specs.Entries.{Entry, machine_row}
use Rattle.paris_book.proofs.Inserts.{state_of}
use Rattle.paris_book.proofs.OwnOrders.{own_entry, own_plan, own_whole, own_state}
use Rattle.paris_book.proofs.loose.Loose.keep_own.Goals as goal

pub keep-requires-clause-unsettled : goal.keep-requires-clause-unsettled
keep-requires-clause-unsettled c =
    let own = own_entry c.self.inside.board c.self.inside.edits c.self.inside.rows.next_id (inputs_of c.self.inside.inputs) c.self.inside.rows.rows c.args.self.now c.args.place c.self.view_is c.args.done c.requires.own in
    let seen : slice_get c.args.self.now.rows c.args.place ≡ Some (machine_row own.0) = ap (λ (s : State). slice_get s.rows c.args.place) (sym c.self.view_is) ∙ row_at c.self.inside.rows.rows c.args.place own.0 own.1 in
    record { row = own.0; there = own.1; unsettled = ap not (ap settled_on (sym seen) ∙ c.requires.unsettled) }

pub keep-requires-clause-plan : goal.keep-requires-clause-plan
keep-requires-clause-plan c = own_plan c.self.inside.board c.self.inside.edits c.self.inside.rows.next_id (inputs_of c.self.inside.inputs) c.self.inside.rows.rows c.args.self.now c.args.place c.self.view_is c.args.done c.requires.own

pub invariant_of-self : goal.invariant_of-self
invariant_of-self c =
    let own = own_entry c.self.inside.board c.self.inside.edits c.self.inside.rows.next_id (inputs_of c.self.inside.inputs) c.self.inside.rows.rows c.args.self.now c.args.place c.self.view_is c.args.done c.requires.own in
    let seen : slice_get c.args.self.now.rows c.args.place ≡ Some (machine_row own.0) = ap (λ (s : State). slice_get s.rows c.args.place) (sym c.self.view_is) ∙ row_at c.self.inside.rows.rows c.args.place own.0 own.1 in
    let unsettled : is_settled own.0.1.status ≡ false = ap settled_on (sym seen) ∙ c.requires.unsettled in
    let put = c.keep.ensures.rows own.0 own.1 in
    rw (c.keep.ensures.next_id, put) (own_whole c.self.inside.board c.self.inside.edits c.self.inside.rows.next_id (inputs_of c.self.inside.inputs) c.self.inside.rows.rows c.args.self.now c.args.place c.self.view_is c.args.done c.requires.own own.0 c.present_sources-sources.result.keys own.1 own.2 own.3 unsettled (c.present_sources-sources.ensures own.0 own.1) c.self.invariant)

pub returns : goal.returns
returns c =
    let own = own_entry c.self.inside.board c.self.inside.edits c.self.inside.rows.next_id (inputs_of c.self.inside.inputs) c.self.inside.rows.rows c.args.self.now c.args.place c.self.view_is c.args.done c.requires.own in
    let put = c.keep.ensures.rows own.0 own.1 in
    ap₂ (λ next (es : List Entry). state_of c.self.inside.board c.self.inside.edits next (inputs_of c.self.inside.inputs) es) c.keep.ensures.next_id put
    ∙ own_state c.self.inside.board c.self.inside.edits c.self.inside.rows.next_id (inputs_of c.self.inside.inputs) c.self.inside.rows.rows c.args.self.now c.args.place c.self.view_is c.args.done own.0 c.present_sources-sources.result.keys own.1 own.3

pub present_sources-sources-requires : goal.present_sources-sources-requires
present_sources-sources-requires c =
    let own = own_entry c.self.inside.board c.self.inside.edits c.self.inside.rows.next_id (inputs_of c.self.inside.inputs) c.self.inside.rows.rows c.args.self.now c.args.place c.self.view_is c.args.done c.requires.own in
    slice_get_within c.self.inside.rows.rows c.args.place own.0 own.1
