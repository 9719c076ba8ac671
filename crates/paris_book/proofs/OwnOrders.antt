-- The order that a row would give now, by the entries, and what keeping its result leaves of a book.
use Rattle.std.proofs.Common.{◌≡◌, ℕ, ◌≤◌, List, Bool, true, false, cond, Option, Some, None, refl, sym, ap, ◌∙◌, subst, map, set, slice_get}
use Rattle.std.proofs.lemmas.List.{map-set}
use Rattle.std.proofs.lemmas.Option.{slice_get-map}
use Rattle.std.specs.Option.{option_map, unwrap_or}
use Rattle.std.specs.List.{list_all}
use Rattle.paris_board.specs.Board.{Board}
use Rattle.paris_model.specs.Frame.{World}
use Rattle.paris_model.specs.Instructions.{reads}
use Rattle.paris_names.specs.declared.ids.Edition.{Edition}
use Rattle.paris_exec.specs.Tasks.{Task}
use Rattle.paris_edits.specs.Rows.{is_settled}
use Rattle.paris_edits.specs.declared.rows.Status.TheVariants.{Settled}
use Rattle.paris_events.specs.State.{Row, Inputs, State, Work, work_of}
use Rattle.paris_events.specs.Show.{now}
use Rattle.paris_events.specs.Settling.{work_in}
use Rattle.paris_book.specs.Marks.{kept_data}
use Rattle.paris_book.specs.Entries.{Entry, machine_row, with_data, seen}
use Rattle.paris_book.proofs.Among.{firm_among, order_among}
use Rattle.paris_book.specs.Sources.{AreSources}
use Rattle.paris_book.specs.declared.sources.Source.{Source}
use Rattle.paris_book.specs.Steps.{order_on, own_order, run_on, run_at}
use Rattle.paris_book.specs.Whole.{IsWhole}
use Rattle.paris_book.proofs.Finds.{row_at}
use Rattle.paris_book.proofs.Inserts.{state_of}
use Rattle.paris_book.proofs.Settling.{kept_whole}
use Rattle.paris_book.proofs.Naming.{others_free}
use Rattle.paris_book.proofs.Shows.{now_is}
use Rattle.paris_book.proofs.Takes.{own_seen}

-- what a choice gave tells how it was made
pub cond_some : {X : Type 0} (b : Bool) (x y : X) → Some x ≡ cond b (Some y) None → (b ≡ true) × (x ≡ y)
cond_some true x y h = (refl, cc)
cond_some false x y h = absurd (cc)

module _ (b : Board) (n m : ℕ) (inputs : Inputs) (es : List Entry) (s : State) (place : ℕ) (y : state_of b n m inputs es ≡ s) where
  pub own_at : (e : Entry) → slice_get es place ≡ Some e → order_on (seen inputs es) place (Some (machine_row e)) ≡ own_order s place
  own_at e at = ap (order_on (seen inputs es) place) (sym (row_at es place e at)) ∙ ap (λ (z : State). own_order z place) y

  module _ (t : Task) (own : own_order s place ≡ Some t) where
    -- the entry that gives an order
    pub own_entry : (e : Entry) × (slice_get es place ≡ Some e) × (list_all (firm_among es place) (reads e.1.plan) ≡ true) × (t ≡ order_among inputs es place e)
    own_entry = by_entry (slice_get es place) refl
      where
        by_entry : (o : Option Entry) → slice_get es place ≡ o → (e : Entry) × (slice_get es place ≡ Some e) × (list_all (firm_among es place) (reads e.1.plan) ≡ true) × (t ≡ order_among inputs es place e)
        by_entry None at =
            let nothing : Option Task = None in
            let wrong : Some t ≡ nothing = sym own ∙ ap (λ (z : State). own_order z place) (sym y) ∙ ap (order_on (state_of b n m inputs es) place) (slice_get-map machine_row es place ∙ ap (option_map machine_row) at) in
            absurd (cc)
        by_entry (Some e) at =
            let given = cond_some (list_all (firm_among es place) (reads e.1.plan)) t (order_among inputs es place e) (sym own ∙ sym (own_at e at) ∙ own_seen inputs es place e) in
            (e, at, given.0, given.1)

    -- the plan of the row at the place is that of its order
    pub own_plan : (e : Entry) → slice_get es place ≡ Some e → e.1.plan ≡ t.plan
    own_plan e at =
        let found = own_entry in
        ap (λ (o : Option Entry). (unwrap_or o e).1.plan) (sym at ∙ found.1) ∙ ap (λ (z : Task). z.plan) (sym found.3)

    pub own_whole : (e : Entry) (sources : List Source) → slice_get es place ≡ Some e → list_all (firm_among es place) (reads e.1.plan) ≡ true → t ≡ order_among inputs es place e → is_settled e.1.status ≡ false → AreSources inputs es place (reads e.1.plan) sources → IsWhole b n m inputs es
        → IsWhole b n m inputs (set es place (with_data (kept_data t sources) e))
    own_whole e sources at firm is unsettled from w =
        let edition : t.edition ≡ e.1.edition = ap (λ (u : Task). u.edition) is in
        kept_whole b n m inputs es place e t sources at firm (ap (λ (u : Task). u.inputs) (sym is)) (ap (λ (u : Task). u.plan) (sym is)) from
        (subst (λ (c : Edition). c.0 ≤ n) (sym edition) (w.sourced.numbers place e at).edition)
        (others_free n inputs es place e (with_data (kept_data t sources) e) t at unsettled refl refl edition w.sourced) w

  pub own_state : (t : Task) (e : Entry) (sources : List Source) → slice_get es place ≡ Some e → t ≡ order_among inputs es place e → state_of b n m inputs (set es place (with_data (kept_data t sources) e)) ≡ run_at s place
  own_state t e sources at is =
      ap (λ (rs : List Row). record { board = b; edits = n; inputs = inputs; next = m; rows = rs }) (map-set machine_row es place (with_data (kept_data t sources) e))
      ∙ ap (λ (w : Work). record { board = b; edits = n; inputs = inputs; next = m; rows = set (map machine_row es) place (record (machine_row e) { status = Settled; last = Some w }) }) work
      ∙ ap (run_on (state_of b n m inputs es) place) (sym (row_at es place e at))
      ∙ ap (λ (z : State). run_at z place) y
    where
      work : work_of t ≡ work_in (now (state_of b n m inputs es) place) e.1.plan
      work = ap work_of is ∙ ap (λ (w : World). work_in w e.1.plan) (sym (now_is b n m inputs es place))
