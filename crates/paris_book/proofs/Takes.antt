-- The order that a book takes is the machine's.
use Rattle.std.proofs.Common.{[], ◌≡◌, ℕ, List, Bool, true, false, cond, Some, None, refl, sym, ap, ◌∙◌, map, set, slice_get}
use Rattle.std.proofs.Math.Path.{fun_ext, ap₂}
use Rattle.std.proofs.lemmas.List.{map-set}
use Rattle.std.specs.Prelude.{◌&&◌}
use Rattle.std.specs.Option.{option_map}
use Rattle.std.specs.List.{list_all, find, enumerate_from}
use Rattle.paris_names.specs.declared.keys.Key.{Key}
use Rattle.paris_board.specs.Board.{Board, empty_board}
use Rattle.paris_model.specs.Frame.{World}
use Rattle.paris_model.specs.Instructions.{reads}
use Rattle.paris_exec.specs.Tasks.{field_of}
use Rattle.paris_edits.specs.Rows.{is_settled, is_waiting}
use Rattle.paris_events.specs.State.{Row, Inputs, State}
use Rattle.paris_events.specs.Orders.{next_ready, order_of, take_reply, taken, after_take}
use Rattle.paris_book.specs.Marks.{out_data}
use Rattle.paris_book.specs.Entries.{Entry, id_of, machine_row, with_data, seen, rows_seen}
use Rattle.paris_edits.specs.declared.rows.Status.{Status}
use Rattle.paris_edits.specs.declared.rows.Status.TheVariants.{Waiting, Out, Settled}
use Rattle.paris_book.proofs.Among.{firm_among, ready_among, next_among, order_among, own_among}
use Rattle.paris_book.proofs.Finds.{found_by, found_passes}
use Rattle.paris_events.proofs.Finds.{none_of}
use Rattle.paris_events.proofs.Tests.{and_first, and_second}
use Rattle.paris_book.proofs.Inserts.{state_of}
use Rattle.paris_book.proofs.Shows.{now_is, firm_is, firm_seen}
use Rattle.paris_book.specs.Steps.{order_on}
use Rattle.paris_names.specs.declared.profiles.Profile.TheVariants.{One}

pub waiting_unsettled : (s : Status) → is_waiting s ≡ true → is_settled s ≡ false
waiting_unsettled Waiting h = refl
waiting_unsettled Out h = refl
waiting_unsettled Settled h = absurd (let x : false ≡ true = h in cc)

pub next_is : (b : Board) (n m : ℕ) (inputs : Inputs) (es : List Entry) → next_ready (state_of b n m inputs es) ≡ next_among es
next_is b n m inputs es =
    ap (λ (q : ℕ → Key → Bool). find (λ (e : ℕ × Row). is_waiting e.1.status && list_all (q e.0) (reads e.1.plan)) (enumerate_from 0 (map machine_row es)))
    (fun_ext (λ place. fun_ext (λ k. firm_is b n m inputs es k place)))

pub next_seen : (es : List Entry) → next_ready (rows_seen es) ≡ next_among es
next_seen es = next_is (empty_board One) 0 1 (record { fields = []; flags = [] }) es

-- the row that was found
pub next_found : (es : List Entry) (k : ℕ) → Some k ≡ option_map (λ e. e.0) (next_ready (rows_seen es)) → (e : Entry) × (next_among es ≡ Some (k, machine_row e)) × (slice_get es k ≡ Some e)
next_found es k h = found_by (ready_among es) es k (h ∙ ap (option_map (λ (e : ℕ × Row). e.0)) (next_seen es))

pub found_is_ready : (es : List Entry) (k : ℕ) (e : Entry) → next_among es ≡ Some (k, machine_row e) → ready_among es (k, machine_row e) ≡ true
found_is_ready es k e x = found_passes (ready_among es) (enumerate_from 0 (map machine_row es)) (k, machine_row e) x

pub take_state : (b : Board) (n m : ℕ) (inputs : Inputs) (es : List Entry) (s : State) (k : ℕ) (e : Entry) → state_of b n m inputs es ≡ s → next_among es ≡ Some (k, machine_row e) → state_of b n m inputs (set es k (with_data out_data e)) ≡ after_take s
take_state b n m inputs es s k e y x =
    ap (λ (rs : List Row). record { board = b; edits = n; inputs = inputs; next = m; rows = rs }) (map-set machine_row es k (with_data out_data e))
    ∙ ap (taken (state_of b n m inputs es)) (sym x ∙ sym (next_is b n m inputs es))
    ∙ ap after_take y

pub take_order : (b : Board) (n m : ℕ) (inputs : Inputs) (es : List Entry) (s : State) (k : ℕ) (e : Entry) → state_of b n m inputs es ≡ s → next_among es ≡ Some (k, machine_row e) → Some (order_among inputs es k e) ≡ take_reply s
take_order b n m inputs es s k e y x =
    ap (λ (w : World). Some (record { id = id_of e; edition = e.1.edition; plan = e.1.plan; inputs = map (λ f. field_of e.1.plan f (w f)) (reads e.1.plan) })) (sym (now_is b n m inputs es k))
    ∙ ap (option_map (order_of (state_of b n m inputs es))) (sym x ∙ sym (next_is b n m inputs es))
    ∙ ap take_reply y

pub ready_unsettled : (es : List Entry) (k : ℕ) (e : Entry) → next_among es ≡ Some (k, machine_row e) → is_settled e.1.status ≡ false
ready_unsettled es k e x = waiting_unsettled e.1.status (and_first (is_waiting e.1.status) (list_all (firm_among es k) (reads e.1.plan)) (found_is_ready es k e x))

-- a ready row gives an order
pub own_seen : (inputs : Inputs) (es : List Entry) (k : ℕ) (e : Entry) → order_on (seen inputs es) k (Some (machine_row e)) ≡ own_among inputs es k e
own_seen inputs es k e =
    ap₂ (λ (q : Key → Bool) (w : World). cond (list_all q (reads e.1.plan)) (Some (record { id = id_of e; edition = e.1.edition; plan = e.1.plan; inputs = map (λ f. field_of e.1.plan f (w f)) (reads e.1.plan) })) None)
    (fun_ext (firm_seen es k)) (now_is (empty_board One) 0 1 inputs es k)

pub ready_own : (inputs : Inputs) (es : List Entry) (k : ℕ) (e : Entry) → next_among es ≡ Some (k, machine_row e) → order_on (seen inputs es) k (Some (machine_row e)) ≡ Some (order_among inputs es k e)
ready_own inputs es k e x =
    own_seen inputs es k e
    ∙ ap (λ b. cond b (Some (order_among inputs es k e)) None) (and_second (is_waiting e.1.status) (list_all (firm_among es k) (reads e.1.plan)) (found_is_ready es k e x))

none_next : (b : Board) (n m : ℕ) (inputs : Inputs) (es : List Entry) (s : State) → state_of b n m inputs es ≡ s → None ≡ option_map (λ e. e.0) (next_ready (rows_seen es)) → next_ready s ≡ None
none_next b n m inputs es s y h = ap next_ready (sym y) ∙ none_of (λ e. e.0) (next_ready (rows_seen es)) h

pub none_order : (b : Board) (n m : ℕ) (inputs : Inputs) (es : List Entry) (s : State) → state_of b n m inputs es ≡ s → None ≡ option_map (λ e. e.0) (next_ready (rows_seen es)) → None ≡ take_reply s
none_order b n m inputs es s y h = sym (ap (option_map (order_of s)) (none_next b n m inputs es s y h))

pub none_state : (b : Board) (n m : ℕ) (inputs : Inputs) (es : List Entry) (s : State) → state_of b n m inputs es ≡ s → None ≡ option_map (λ e. e.0) (next_ready (rows_seen es)) → s ≡ after_take s
none_state b n m inputs es s y h = sym (ap (taken s) (none_next b n m inputs es s y h))
