-- The row that a take would give is run by the book itself.
use Rattle.std.proofs.Common.{◌≡◌, ℕ, List, true, false, cond, Option, Some, None, refl, sym, ap, ◌∙◌, subst, slice_get}
use Rattle.std.specs.Prelude.{is_some, IsSome}
use Rattle.std.specs.Option.{option_map}
use Rattle.std.specs.List.{list_all, enumerate_from}
use Rattle.paris_board.specs.Board.{Board}
use Rattle.paris_model.specs.Instructions.{reads}
use Rattle.paris_exec.specs.Tasks.{Task}
use Rattle.paris_edits.specs.Rows.{is_waiting}
use Rattle.paris_events.specs.State.{Row, Inputs, State, IdsApart, row_ids}
use Rattle.paris_events.specs.Show.{now, origin_at}
use Rattle.paris_events.specs.Orders.{is_firm, is_ready, next_ready, order_of, take_reply, taken, after_take}
use Rattle.paris_events.specs.CutOff.{IsAtRest, cut_off}
use Rattle.paris_events.specs.Settling.{run_row, brought_back, after_run}
use Rattle.paris_events.proofs.Rests.{take_stays, bring_stays}
use Rattle.paris_events.proofs.Runs.{ready_run_is}
use Rattle.paris_events.proofs.Tests.{and_second}
use Rattle.paris_book.specs.Entries.{Entry, machine_row, rows_seen}
use Rattle.paris_book.specs.Steps.{WasSettled, order_on, own_order, run_on, run_at}
use Rattle.paris_book.proofs.Finds.{found_passes, row_at}
use Rattle.paris_book.proofs.Inserts.{state_of}
use Rattle.paris_book.proofs.Takes.{next_found, next_is}

module _ (s : State) (k : ℕ) (r : Row) (next : next_ready s ≡ Some (k, r)) (here : slice_get s.rows k ≡ Some r) where
  is_ready_here : is_ready s k r ≡ true
  is_ready_here = found_passes (λ e. is_ready s e.0 e.1) (enumerate_from 0 s.rows) (k, r) next

  free : list_all (λ j. is_firm (origin_at s k j)) (reads r.plan) ≡ true
  free = and_second (is_waiting r.status) (list_all (λ j. is_firm (origin_at s k j)) (reads r.plan)) is_ready_here

  pub gives_own : own_order s k ≡ Some (order_of s (k, r))
  gives_own = ap (order_on s k) here ∙ ap (λ b. cond b (Some (order_of s (k, r))) None) free

  pub gives_some : (true ≡ is_some (take_reply s)) × IsSome (take_reply s)
  gives_some = (ap (λ o. is_some (option_map (order_of s) o)) (sym next), subst (λ o. IsSome (option_map (order_of s) o)) (sym next) refl)

  pub own_settles : IsAtRest s → WasSettled (run_at s k) k
  own_settles rests = record {
    before = s;
    row = r;
    next = run_row (now s k) r;
    rests = rests;
    here = here;
    settled = refl;
    plan = refl;
    now = ap (run_on s k) here;
  }

  pub own_run : IdsApart (row_ids s.rows) → cut_off (run_at s k) ≡ after_run s
  own_run apart = ap (λ o. cut_off (run_on s k o)) here ∙ sym (ready_run_is s k r apart here free next)

-- where no row is ready
pub none_runs : (s : State) → next_ready s ≡ None → (false ≡ is_some (take_reply s)) × (s ≡ after_run s)
none_runs s none =
    (ap (λ o. is_some (option_map (order_of s) o)) (sym none), ap (λ o. brought_back (taken s o) (option_map (order_of s) o)) (sym none))

-- a take and the bring of its order leave a state at rest
pub run_stays : (s : State) → IsAtRest s → IsAtRest (after_run s)
run_stays s rests = by_order (take_reply s)
  where
    by_order : (o : Option Task) → IsAtRest (brought_back (after_take s) o)
    by_order None = take_stays s rests
    by_order (Some t) = bring_stays (after_take s) t (take_stays s rests)

module _ (b : Board) (n m : ℕ) (inputs : Inputs) (es : List Entry) (s : State) (y : state_of b n m inputs es ≡ s) where
  -- the row that a search found
  pub ready_at : (k : ℕ) → Some k ≡ option_map (λ e. e.0) (next_ready (rows_seen es)) → (r : Row) × (next_ready s ≡ Some (k, r)) × (slice_get s.rows k ≡ Some r)
  ready_at k found =
      let e = next_found es k found in
      (machine_row e.0, ap next_ready (sym y) ∙ next_is b n m inputs es ∙ e.1, ap (λ (z : State). slice_get z.rows k) (sym y) ∙ row_at es k e.0 e.2)

  pub none_ready_at : None ≡ option_map (λ e. e.0) (next_ready (rows_seen es)) → next_ready s ≡ None
  none_ready_at none = ap next_ready (sym y) ∙ by_found (next_ready (rows_seen es)) none
    where
      by_found : (o : Option (ℕ × Row)) → None ≡ option_map (λ e. e.0) o → o ≡ None
      by_found None e = refl
      by_found (Some x) e = absurd (cc)
