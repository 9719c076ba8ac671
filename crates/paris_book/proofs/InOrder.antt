-- Rows that have their turns in program order: each one's turn comes when all rows before it are settled.
use Rattle.std.proofs.Common.{◌≡◌, ℕ, ◌+◌, ◌<◌, ◌≤◌, List, [], ◌∷◌, Bool, true, false, cond, Some, None, refl, sym, ap, ◌∙◌, subst, arith, take, length, zero, suc, set, slice_get, add-one, add-zero}
use Rattle.std.proofs.Math.Path.{ap₂}
use Rattle.std.proofs.lemmas.List.{take-set, length-set}
use Rattle.std.specs.Prelude.{◌&&◌, ◌||◌, not}
use Rattle.paris_edits.specs.Rows.{is_settled}
use Rattle.paris_events.specs.State.{Row, State, IdsApart, row_ids}
use Rattle.paris_events.specs.Show.{now}
use Rattle.paris_events.specs.Orders.{IsIdle}
use Rattle.paris_events.specs.CutOff.{is_cut, cut_off, cut_found}
use Rattle.paris_events.specs.Settling.{due, run_row, settled_row, after_run, ran_orders, unsettled_rows}
use Rattle.paris_events.proofs.Runs.{are_settled, firm_before}
use Rattle.paris_events.proofs.OnePass.{pass_cuts, pass_runs}
use Rattle.paris_events.proofs.Ends.{none_are}
use Rattle.paris_events.proofs.Tests.{and_first, and_second}
use Rattle.paris_book.specs.Statuses.{next_unsettled}
use Rattle.paris_book.specs.Steps.{is_free, is_left, is_run, run_on, left_on, left_at, runs_on, runs_at, turned_on, turned_at}
use Rattle.paris_book.specs.Rounds.{Advances}
use Rattle.paris_book.proofs.Advancing.{cut_same, left_differs, advances_none, advances_more, turn_advances}
use Rattle.paris_book.proofs.Calls.{unsettled_few}
use Rattle.paris_book.proofs.Searches.{next_row, no_next_row}

-- one settled row more
settled_past : (rs : List Row) (k : ℕ) (r : Row) → slice_get rs k ≡ Some r → is_settled r.status ≡ true → are_settled (take k rs) ≡ true → are_settled (take (suc k) rs) ≡ true
settled_past [] k r at settled before = absurd (cc)
settled_past (x ∷ rs) zero r at settled before = let same : x ≡ r = cc in rw (ap (λ (z : Row). is_settled z.status) same ∙ settled) refl
settled_past (x ∷ rs) (suc k) r at settled before =
    rw (and_first (is_settled x.status) (are_settled (take k rs)) before) (settled_past rs k r at settled (and_second (is_settled x.status) (are_settled (take k rs)) before))

pub get_set : {X : Type 0} (xs : List X) (k : ℕ) (x y : X) → slice_get xs k ≡ Some x → slice_get (set xs k y) k ≡ Some y
get_set [] k x y at = absurd (cc)
get_set (z ∷ xs) zero x y at = refl
get_set (z ∷ xs) (suc k) x y at = get_set xs k x y at

put_past : (rs : List Row) (k : ℕ) (r x : Row) → slice_get rs k ≡ Some r → is_settled x.status ≡ true → are_settled (take k rs) ≡ true → are_settled (take (k + 1) (set rs k x)) ≡ true
put_past rs k r x at settled before =
    ap (λ n. are_settled (take n (set rs k x))) (add-one k) ∙ settled_past (set rs k x) k x (get_set rs k r x at) settled (ap are_settled (take-set rs k x) ∙ before)

-- the rows before a place had their turns, and so many of them were run
pub record HadTurns (first : State) (place ran : ℕ) (s : State) : Type 0 where
  pub before : are_settled (take place s.rows) ≡ true
  pub as_many : length s.rows ≡ length first.rows
  pub advances : Advances ran first s
  pub state : cut_off s ≡ ran_orders ran (cut_off first)

pub none_had : (s : State) → HadTurns s 0 0 s
none_had s = record { before = none s.rows; as_many = refl; advances = advances_none s s refl; state = refl }
  where
    none : (rs : List Row) → are_settled (take 0 rs) ≡ true
    none [] = refl
    none (r ∷ rs) = refl

abbrev pub count : Bool → ℕ
count b = cond b 1 0

-- a turn that came
record Turn (s t : State) (place : ℕ) (ran : Bool) : Type 0 where
  before : are_settled (take (place + 1) t.rows) ≡ true
  as_many : length t.rows ≡ length s.rows
  state : cut_off t ≡ ran_orders (cond ran 1 0) (cut_off s)

-- that of the first unsettled row: it is settled
turn_first : (s : State) (place : ℕ) (r : Row) → IsIdle s.rows → IdsApart (row_ids s.rows) → slice_get s.rows place ≡ Some r → is_settled r.status ≡ false → are_settled (take place s.rows) ≡ true → Turn s (turned_at s place) place (runs_at s place)
turn_first s place r idle apart at unsettled before =
    subst (λ o. Turn s (turned_on s place o) place (runs_on s place o)) (sym at) (by_cut (is_cut s place r) refl)
  where
    free : is_free s place r ≡ true
    free = firm_before s place r before

    test : (c : Bool) → is_cut s place r ≡ c → is_run s place r ≡ not c
    test c t = ap₂ (λ a b. not (a || b) && is_free s place r) unsettled t ∙ ap (λ b. not c && b) free ∙ and_true (not c)
      where
        and_true : (b : Bool) → (b && true) ≡ b
        and_true true = refl
        and_true false = refl

    by_cut : (c : Bool) → is_cut s place r ≡ c → Turn s (cond (is_run s place r) (run_on s place (Some r)) (cut_found s place (Some r))) place (is_run s place r)
    by_cut true t =
        subst (λ b. Turn s (cond b (run_on s place (Some r)) (cut_found s place (Some r))) place b) (sym (test true t))
        (subst (λ (z : State). Turn s z place false) (sym (ap (λ b. cond b (record s { rows = set s.rows place (settled_row r) }) s) t)) (record {
          before = put_past s.rows place r (settled_row r) at refl before;
          as_many = length-set s.rows place (settled_row r);
          state = pass_cuts s place r (record { here = at; unsettled = unsettled; before = before }) (cut_same s place r t);
        }))
    by_cut false t =
        subst (λ b. Turn s (cond b (run_on s place (Some r)) (cut_found s place (Some r))) place b) (sym (test false t)) (record {
          before = put_past s.rows place r (run_row (now s place) r) at refl before;
          as_many = length-set s.rows place (run_row (now s place) r);
          state = sym (pass_runs s place r idle apart (record { here = at; unsettled = unsettled; before = before }) (left_differs s place r unsettled t free));
        })

ran_more : (n k : ℕ) (s : State) → ran_orders k (ran_orders n s) ≡ ran_orders (n + k) s
ran_more n zero s = ap (λ m. ran_orders m s) (sym (add-zero n))
ran_more n (suc k) s = let number : suc (n + k) ≡ n + suc k = omega arith in ap after_run (ran_more n k s) ∙ ap (λ m. ran_orders m s) number

-- no more rows were run than there are
pub had_few : (first : State) (place ran : ℕ) (s : State) → HadTurns first place ran s → ran ≤ length s.rows
had_few first place ran s had =
    let rows = had.advances.rows in
    let few = unsettled_few first.rows in
    let as_many = had.as_many in
    omega (arith, rows, few, as_many)

module _ (first : State) (place ran : ℕ) (s : State) (had : HadTurns first place ran s) where
  -- the settled rows up to the next unsettled one have no turn
  pub had_skipped : (k : ℕ) → next_unsettled s.rows place ≡ Some k → (r : Row) × (slice_get s.rows k ≡ Some r) × (is_settled r.status ≡ false) × HadTurns first k ran s × (place ≤ k)
  had_skipped k found =
      let f = next_row s.rows place k found had.before in
      (f.0, f.1, f.2, record { before = f.3; as_many = had.as_many; advances = had.advances; state = had.state }, f.4)

  -- once no unsettled row is left
  pub had_all : next_unsettled s.rows place ≡ None → unsettled_rows s.rows ≡ 0
  had_all none = none_are s.rows (no_next_row s.rows place none had.before)

  module _ (idle : IsIdle first.rows) (apart : IdsApart (row_ids first.rows)) where
    -- the turn of an unsettled row
    pub had_turn : (r : Row) (t : State) (more : ℕ) → slice_get s.rows place ≡ Some r → is_settled r.status ≡ false → t ≡ turned_at s place → more ≡ count (runs_at s place) → HadTurns first (place + 1) (ran + more) t
    had_turn r t more at unsettled is which =
        let turn = turn_first s place r (had.advances.idle idle) (subst IdsApart (sym had.advances.ids) apart) at unsettled had.before in
        subst (λ (z : State). HadTurns first (place + 1) (ran + more) z) (sym is)
        (subst (λ (n : ℕ). HadTurns first (place + 1) (ran + n) (turned_at s place)) (sym which) (record {
          before = turn.before;
          as_many = turn.as_many ∙ had.as_many;
          advances = advances_more ran (cond (runs_at s place) 1 0) first s (turned_at s place) had.advances (turn_advances s place);
          state = turn.state ∙ ap (ran_orders (cond (runs_at s place) 1 0)) had.state ∙ ran_more ran (cond (runs_at s place) 1 0) (cut_off first);
        }))

    -- as long as a row is left, fewer were run than were due
    pub had_fewer : (r : Row) → slice_get s.rows place ≡ Some r → is_settled r.status ≡ false → left_at s place ≡ true → ran < due first
    had_fewer r at unsettled left =
        let here : is_left s place r ≡ true = sym (ap (left_on s place) at) ∙ left in
        let runs : runs_at s place ≡ true = ap (runs_on s place) at ∙ ap₂ (λ a b. a && b) here (firm_before s place r had.before) in
        let more = (turn_advances s place).due in
        let number : count (runs_at s place) ≡ count true = ap count runs in
        let so_far = had.advances.due in
        omega (arith, more, number, so_far)
