-- Settling in one pass, with the cut-off decided at each place: what is not yet looked at needs no cut-off between.
use Rattle.std.proofs.Common.{◌≡◌, ℕ, List, [], ◌∷◌, Bool, true, false, cond, Some, refl, sym, ap, ◌∙◌, subst, map, zero, suc, set, slice_get, take}
use Rattle.std.proofs.Math.Path.{ap₂}
use Rattle.std.specs.Prelude.{◌&&◌, not}
use Rattle.std.specs.List.{list_all}
use Rattle.paris_names.specs.declared.keys.Key.{Key}
use Rattle.paris_model.specs.Frame.{World}
use Rattle.paris_model.specs.Instructions.{Plan, reads, one}
use Rattle.paris_model.specs.Run.{run}
use Rattle.paris_edits.specs.Rows.{is_settled}
use Rattle.paris_events.specs.State.{Row, State, IdsApart, start_world, row_plan, row_ids}
use Rattle.paris_events.specs.Show.{now}
use Rattle.paris_events.specs.Orders.{IsIdle}
use Rattle.paris_events.specs.CutOff.{cut_off}
use Rattle.paris_events.specs.Settling.{is_same, settled_row, run_row, after_run}
use Rattle.paris_events.proofs.Passes.{is_cut_in, cut_row, cut, firm_after, from_start}
use Rattle.paris_events.proofs.Passes.{world_at}
use Rattle.paris_events.proofs.Passing.{firm_behind, firm_start, cut_off_is}
use Rattle.paris_events.proofs.Absorbing.{firm_less, cut_absorbed}
use Rattle.paris_events.proofs.Tests.{and_first, and_second}
use Rattle.paris_events.proofs.Ends.{world_is, ids_cut, idle_cut}
use Rattle.paris_events.proofs.Runs.{IsFirst, are_settled, firm_before, run_is}

-- a settled row stays in a pass
pub stays : (w : World) (h : Key → Bool) (r : Row) → is_settled r.status ≡ true → cut_row w h r ≡ r
stays w h r t = ap (λ b. cond (not b && (list_all h (reads r.plan) && is_same w r)) (settled_row r) r) t

-- behind settled rows, a row that is cut off now or in the pass
cut_put : (w : World) (h : Key → Bool) (rs : List Row) (k : ℕ) (r : Row) → slice_get rs k ≡ Some r → are_settled (take k rs) ≡ true → is_cut_in (world_at w rs k) (firm_behind h (take k rs)) r ≡ true → cut w h (set rs k (settled_row r)) ≡ cut w h rs
cut_put w h [] k r at b t = refl
cut_put w h (x ∷ rs) zero r at b t =
    let same : r ≡ x = cc in
    let here : cut_row w h x ≡ settled_row x = ap (λ c. cond c (settled_row x) x) (subst (λ (y : Row). is_cut_in w h y ≡ true) same t) in
    ap (λ (y : Row). settled_row y ∷ cut (one y.plan w) (firm_after h (settled_row y)) rs) same ∙ sym (ap (λ (y : Row). y ∷ cut (one x.plan w) (firm_after h y) rs) here)
cut_put w h (x ∷ rs) (suc k) r at b t =
    let first : cut_row w h x ≡ x = stays w h x (and_first (is_settled x.status) (are_settled (take k rs)) b) in
    rw first (ap (λ xs. x ∷ xs) (cut_put (one x.plan w) (firm_after h x) rs k r at (and_second (is_settled x.status) (are_settled (take k rs)) b) t))

-- a row that is not, in the place of which another settled row of its plan is put
cut_run : (w : World) (h : Key → Bool) (rs : List Row) (k : ℕ) (r x : Row) → slice_get rs k ≡ Some r → are_settled (take k rs) ≡ true → is_cut_in (world_at w rs k) (firm_behind h (take k rs)) r ≡ false → is_settled x.status ≡ true → x.plan ≡ r.plan
    → cut w h (set (cut w h rs) k x) ≡ cut w h (set rs k x)
cut_run w h [] k r x at b t u p = refl
cut_run w h (y ∷ rs) zero r x at b t u p =
    let same : r ≡ y = cc in
    let here : cut_row w h y ≡ y = ap (λ c. cond c (settled_row y) y) (subst (λ (z : Row). is_cut_in w h z ≡ false) same t) in
    let next : cut_row w h x ≡ x = stays w h x u in
    let plan : x.plan ≡ y.plan = p ∙ ap (λ (z : Row). z.plan) same in
    let world : one x.plan w ≡ one y.plan w = ap (λ (q : Plan). one q w) plan in
    let rest : cut (one y.plan w) (firm_after h x) (cut (one y.plan w) (firm_after h y) rs) ≡ cut (one y.plan w) (firm_after h x) rs = cut_absorbed (one y.plan w) (firm_after h y) (firm_after h x) (firm_less h h y x plan (λ _. u) (λ f z. z)) rs in
    rw (next, here) (ap (λ (v : World). x ∷ cut v (firm_after h x) (cut (one y.plan w) (firm_after h y) rs)) world ∙ ap (λ xs. x ∷ xs) rest ∙ sym (ap (λ (v : World). x ∷ cut v (firm_after h x) rs) world))
cut_run w h (y ∷ rs) (suc k) r x at b t u p =
    let first : cut_row w h y ≡ y = stays w h y (and_first (is_settled y.status) (are_settled (take k rs)) b) in
    rw (first, first) (ap (λ xs. y ∷ xs) (cut_run (one y.plan w) (firm_after h y) rs k r x at (and_second (is_settled y.status) (are_settled (take k rs)) b) t u p))

-- what a pass leaves of settled rows, and of one behind them that is not cut off
front_stays : (w : World) (h : Key → Bool) (rs : List Row) (k : ℕ) → are_settled (take k rs) ≡ true → take k (cut w h rs) ≡ take k rs
front_stays w h [] k b = refl
front_stays w h (y ∷ rs) zero b = refl
front_stays w h (y ∷ rs) (suc k) b =
    let first : cut_row w h y ≡ y = stays w h y (and_first (is_settled y.status) (are_settled (take k rs)) b) in
    rw first (ap (λ xs. y ∷ xs) (front_stays (one y.plan w) (firm_after h y) rs k (and_second (is_settled y.status) (are_settled (take k rs)) b)))

row_stays : (w : World) (h : Key → Bool) (rs : List Row) (k : ℕ) (r : Row) → slice_get rs k ≡ Some r → are_settled (take k rs) ≡ true → is_cut_in (world_at w rs k) (firm_behind h (take k rs)) r ≡ false → slice_get (cut w h rs) k ≡ Some r
row_stays w h [] k r at b t = at
row_stays w h (y ∷ rs) zero r at b t =
    let same : r ≡ y = cc in
    ap (λ c. Some (cond c (settled_row y) y)) (subst (λ (z : Row). is_cut_in w h z ≡ false) same t) ∙ ap Some (sym same)
row_stays w h (y ∷ rs) (suc k) r at b t =
    let first : cut_row w h y ≡ y = stays w h y (and_first (is_settled y.status) (are_settled (take k rs)) b) in
    rw first (row_stays (one y.plan w) (firm_after h y) rs k r at (and_second (is_settled y.status) (are_settled (take k rs)) b) t)

-- the first unsettled row is cut off exactly where it is the same
first_test : (s : State) (k : ℕ) (r : Row) → IsFirst s.rows k r → is_cut_in (world_at (start_world s.inputs) s.rows k) (firm_behind from_start (take k s.rows)) r ≡ is_same (now s k) r
first_test s k r f =
    let world : world_at (start_world s.inputs) s.rows k ≡ now s k = world_is (start_world s.inputs) s.rows k r f.here in
    let firm : list_all (firm_behind from_start (take k s.rows)) (reads r.plan) ≡ true = ap (λ (h : Key → Bool). list_all h (reads r.plan)) (sym (firm_start (take k s.rows))) ∙ firm_before s k r f.before in
    ap₂ (λ a b. not a && (b && is_same (world_at (start_world s.inputs) s.rows k) r)) f.unsettled firm ∙ ap (λ (w : World). is_same w r) world

-- where it is, the pass would have settled it
pub pass_cuts : (s : State) (k : ℕ) (r : Row) → IsFirst s.rows k r → is_same (now s k) r ≡ true → cut_off (record s { rows = set s.rows k (settled_row r) }) ≡ cut_off s
pass_cuts s k r f t =
    let w : World = start_world s.inputs in
    cut_off_is (record s { rows = set s.rows k (settled_row r) })
    ∙ ap (λ (xs : List Row). record s { rows = xs }) (cut_put w from_start s.rows k r f.here f.before (first_test s k r f ∙ t))
    ∙ sym (cut_off_is s)

-- where it is not, it is the next to be run, and the pass behind what was run is the pass behind it
pub pass_runs : (s : State) (k : ℕ) (r : Row) → IsIdle s.rows → IdsApart (row_ids s.rows) → IsFirst s.rows k r → is_same (now s k) r ≡ false
    → after_run (cut_off s) ≡ cut_off (record s { rows = set s.rows k (run_row (now s k) r) })
pass_runs s k r idle apart f t =
    let w : World = start_world s.inputs in
    let rs : List Row = cut w from_start s.rows in
    let c : State = record s { rows = rs } in
    let x : Row = run_row (now s k) r in
    let test : is_cut_in (world_at w s.rows k) (firm_behind from_start (take k s.rows)) r ≡ false = first_test s k r f ∙ t in
    let front : take k rs ≡ take k s.rows = front_stays w from_start s.rows k f.before in
    let first : IsFirst rs k r = record { here = row_stays w from_start s.rows k r f.here f.before test; unsettled = f.unsettled; before = ap are_settled front ∙ f.before } in
    ap after_run (cut_off_is s)
    ∙ run_is c k r (idle_cut w from_start s.rows idle) (subst IdsApart (sym (ids_cut w from_start s.rows)) apart) first
    ∙ ap (λ (xs : List Row). cut_off (record s { rows = set rs k (run_row (run w (map row_plan xs)) r) })) front
    ∙ cut_off_is (record s { rows = set rs k x })
    ∙ ap (λ (xs : List Row). record s { rows = xs }) (cut_run w from_start s.rows k r x f.here f.before test refl refl)
    ∙ sym (cut_off_is (record s { rows = set s.rows k x }))
