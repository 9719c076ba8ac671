-- Rows that are settled between two passes, by their own orders or by what they computed last: what stays as it was, and what the
-- pass behind them gives.
use Rattle.std.proofs.Common.{◌≡◌, ℕ, ◌+◌, ◌⊎◌, inl, inr, List, [], ◌∷◌, Bool, true, false, cond, Option, Some, None, refl, sym, ap, ◌∙◌, subst, arith, map, take, zero, suc, set, slice_get}
use Rattle.std.proofs.Math.Path.{ap₂}
use Rattle.std.specs.Prelude.{◌&&◌, ◌||◌, not}
use Rattle.std.specs.List.{list_all}
use Rattle.paris_names.specs.declared.keys.Key.{Key}
use Rattle.paris_model.specs.Frame.{World}
use Rattle.paris_model.specs.Instructions.{Plan, reads, one}
use Rattle.paris_model.specs.Run.{run}
use Rattle.paris_exec.specs.Tasks.{Task, field_of}
use Rattle.paris_edits.specs.Rows.{is_settled, is_waiting}
use Rattle.paris_events.specs.State.{Row, State, row_plan, start_world, work_of}
use Rattle.paris_events.specs.Show.{now, origin_at}
use Rattle.paris_events.specs.Orders.{IsIdle, is_firm, is_ready, order_of}
use Rattle.paris_events.specs.CutOff.{is_cut, cut_off, cut_found, cut_at}
use Rattle.paris_events.specs.Results.{kept_at}
use Rattle.paris_events.specs.Settling.{is_same, is_due, due_in, settled_in, settled_row, run_row, unsettled_rows}
use Rattle.paris_events.proofs.Passes.{is_cut_in, cut_row, cut, firm_after, from_start, world_at}
use Rattle.paris_events.proofs.Passing.{firm_behind, firm_start, test_is, cut_off_is}
use Rattle.paris_events.proofs.AtRests.{plan_stays}
use Rattle.paris_events.proofs.Anywhere.{cut_early, due_early, ends_early, get_cut, keep_anywhere}
use Rattle.paris_events.proofs.Absorbing.{stays_settled}
use Rattle.paris_events.proofs.Counting.{due_kept, settled_in-kept}
use Rattle.paris_events.proofs.Ends.{world_is, ids_run, idle_run}
use Rattle.paris_events.proofs.Runs.{waits_at}
use Rattle.paris_events.proofs.Tests.{and_first, and_second}
use Rattle.paris_book.specs.Steps.{is_free, order_on, own_order, is_left, is_run, run_on, run_at, runs_on, runs_at, turned_on, turned_at}
use Rattle.paris_book.specs.Rounds.{StaySettled, Runs, RunsTo, Advances, HoldsTask}
use Rattle.paris_book.proofs.Firmer.{More, more_set, all_firm_more, set_cases}

-- ---- one row is put in the place of another

pub plans_put : (rs : List Row) (k : ℕ) (r x : Row) (p : ℕ) → slice_get rs k ≡ Some r → x.plan ≡ r.plan → map row_plan (take p (set rs k x)) ≡ map row_plan (take p rs)
plans_put [] k r x p at plan = refl
plans_put (y ∷ rs) zero r x zero at plan = refl
plans_put (y ∷ rs) zero r x (suc p) at plan = let same : r ≡ y = cc in ap (λ (q : Plan). q ∷ map row_plan (take p rs)) (plan ∙ ap (λ (z : Row). z.plan) same)
plans_put (y ∷ rs) (suc k) r x zero at plan = refl
plans_put (y ∷ rs) (suc k) r x (suc p) at plan = ap (λ ps. y.plan ∷ ps) (plans_put rs k r x p at plan)

get_put : (rs : List Row) (k : ℕ) (r x : Row) (p : ℕ) (q : Row) → slice_get rs k ≡ Some r → slice_get rs p ≡ Some q → ((q ≡ r) × (slice_get (set rs k x) p ≡ Some x)) ⊎ (slice_get (set rs k x) p ≡ Some q)
get_put [] k r x p q here at = absurd (cc)
get_put (y ∷ rs) zero r x zero q here at = let same : q ≡ r = cc in inl (same, refl)
get_put (y ∷ rs) zero r x (suc p) q here at = inr at
get_put (y ∷ rs) (suc k) r x zero q here at = inr at
get_put (y ∷ rs) (suc k) r x (suc p) q here at = get_put rs k r x p q here at

stay_put : (rs : List Row) (k : ℕ) (r x : Row) → slice_get rs k ≡ Some r → is_settled r.status ≡ false → StaySettled rs (set rs k x)
stay_put rs k r x here u p q at s = elim (get_put rs k r x p q here at) [
  | inl e ↦ let b : true ≡ false = sym s ∙ ap (λ (z : Row). is_settled z.status) e.0 ∙ u in absurd (cc)
  | inr e ↦ e
]

count_put : (rs : List Row) (k : ℕ) (r x : Row) → slice_get rs k ≡ Some r → is_settled r.status ≡ false → is_settled x.status ≡ true → unsettled_rows (set rs k x) + 1 ≡ unsettled_rows rs
count_put [] k r x at u t = absurd (cc)
count_put (y ∷ rs) zero r x at u t =
    let same : is_settled y.status ≡ false = let z : y ≡ r = cc in ap (λ (z : Row). is_settled z.status) z ∙ u in
    rw (same, t) (omega arith)
count_put (y ∷ rs) (suc k) r x at u t = let rest = count_put rs k r x at u t in omega (arith, rest)

-- an unsettled row in whose place a settled one with its id, edition and plan is put
record Put (s : State) (place : ℕ) (r x : Row) : Type 0 where
  here : slice_get s.rows place ≡ Some r
  unsettled : is_settled r.status ≡ false
  settled : is_settled x.status ≡ true
  id : x.id ≡ r.id
  edition : x.edition ≡ r.edition
  plan : x.plan ≡ r.plan

abbrev pub put_in : State → ℕ → Row → State
put_in s place x = record s { rows = set s.rows place x }

module _ (s : State) (k : ℕ) (r x : Row) (put : Put s k r x) where
  more_put : More s.rows (set s.rows k x)
  more_put = more_set s.rows k r x put.here (put.plan, λ _. put.settled)

  worlds_put : (p : ℕ) → now (put_in s k x) p ≡ now s p
  worlds_put p = ap (λ (ps : List Plan). run (start_world s.inputs) ps) (plans_put s.rows k r x p put.here put.plan)

  -- a row gives the order that it gave
  given_put : (p : ℕ) (q z : Row) → is_free s p q ≡ true → z.id ≡ q.id → z.edition ≡ q.edition → z.plan ≡ q.plan → order_on (put_in s k x) p (Some z) ≡ Some (order_of s (p, q))
  given_put p q z free id edition plan =
      let u : State = put_in s k x in
      let still : is_free u p z ≡ true = ap (λ (y : Plan). list_all (λ j. is_firm (origin_at u p j)) (reads y)) plan ∙ all_firm_more p s.rows u.rows (reads q.plan) more_put free in
      ap (λ b. cond b (Some (order_of u (p, z))) None) still
      ∙ ap (λ (w : World). Some (record { id = z.id; edition = z.edition; plan = z.plan; inputs = map (λ j. field_of z.plan j (w j)) (reads z.plan) })) (worlds_put p)
      ∙ (λ i. Some (record { id = id i; edition = edition i; plan = plan i; inputs = map (λ j. field_of (plan i) j (now s p j)) (reads (plan i)) }))

  order_put : (p : ℕ) (t : Task) → own_order s p ≡ Some t → own_order (put_in s k x) p ≡ Some t
  order_put p t own = by_row (slice_get s.rows p) refl own
    where
      by_free : (q : Row) → slice_get s.rows p ≡ Some q → (b : Bool) → is_free s p q ≡ b → cond b (Some (order_of s (p, q))) None ≡ Some t → own_order (put_in s k x) p ≡ Some t
      by_free q at false free e = absurd (cc)
      by_free q at true free e = elim (get_put s.rows k r x p q put.here at) [
        | inl n ↦ ap (order_on (put_in s k x) p) n.1
            ∙ given_put p q x free (put.id ∙ sym (ap (λ (z : Row). z.id) n.0)) (put.edition ∙ sym (ap (λ (z : Row). z.edition) n.0)) (put.plan ∙ sym (ap (λ (z : Row). z.plan) n.0)) ∙ e
        | inr n ↦ ap (order_on (put_in s k x) p) n ∙ given_put p q q free refl refl refl ∙ e
      ]

      by_row : (o : Option Row) → slice_get s.rows p ≡ o → order_on s p o ≡ Some t → own_order (put_in s k x) p ≡ Some t
      by_row None at is = absurd (cc)
      by_row (Some q) at is = by_free q at (is_free s p q) refl is

  left_put : (p : ℕ) (q : Row) → slice_get (set s.rows k x) p ≡ Some q → is_settled q.status ≡ false → slice_get s.rows p ≡ Some q
  left_put p q at u = elim (set_cases s.rows k x p q at) [
    | inl e ↦ let b : true ≡ false = sym put.settled ∙ sym (ap (λ (z : Row). is_settled z.status) e.1) ∙ u in absurd (cc)
    | inr e ↦ e
  ]

-- ---- the tests of a row, of a state

-- a row is cut off that is unsettled, whose origins are settled, and whose last kept result is of its present work
pub cut_means : (s : State) (place : ℕ) (r : Row) → is_cut s place r ≡ (not (is_settled r.status) && (is_free s place r && is_same (now s place) r))
cut_means s place r = test_is s place r ∙ ap (λ (h : Key → Bool). not (is_settled r.status) && (list_all h (reads r.plan) && is_same (now s place) r)) (sym (firm_start (take place s.rows)))

pub cut_unsettled : (s : State) (place : ℕ) (r : Row) → is_cut s place r ≡ true → is_settled r.status ≡ false
cut_unsettled s place r t = by_status (is_settled r.status) (and_first (not (is_settled r.status)) (is_free s place r && is_same (now s place) r) (sym (cut_means s place r) ∙ t))
  where
    by_status : (b : Bool) → not b ≡ true → b ≡ false
    by_status true h = absurd (let x : false ≡ true = h in cc)
    by_status false h = refl

pub cut_same : (s : State) (place : ℕ) (r : Row) → is_cut s place r ≡ true → is_same (now s place) r ≡ true
cut_same s place r t =
    and_second (is_free s place r) (is_same (now s place) r)
    (and_second (not (is_settled r.status)) (is_free s place r && is_same (now s place) r) (sym (cut_means s place r) ∙ t))

-- a row that is left is unsettled, and where its origins are settled its last kept result is of another work
pub left_unsettled : (s : State) (place : ℕ) (r : Row) → is_left s place r ≡ true → is_settled r.status ≡ false
left_unsettled s place r t = by_status (is_settled r.status) t
  where
    by_status : (b : Bool) → not (b || is_cut s place r) ≡ true → b ≡ false
    by_status true h = absurd (let x : false ≡ true = h in cc)
    by_status false h = refl

pub left_differs : (s : State) (place : ℕ) (r : Row) → is_settled r.status ≡ false → is_cut s place r ≡ false → is_free s place r ≡ true → is_same (now s place) r ≡ false
left_differs s place r u c f = by_same (is_same (now s place) r) (sym (ap₂ (λ a b. not a && (b && is_same (now s place) r)) u f) ∙ sym (cut_means s place r) ∙ c)
  where
    by_same : (b : Bool) → (true && (true && b)) ≡ false → b ≡ false
    by_same true h = absurd (let x : true ≡ false = h in cc)
    by_same false h = refl

pub left_cut : (s : State) (place : ℕ) (r : Row) → is_left s place r ≡ true → is_cut s place r ≡ false
left_cut s place r t = by_status (is_settled r.status) (is_cut s place r) t
  where
    by_status : (a b : Bool) → not (a || b) ≡ true → b ≡ false
    by_status true b h = absurd (let x : false ≡ true = h in cc)
    by_status false true h = absurd (let x : false ≡ true = h in cc)
    by_status false false h = refl

-- ---- the rows that are run

abbrev pub RunsOf : ℕ → ℕ → State → State → Type 0
RunsOf n k s t = RunsTo (n + k) s t

then_runs : (n k : ℕ) (s t u : State) → RunsTo n s t → RunsTo k t u → RunsTo (n + k) s u
then_runs n zero s t u a e =
    let number : n ≡ n + 0 = omega arith in
    subst (λ (m : ℕ). RunsTo m s u) number (subst (λ (z : State). RunsTo n s z) (sym e) a)
then_runs n (suc k) s t u a (v, before, run) =
    let number : suc (n + k) ≡ n + suc k = omega arith in
    subst (λ (m : ℕ). RunsTo m s u) number (v, then_runs n k s t v a before, run)

-- ---- a pass leaves plans, and what is settled

pub more_cut : (w : World) (h : Key → Bool) (rs : List Row) → More rs (cut w h rs)
more_cut w h [] = tt
more_cut w h (r ∷ rs) = ((plan_stays w h r, stays_settled w h r), more_cut (one r.plan w) (firm_after h (cut_row w h r)) rs)

plans_cut : (w : World) (h : Key → Bool) (rs : List Row) (p : ℕ) → map row_plan (take p (cut w h rs)) ≡ map row_plan (take p rs)
plans_cut w h [] zero = refl
plans_cut w h [] (suc p) = refl
plans_cut w h (r ∷ rs) zero = refl
plans_cut w h (r ∷ rs) (suc p) = ap₂ (λ (q : Plan) qs. q ∷ qs) (plan_stays w h r) (plans_cut (one r.plan w) (firm_after h (cut_row w h r)) rs p)

-- ---- a row that is run, with the pass behind it

module _ (s : State) (k : ℕ) (r : Row) (here : slice_get s.rows k ≡ Some r) (unsettled : is_settled r.status ≡ false) where
  put_run : Put s k r (run_row (now s k) r)
  put_run = record { here = here; unsettled = unsettled; settled = refl; id = refl; edition = refl; plan = refl }

  put_again : Put s k r (settled_row r)
  put_again = record { here = here; unsettled = unsettled; settled = refl; id = refl; edition = refl; plan = refl }

  world : world_at (start_world s.inputs) s.rows k ≡ now s k
  world = world_is (start_world s.inputs) s.rows k r here

  module _ (free : is_free s k r ≡ true) (differs : is_same (now s k) r ≡ false) where
    differs_at : is_same (world_at (start_world s.inputs) s.rows k) r ≡ false
    differs_at = ap (λ (w : World). is_same w r) world ∙ differs

    is_due_at : is_due (world_at (start_world s.inputs) s.rows k) r ≡ true
    is_due_at = ap₂ (λ a b. not (a || b)) unsettled differs_at

    -- with no row out it is ready in the state that the pass leaves, and the pass behind its result is the same
    runs_now : IsIdle s.rows → Runs (cut_off s) (cut_off (put_in s k (run_row (now s k) r)))
    runs_now idle =
        let w : World = start_world s.inputs in
        let rs : List Row = cut w from_start s.rows in
        let c : State = record s { rows = rs } in
        let x : Row = run_row (now s k) r in
        let same_world : now c k ≡ now s k = ap (λ (ps : List Plan). run w ps) (plans_cut w from_start s.rows k) in
        let waits : is_waiting r.status ≡ true = waits_at s.rows k r idle here unsettled in
        let firm : list_all (λ j. is_firm (origin_at c k j)) (reads r.plan) ≡ true = all_firm_more k s.rows rs (reads r.plan) (more_cut w from_start s.rows) free in
        let ready : is_ready c k r ≡ true = ap₂ (λ a b. a && b) waits firm in
        let kept : kept_at c (k, r) (work_of (order_of c (k, r))) ≡ record s { rows = set rs k x } = ap (λ (v : World). record s { rows = set rs k (run_row v r) }) same_world in
        let behind : cut_off (record s { rows = set rs k x }) ≡ cut_off (put_in s k x) = ap (λ (z : State). cut_off (record s { rows = set z.rows k x })) (sym (cut_off_is s)) ∙ keep_anywhere s k r x here differs_at refl refl in
        subst (λ (z : State). Runs z (cut_off (put_in s k x))) (sym (cut_off_is s))
        (k, r, get_cut w from_start s.rows k r here differs_at, ready, sym (ap cut_off kept ∙ behind))

    pub run_advances : Advances 1 s (put_in s k (run_row (now s k) r))
    run_advances =
        let w : World = start_world s.inputs in
        let x : Row = run_row (now s k) r in
        let there : set s.rows k (run_row (world_at w s.rows k) r) ≡ set s.rows k x = ap (λ (v : World). set s.rows k (run_row v r)) world in
        let fewer : due_in w s.rows ≡ suc (due_in w (set s.rows k x)) = due_kept w s.rows k r here is_due_at ∙ ap (λ rs. suc (due_in w rs)) there in
        let left = count_put s.rows k r x here unsettled refl in
        record {
          same = ap (λ (rs : List Row). record s { rows = rs }) (ap (settled_in w) (sym there) ∙ settled_in-kept w s.rows k r here is_due_at);
          due = omega (arith, fewer);
          rows = omega (arith, left);
          stay = stay_put s.rows k r x here unsettled;
          ids = ids_run s.rows k r x here refl;
          left = left_put s k r x put_run;
          orders = order_put s k r x put_run;
          worlds = worlds_put s k r x put_run;
          idle = idle_run s.rows k x refl;
          runs = λ idle. (cut_off s, refl, runs_now idle);
        }

  pub again_advances : is_cut s k r ≡ true → Advances 0 s (put_in s k (settled_row r))
  again_advances cut_here =
      let w : World = start_world s.inputs in
      let x : Row = settled_row r in
      let same : is_same (world_at w s.rows k) r ≡ true = ap (λ (v : World). is_same v r) world ∙ cut_same s k r cut_here in
      let test : is_cut_in (world_at w s.rows k) (firm_behind from_start (take k s.rows)) r ≡ true = ap (λ (v : World). is_cut_in v (firm_behind from_start (take k s.rows)) r) world ∙ sym (test_is s k r) ∙ cut_here in
      let as_many : due_in w (set s.rows k x) ≡ due_in w s.rows = due_early w s.rows k r here same in
      let left = count_put s.rows k r x here unsettled refl in
      record {
        same = ap (λ (rs : List Row). record s { rows = rs }) (ends_early w s.rows k r here same);
        due = omega (arith, as_many);
        rows = omega (arith, left);
        stay = stay_put s.rows k r x here unsettled;
        ids = ids_run s.rows k r x here refl;
        left = left_put s k r x put_again;
        orders = order_put s k r x put_again;
        worlds = worlds_put s k r x put_again;
        idle = idle_run s.rows k x refl;
        runs = λ idle. cut_off_is (put_in s k x) ∙ ap (λ (rs : List Row). record s { rows = rs }) (cut_early w from_start s.rows k r here test) ∙ sym (cut_off_is s);
      }

-- ---- all together

pub advances_none : (s t : State) → t ≡ s → Advances 0 s t
advances_none s t e = subst (Advances 0 s) (sym e) (record {
  same = refl;
  due = omega arith;
  rows = omega arith;
  stay = λ place r at settled. at;
  ids = refl;
  left = λ place r at unsettled. at;
  orders = λ place t own. own;
  worlds = λ place. refl;
  idle = λ idle. idle;
  runs = λ idle. refl;
})

pub advances_more : (n k : ℕ) (s t u : State) → Advances n s t → Advances k t u → Advances (n + k) s u
advances_more n k s t u a b =
    let due_a = a.due in
    let due_b = b.due in
    let rows_a = a.rows in
    let rows_b = b.rows in
    record {
      same = b.same ∙ a.same;
      due = omega (arith, due_a, due_b);
      rows = omega (arith, rows_a, rows_b);
      stay = λ place r at settled. b.stay place r (a.stay place r at settled) settled;
      ids = b.ids ∙ a.ids;
      left = λ place r at unsettled. a.left place r (b.left place r at unsettled) unsettled;
      orders = λ place x own. b.orders place x (a.orders place x own);
      worlds = λ place. b.worlds place ∙ a.worlds place;
      idle = λ idle. b.idle (a.idle idle);
      runs = λ idle. then_runs n k (cut_off s) (cut_off t) (cut_off u) (a.runs idle) (b.runs (a.idle idle));
    }

-- a place that was looked at
pub cut_advances : (s : State) (place : ℕ) → Advances 0 s (cut_at s place)
cut_advances s place = by_row (slice_get s.rows place) refl
  where
    by_row : (o : Option Row) → slice_get s.rows place ≡ o → Advances 0 s (cut_found s place o)
    by_row None at = advances_none s s refl
    by_row (Some r) at = by_cut (is_cut s place r) refl
      where
        by_cut : (c : Bool) → is_cut s place r ≡ c → Advances 0 s (cond c (put_in s place (settled_row r)) s)
        by_cut true t = again_advances s place r at (cut_unsettled s place r t) t
        by_cut false t = advances_none s s refl

-- a row that had its turn
pub turn_advances : (s : State) (place : ℕ) → Advances (cond (runs_at s place) 1 0) s (turned_at s place)
turn_advances s place = by_row (slice_get s.rows place) refl
  where
    by_row : (o : Option Row) → slice_get s.rows place ≡ o → Advances (cond (runs_on s place o) 1 0) s (turned_on s place o)
    by_row None at = advances_none s s refl
    by_row (Some r) at = by_run (is_run s place r) refl
      where
        looked : Advances 0 s (cut_found s place (Some r))
        looked = subst (λ o. Advances 0 s (cut_found s place o)) at (cut_advances s place)

        by_run : (b : Bool) → is_run s place r ≡ b → Advances (cond b 1 0) s (cond b (run_on s place (Some r)) (cut_found s place (Some r)))
        by_run true t =
            let left = and_first (is_left s place r) (is_free s place r) t in
            let free = and_second (is_left s place r) (is_free s place r) t in
            let unsettled = left_unsettled s place r left in
            run_advances s place r at unsettled free (left_differs s place r unsettled (left_cut s place r left) free)
        by_run false t = looked

-- what a slot holds is held still
pub task_stays : (n : ℕ) (s t : State) (place : ℕ) (x : Task) → Advances n s t → HoldsTask s place x → HoldsTask t place x
task_stays n s t place x a h = record {
  own = a.orders place x h.own;
  differs = λ r at unsettled. ap (λ (w : World). is_same w r) (a.worlds place) ∙ h.differs r (a.left place r at unsettled) unsettled;
}

-- a row that is settled by a task that it gives, and that is of another work than its last kept result
pub task_advances : (s : State) (place : ℕ) (t : Task) (r : Row) → HoldsTask s place t → slice_get s.rows place ≡ Some r → is_settled r.status ≡ false → Advances 1 s (run_at s place)
task_advances s place t r h at unsettled =
    subst (Advances 1 s) (ap (run_on s place) (sym at)) (run_advances s place r at unsettled (by_free (is_free s place r) refl (sym (ap (order_on s place) at) ∙ h.own)) (h.differs r at unsettled))
  where
    by_free : (b : Bool) → is_free s place r ≡ b → cond b (Some (order_of s (place, r))) None ≡ Some t → is_free s place r ≡ true
    by_free true e own = e
    by_free false e own = absurd (cc)
