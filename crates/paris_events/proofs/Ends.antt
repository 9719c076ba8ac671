-- Takes and brings from a state at rest run as many orders as are due, and end where all is settled.
use Rattle.std.proofs.Common.{◌≡◌, ℕ, ◌+◌, ◌<◌, ◌≤◌, ◌⊎◌, inl, inr, List, [], ◌∷◌, Bool, true, false, cond, Some, refl, sym, ap, ◌∙◌, subst, arith, map, zero, suc, set, slice_get, take}
use Rattle.std.proofs.Math.Path.{ap₂}
use Rattle.std.specs.Prelude.{IsSome}
use Rattle.std.specs.Option.{option_map}
use Rattle.std.specs.List.{list_all}
use Rattle.paris_names.specs.declared.keys.Key.{Key}
use Rattle.paris_model.specs.Frame.{World}
use Rattle.paris_model.specs.Instructions.{reads, one}
use Rattle.paris_model.specs.Run.{run}
use Rattle.paris_edits.specs.Rows.{is_settled, is_waiting}
use Rattle.paris_edits.specs.declared.rows.Status.{Status}
use Rattle.paris_edits.specs.declared.rows.Status.TheVariants.{Waiting, Out, Settled}
use Rattle.paris_events.specs.State.{Row, State, IdsApart, start_world, row_plan, row_ids}
use Rattle.paris_events.specs.Show.{now}
use Rattle.paris_events.specs.Orders.{IsIdle, order_of, take_reply, recalled_row, recalled_status, after_release}
use Rattle.paris_events.specs.CutOff.{cut_off}
use Rattle.paris_events.specs.Settling.{is_due, due_in, due, settled_row, run_row, settled_due, settled_in, all_settled, unsettled_rows, after_run, ran_orders}
use Rattle.paris_events.proofs.Passes.{is_cut_in, cut_row, cut, firm_after, from_start, Rests, AtRest}
use Rattle.paris_events.proofs.Passes.{world_at}
use Rattle.paris_events.proofs.Counting.{due_cut, settled_in-cut, due_kept, settled_in-kept, ready_due, none_due, due_few}
use Rattle.paris_events.proofs.Passing.{firm_behind, firm_start, cut_off_is}
use Rattle.paris_events.proofs.Absorbing.{none_unsettled}
use Rattle.paris_events.proofs.Tests.{and_first, and_second}
use Rattle.paris_events.proofs.Rests.{off_rests, release_rests}
use Rattle.paris_events.proofs.Runs.{SomeFirst, are_settled, first_of, firm_before, next_first, run_is}

-- ---- places

pub world_is : (w : World) (rs : List Row) (k : ℕ) (r : Row) → slice_get rs k ≡ Some r → world_at w rs k ≡ run w (map row_plan (take k rs))
world_is w [] k r at = absurd (cc)
world_is w (x ∷ rs) zero r at = refl
world_is w (x ∷ rs) (suc k) r at = world_is (one x.plan w) rs k r at

pub rests_at : (w : World) (h : Key → Bool) (rs : List Row) (k : ℕ) (r : Row) → slice_get rs k ≡ Some r → Rests w h rs → is_cut_in (world_at w rs k) (firm_behind h (take k rs)) r ≡ false
rests_at w h [] k r at s = absurd (cc)
rests_at w h (x ∷ rs) zero r at s = let same : x ≡ r = cc in subst (λ (y : Row). is_cut_in w h y ≡ false) same s.0
rests_at w h (x ∷ rs) (suc k) r at s = rests_at (one x.plan w) (firm_after h x) rs k r at s.1

-- ---- what stays

pub ids_cut : (w : World) (h : Key → Bool) (rs : List Row) → row_ids (cut w h rs) ≡ row_ids rs
ids_cut w h [] = refl
ids_cut w h (r ∷ rs) = ap₂ (λ (i : ℕ) is. i ∷ is) (by_test (is_cut_in w h r)) (ids_cut (one r.plan w) (firm_after h (cut_row w h r)) rs)
  where
    by_test : (b : Bool) → (cond b (settled_row r) r).id.0 ≡ r.id.0
    by_test true = refl
    by_test false = refl

pub idle_cut : (w : World) (h : Key → Bool) (rs : List Row) → IsIdle rs → IsIdle (cut w h rs)
idle_cut w h [] i = tt
idle_cut w h (r ∷ rs) i = (by_test (is_cut_in w h r), idle_cut (one r.plan w) (firm_after h (cut_row w h r)) rs i.1)
  where
    by_test : (b : Bool) → is_settled (cond b (settled_row r) r).status ≡ false → is_waiting (cond b (settled_row r) r).status ≡ true
    by_test true t = absurd (let x : true ≡ false = t in cc)
    by_test false t = i.0 t

pub ids_run : (rs : List Row) (k : ℕ) (r x : Row) → slice_get rs k ≡ Some r → x.id.0 ≡ r.id.0 → row_ids (set rs k x) ≡ row_ids rs
ids_run [] k r x at e = refl
ids_run (y ∷ rs) zero r x at e = let same : r ≡ y = cc in ap (λ (i : ℕ). i ∷ row_ids rs) (e ∙ ap (λ (z : Row). z.id.0) same)
ids_run (y ∷ rs) (suc k) r x at e = ap (λ is. y.id.0 ∷ is) (ids_run rs k r x at e)

pub idle_run : (rs : List Row) (k : ℕ) (x : Row) → is_settled x.status ≡ true → IsIdle rs → IsIdle (set rs k x)
idle_run [] k x t i = tt
idle_run (y ∷ rs) zero x t i = (λ u. absurd (let z : true ≡ false = sym t ∙ u in cc), i.1)
idle_run (y ∷ rs) (suc k) x t i = (i.0, idle_run rs k x t i.1)

pub none_are : (rs : List Row) → are_settled rs ≡ true → unsettled_rows rs ≡ 0
none_are [] h = refl
none_are (r ∷ rs) h =
    let rest = none_are rs (and_second (is_settled r.status) (are_settled rs) h) in
    rw (and_first (is_settled r.status) (are_settled rs) h) (omega (arith, rest))

-- ---- after a release

pub due_recalled : (w : World) (rs : List Row) → due_in w (map recalled_row rs) ≡ due_in w rs
due_recalled w [] = refl
due_recalled w (r ∷ rs) = ap₂ (λ (b : Bool) (n : ℕ). cond b 1 0 + n) (by_status r.status) (due_recalled (one r.plan w) rs)
  where
    by_status : (s : Status) → is_due w (record r { status = recalled_status s }) ≡ is_due w (record r { status = s })
    by_status Waiting = refl
    by_status Out = refl
    by_status Settled = refl

pub settled_recalled : (w : World) (rs : List Row) → settled_in w (map recalled_row rs) ≡ settled_in w rs
settled_recalled w [] = refl
settled_recalled w (r ∷ rs) = ap₂ (λ (x : Row) xs. x ∷ xs) (by_status r.status) (settled_recalled (one r.plan w) rs)
  where
    by_status : (s : Status) → settled_due w (record r { status = recalled_status s }) ≡ settled_due w (record r { status = s })
    by_status Waiting = refl
    by_status Out = refl
    by_status Settled = refl

pub ids_recalled : (rs : List Row) → row_ids (map recalled_row rs) ≡ row_ids rs
ids_recalled [] = refl
ids_recalled (r ∷ rs) = ap (λ is. r.id.0 ∷ is) (ids_recalled rs)

pub idle_recalled : (rs : List Row) → IsIdle (map recalled_row rs)
idle_recalled [] = tt
idle_recalled (r ∷ rs) = (by_status r.status, idle_recalled rs)
  where
    by_status : (s : Status) → is_settled (recalled_status s) ≡ false → is_waiting (recalled_status s) ≡ true
    by_status Waiting t = refl
    by_status Out t = refl
    by_status Settled t = absurd (let x : true ≡ false = t in cc)

-- ---- a take and a bring after another

-- a state after some orders: at rest, no row out, and what is left of all that was due
pub record Mid (s t : State) (n : ℕ) : Type 0 where
  pub rests : AtRest t
  pub idle : IsIdle t.rows
  pub apart : IdsApart (row_ids t.rows)
  pub left : n + due t ≡ due s
  pub ends : all_settled t ≡ all_settled s

-- one more order, where one is due
pub mid_more : (s t : State) (n : ℕ) → Mid s t n → 0 < due t → IsSome (take_reply t) × Mid s (after_run t) (suc n)
mid_more s t n m some = by_first (first_of t.rows)
  where
    by_first : (are_settled t.rows ≡ true) ⊎ SomeFirst t.rows → IsSome (take_reply t) × Mid s (after_run t) (suc n)
    by_first (inl e) = let none = none_are t.rows e in let few = due_few (start_world t.inputs) t.rows in absurd (omega (arith, none, few, some))
    by_first (inr (k, r, f)) =
        let w : World = start_world t.inputs in
        let here : World = world_at w t.rows k in
        let world : here ≡ now t k = world_is w t.rows k r f.here in
        let x : Row = run_row here r in
        let u : State = record t { rows = set t.rows k x } in
        let firm : list_all (firm_behind from_start (take k t.rows)) (reads r.plan) ≡ true = ap (λ (h : Key → Bool). list_all h (reads r.plan)) (sym (firm_start (take k t.rows))) ∙ firm_before t k r f.before in
        let is : is_due here r ≡ true = ready_due here (firm_behind from_start (take k t.rows)) r (rests_at w from_start t.rows k r f.here m.rests) f.unsettled firm in
        let next : after_run t ≡ cut_off u = run_is t k r m.idle m.apart f ∙ ap (λ (v : World). cut_off (record t { rows = set t.rows k (run_row v r) })) (sym world) in
        let whole : after_run t ≡ record t { rows = cut w from_start (set t.rows k x) } = next ∙ cut_off_is u in
        let fewer : due t ≡ suc (due_in w (set t.rows k x)) = due_kept w t.rows k r f.here is in
        let same : due_in w (cut w from_start (set t.rows k x)) ≡ due_in w (set t.rows k x) = due_cut w from_start (set t.rows k x) in
        let left : n + due t ≡ due s = m.left in
        let count : suc n + due_in w (cut w from_start (set t.rows k x)) ≡ due s = omega (arith, fewer, same, left) in (
          subst (λ o. IsSome (option_map (order_of t) o)) (sym (next_first t k r m.idle f)) refl,
          subst (λ (z : State). Mid s z (suc n)) (sym whole) (record {
            rests = subst AtRest (cut_off_is u) (off_rests u);
            idle = idle_cut w from_start (set t.rows k x) (idle_run t.rows k x refl m.idle);
            apart = subst IdsApart (sym (ids_cut w from_start (set t.rows k x) ∙ ids_run t.rows k r x f.here refl)) m.apart;
            left = count;
            ends = ap (λ (xs : List Row). record t { rows = xs }) (settled_in-cut w from_start (set t.rows k x) ∙ settled_in-kept w t.rows k r f.here is) ∙ m.ends;
          }),
        )

pub mid_first : (s : State) → AtRest s → IdsApart (row_ids s.rows) → Mid s (after_release s) 0
mid_first s rests apart = record {
  rests = release_rests s rests;
  idle = idle_recalled s.rows;
  apart = subst IdsApart (sym (ids_recalled s.rows)) apart;
  left = let same : due_in (start_world s.inputs) (map recalled_row s.rows) ≡ due_in (start_world s.inputs) s.rows = due_recalled (start_world s.inputs) s.rows in omega (arith, same);
  ends = ap (λ (xs : List Row). record s { rows = xs }) (settled_recalled (start_world s.inputs) s.rows);
}

-- so many orders, as long as no more than are due
pub mid_after : (s : State) → AtRest s → IdsApart (row_ids s.rows) → (n : ℕ) → n ≤ due s → Mid s (ran_orders n (after_release s)) n
mid_after s rests apart zero few = mid_first s rests apart
mid_after s rests apart (suc n) few =
    let before = mid_after s rests apart n (omega (arith, few)) in
    let left = before.left in
    (mid_more s (ran_orders n (after_release s)) n before (omega (arith, few, left))).1

-- before each of them a take gives an order
pub order_left : (s : State) → AtRest s → IdsApart (row_ids s.rows) → (n : ℕ) → n < due s → IsSome (take_reply (ran_orders n (after_release s)))
order_left s rests apart n few =
    let before = mid_after s rests apart n (omega (arith, few)) in
    let left = before.left in
    (mid_more s (ran_orders n (after_release s)) n before (omega (arith, few, left))).0

-- and behind them nothing is unsettled: the state is the one where all is settled
pub ran_ends : (s : State) → AtRest s → IdsApart (row_ids s.rows) → (unsettled_rows (ran_orders (due s) (after_release s)).rows ≡ 0) × (ran_orders (due s) (after_release s) ≡ all_settled s)
ran_ends s rests apart =
    let t : State = ran_orders (due s) (after_release s) in
    let end : Mid s t (due s) = mid_after s rests apart (due s) (omega (arith)) in
    let left = end.left in
    let none : due_in (start_world t.inputs) t.rows ≡ 0 = omega (arith, left) in
    let zero_left : unsettled_rows t.rows ≡ 0 = none_due (start_world t.inputs) from_start (λ k. refl) t.rows end.rests none in
    (zero_left, sym (ap (λ (xs : List Row). record t { rows = xs }) (none_unsettled (start_world t.inputs) t.rows zero_left).1) ∙ end.ends)
