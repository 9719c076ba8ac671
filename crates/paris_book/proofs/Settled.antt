-- What a release and a pass leave of a state.
use Rattle.std.proofs.Common.{◌≡◌, ℕ, ◌+◌, ◌≤◌, List, [], ◌∷◌, Bool, true, false, cond, Some, refl, sym, ap, ◌∙◌, subst, arith, map, zero, suc, slice_get}
use Rattle.std.proofs.Math.Path.{ap₂}
use Rattle.std.proofs.lemmas.Option.{slice_get-map}
use Rattle.std.specs.Option.{option_map}
use Rattle.paris_names.specs.declared.keys.Key.{Key}
use Rattle.paris_model.specs.Frame.{World}
use Rattle.paris_model.specs.Instructions.{one}
use Rattle.paris_edits.specs.Rows.{is_settled}
use Rattle.paris_edits.specs.declared.rows.Status.{Status}
use Rattle.paris_edits.specs.declared.rows.Status.TheVariants.{Waiting, Out, Settled}
use Rattle.paris_events.specs.State.{Row, State, start_world}
use Rattle.paris_events.specs.Orders.{IsIdle, recalled_status, recalled_row, after_release}
use Rattle.paris_events.specs.CutOff.{cut_off, IsAtRest}
use Rattle.paris_events.specs.Settling.{due, all_settled, settled_row, unsettled_rows}
use Rattle.paris_events.proofs.Passes.{cut, cut_row, is_cut_in, firm_after, from_start}
use Rattle.paris_events.proofs.Passing.{cut_off_is}
use Rattle.paris_events.proofs.Counting.{due_cut, settled_in-cut}
use Rattle.paris_events.proofs.Absorbing.{none_unsettled}
use Rattle.paris_events.proofs.Spanning.{settled_rest}
use Rattle.paris_events.proofs.Runs.{are_settled}
use Rattle.paris_events.proofs.OnePass.{stays}
use Rattle.paris_events.proofs.Ends.{due_recalled, settled_recalled, idle_recalled, idle_cut}
use Rattle.paris_events.proofs.Rests.{at_rest, release_rests, off_rests, off_stays}
use Rattle.paris_book.specs.Rounds.{StaySettled}
use Rattle.paris_book.specs.Stopped.{StayUnsettled}
use Rattle.paris_book.proofs.Releases.{settled_same}

-- ---- a release

row_recalled : (r : Row) → is_settled r.status ≡ true → recalled_row r ≡ r
row_recalled r h = ap (λ (s : Status). record r { status = s }) (by_status r.status h)
  where
    by_status : (s : Status) → is_settled s ≡ true → recalled_status s ≡ s
    by_status Waiting h = absurd (let x : false ≡ true = h in cc)
    by_status Out h = absurd (let x : false ≡ true = h in cc)
    by_status Settled h = refl

stay_recalled : (rows : List Row) → StaySettled rows (map recalled_row rows)
stay_recalled rows place r at settled = slice_get-map recalled_row rows place ∙ ap (option_map recalled_row) at ∙ ap Some (row_recalled r settled)

count_recalled : (rs : List Row) → unsettled_rows (map recalled_row rs) ≡ unsettled_rows rs
count_recalled [] = refl
count_recalled (r ∷ rs) = ap₂ (λ b n. cond b 0 1 + n) (settled_same r.status) (count_recalled rs)

-- what stays of a state when its orders are given up
pub record Released (s t : State) : Type 0 where
  pub due : due t ≡ due s
  pub rows : unsettled_rows t.rows ≡ unsettled_rows s.rows
  pub same : all_settled t ≡ all_settled s
  pub stay : StaySettled s.rows t.rows
  pub idle : IsIdle t.rows
  pub rests : cut_off t ≡ t

pub released : (s : State) → IsAtRest s → Released s (after_release s)
released s h = record {
  due = due_recalled (start_world s.inputs) s.rows;
  rows = count_recalled s.rows;
  same = ap (λ (rs : List Row). record s { rows = rs }) (settled_recalled (start_world s.inputs) s.rows);
  stay = stay_recalled s.rows;
  idle = idle_recalled s.rows;
  rests = off_stays (after_release s) (release_rests s (at_rest s h));
}

-- ---- a pass

cut_fewer : (w : World) (h : Key → Bool) (r : Row) → cond (is_settled (cut_row w h r).status) 0 1 ≤ cond (is_settled r.status) 0 1
cut_fewer w h r = by_test (is_cut_in w h r) refl
  where
    by_test : (b : Bool) → is_cut_in w h r ≡ b → cond (is_settled (cond b (settled_row r) r).status) 0 1 ≤ cond (is_settled r.status) 0 1
    by_test true t = omega arith
    by_test false t = omega arith

cut_few : (w : World) (h : Key → Bool) (rs : List Row) → unsettled_rows (cut w h rs) ≤ unsettled_rows rs
cut_few w h [] = omega arith
cut_few w h (r ∷ rs) =
    let here = cut_fewer w h r in
    let rest = cut_few (one r.plan w) (firm_after h (cut_row w h r)) rs in
    omega (arith, here, rest)

stay_cut : (w : World) (h : Key → Bool) (rs : List Row) → StaySettled rs (cut w h rs)
stay_cut w h [] place r at settled = at
stay_cut w h (x ∷ rs) zero r at settled =
    let same : x ≡ r = cc in
    ap Some (stays w h x (ap (λ (z : Row). is_settled z.status) same ∙ settled)) ∙ at
stay_cut w h (x ∷ rs) (suc place) r at settled = stay_cut (one x.plan w) (firm_after h (cut_row w h x)) rs place r at settled

-- what is still unsettled behind a pass
unsettled_cut : (w : World) (h : Key → Bool) (rs : List Row) → StayUnsettled rs (cut w h rs)
unsettled_cut w h [] place r at u = at
unsettled_cut w h (x ∷ rs) zero r at u = by_test (is_cut_in w h x) at
  where
    by_test : (b : Bool) → Some (cond b (settled_row x) x) ≡ Some r → Some x ≡ Some r
    by_test true e =
        let same : settled_row x ≡ r = cc in
        let wrong : true ≡ false = ap (λ (z : Row). is_settled z.status) same ∙ u in
        absurd (cc)
    by_test false e = e
unsettled_cut w h (x ∷ rs) (suc place) r at u = unsettled_cut (one x.plan w) (firm_after h (cut_row w h x)) rs place r at u

-- what stays of a state behind a pass
pub record Cut (s t : State) : Type 0 where
  pub due : due t ≡ due s
  pub rows : unsettled_rows t.rows ≤ unsettled_rows s.rows
  pub same : all_settled t ≡ all_settled s
  pub stay : StaySettled s.rows t.rows
  pub unsettled : StayUnsettled s.rows t.rows
  pub idle : IsIdle s.rows → IsIdle t.rows
  pub rests : IsAtRest t

pub cut_leaves : (s : State) → Cut s (cut_off s)
cut_leaves s =
    let w : World = start_world s.inputs in
    subst (Cut s) (sym (cut_off_is s)) (record {
      due = due_cut w from_start s.rows;
      rows = cut_few w from_start s.rows;
      same = ap (λ (rs : List Row). record s { rows = rs }) (settled_in-cut w from_start s.rows);
      stay = stay_cut w from_start s.rows;
      unsettled = unsettled_cut w from_start s.rows;
      idle = idle_cut w from_start s.rows;
      rests = subst IsAtRest (cut_off_is s) (off_stays (cut_off s) (off_rests s));
    })

-- ---- no row unsettled

none_settled : (rs : List Row) → unsettled_rows rs ≡ 0 → are_settled rs ≡ true
none_settled [] h = refl
none_settled (r ∷ rs) h = by_status (is_settled r.status) refl (none_settled rs) h
  where
    by_status : (b : Bool) → is_settled r.status ≡ b → (unsettled_rows rs ≡ 0 → are_settled rs ≡ true) → cond b 0 1 + unsettled_rows rs ≡ 0 → are_settled (r ∷ rs) ≡ true
    by_status true t rest e = rw t (rest (omega (arith, e)))
    by_status false t rest e = absurd (omega (arith, e))

-- what is true of a state of which no row is unsettled
pub record AllSettled (s : State) : Type 0 where
  pub rests : cut_off s ≡ s
  pub due : due s ≡ 0
  pub ends : s ≡ all_settled s

pub none_left : (s : State) → unsettled_rows s.rows ≡ 0 → AllSettled s
none_left s h =
    let w : World = start_world s.inputs in
    let none = none_unsettled w s.rows h in
    record {
      rests = cut_off_is s ∙ ap (λ (rs : List Row). record s { rows = rs }) (settled_rest w from_start s.rows (none_settled s.rows h));
      due = none.0;
      ends = ap (λ (rs : List Row). record s { rows = rs }) (sym none.1);
    }
