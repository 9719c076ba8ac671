-- Every event leaves a state at rest at rest.
use Rattle.std.proofs.Common.{◌≡◌, ℕ, ◌+◌, List, [], ◌∷◌, Bool, true, false, cond, Option, Some, None, refl, sym, ap, ◌∙◌, subst, map, zero, suc, set, slice_get, zero-add}
use Rattle.std.specs.List.{find, enumerate_from, list_all}
use Rattle.paris_names.specs.declared.faults.Fault.{Fault}
use Rattle.paris_model.specs.Instructions.{reads}
use Rattle.paris_edits.specs.Rows.{is_settled, is_waiting}
use Rattle.paris_edits.specs.declared.rows.Status.{Status}
use Rattle.paris_edits.specs.declared.rows.Status.TheVariants.{Waiting, Out, Settled}
use Rattle.paris_edits.specs.declared.edits.Edit.{Edit}
use Rattle.paris_edits.specs.declared.verdicts.Verdict.{Verdict}
use Rattle.paris_edits.specs.declared.verdicts.Verdict.TheVariants.{Gone, Stale, Repeated, Foreign, Kept}
use Rattle.paris_exec.specs.Tasks.{Task}
use Rattle.paris_events.specs.State.{Row, State, work_of, start_world, empty_state, find_row}
use Rattle.paris_events.specs.Show.{origin_at}
use Rattle.paris_events.specs.Orders.{is_ready, next_ready, taken, after_take, recalled_row, recalled_status, after_release, is_firm}
use Rattle.paris_events.specs.CutOff.{cut_off, IsAtRest}
use Rattle.paris_events.specs.Results.{verdict_of, brought_on, kept_at, after_bring}
use Rattle.paris_events.specs.Edits.{edited_by, edit_fault, after_edit_by, after_edit}
use Rattle.paris_events.proofs.Passes.{AtRest, from_start}
use Rattle.paris_events.proofs.AtRests.{Alike, cut_rests, rest_stays, rest_alike}
use Rattle.paris_events.proofs.Passing.{cut_off_is}
use Rattle.paris_events.proofs.Tests.{and_first}
use Rattle.paris_events.proofs.Finds.{find_at_place}

pub off_rests : (s : State) → AtRest (cut_off s)
off_rests s = subst AtRest (sym (cut_off_is s)) (cut_rests (start_world s.inputs) from_start s.rows)

pub off_stays : (s : State) → AtRest s → cut_off s ≡ s
off_stays s h = cut_off_is s ∙ ap (λ (xs : List Row). record s { rows = xs }) (rest_stays (start_world s.inputs) from_start s.rows h)

pub empty_rests : (n : ℕ) → AtRest (empty_state n)
empty_rests n = tt

alike_same : (rs : List Row) → Alike rs rs
alike_same [] = tt
alike_same (r ∷ rs) = (refl, refl, refl, alike_same rs)

alike_put : (rs : List Row) (k : ℕ) (r x : Row) → slice_get rs k ≡ Some r → x.plan ≡ r.plan → x.last ≡ r.last → is_settled x.status ≡ is_settled r.status → Alike rs (set rs k x)
alike_put [] k r x at p l t = tt
alike_put (y ∷ rs) zero r x at p l t =
    let same : r ≡ y = cc in
    (p ∙ ap (λ (z : Row). z.plan) same, l ∙ ap (λ (z : Row). z.last) same, t ∙ ap (λ (z : Row). is_settled z.status) same, alike_same rs)
alike_put (y ∷ rs) (suc k) r x at p l t = (refl, refl, refl, alike_put rs k r x at p l t)

pub alike_recalled : (rs : List Row) → Alike rs (map recalled_row rs)
alike_recalled [] = tt
alike_recalled (r ∷ rs) = (refl, refl, by_status r.status, alike_recalled rs)
  where
    by_status : (s : Status) → is_settled (recalled_status s) ≡ is_settled s
    by_status Waiting = refl
    by_status Out = refl
    by_status Settled = refl

waits_unsettled : (s : Status) → is_waiting s ≡ true → is_settled s ≡ false
waits_unsettled Waiting h = refl
waits_unsettled Out h = absurd (let x : false ≡ true = h in cc)
waits_unsettled Settled h = absurd (let x : false ≡ true = h in cc)

find_passes : {X : Type 0} (p : ℕ × X → Bool) (xs : List X) (n : ℕ) (e : ℕ × X) → find p (enumerate_from n xs) ≡ Some e → p e ≡ true
find_passes p [] n e h = absurd (cc)
find_passes {X} p (y ∷ ys) n e h = by_test (find_passes p ys (n + 1) e) (p (n, y)) refl h
  where
    by_test : (find p (enumerate_from (n + 1) ys) ≡ Some e → p e ≡ true) → (b : Bool) → p (n, y) ≡ b → cond b (Some (n, y)) (find p (enumerate_from (n + 1) ys)) ≡ Some e → p e ≡ true
    by_test rest true t x = let same : (n, y) ≡ e = cc in subst (λ (z : ℕ × X). p z ≡ true) same t
    by_test rest false t x = rest x

pub take_rests : (s : State) → AtRest s → AtRest (after_take s)
take_rests s h = by_ready (next_ready s) refl
  where
    by_ready : (o : Option (ℕ × Row)) → next_ready s ≡ o → AtRest (taken s o)
    by_ready None x = h
    by_ready (Some e) x =
        let place = find_at_place (λ z. is_ready s z.0 z.1) s.rows 0 e.0 e.1 x in
        let here : slice_get s.rows e.0 ≡ Some e.1 = ap (slice_get s.rows) (place.1 ∙ zero-add place.0) ∙ place.2 in
        let waits : is_waiting e.1.status ≡ true = and_first (is_waiting e.1.status) (list_all (λ k. is_firm (origin_at s e.0 k)) (reads e.1.plan)) (find_passes (λ z. is_ready s z.0 z.1) s.rows 0 e x) in
        let next : Row = record e.1 { status = Out } in
        rest_alike (start_world s.inputs) from_start s.rows (set s.rows e.0 next) (alike_put s.rows e.0 e.1 next here refl refl (sym (waits_unsettled e.1.status waits))) h

pub release_rests : (s : State) → AtRest s → AtRest (after_release s)
release_rests s h = rest_alike (start_world s.inputs) from_start s.rows (map recalled_row s.rows) (alike_recalled s.rows) h

pub bring_rests : (s : State) (t : Task) → AtRest s → AtRest (after_bring s t)
bring_rests s t h = by_verdict (verdict_of s t) (find_row s t.id)
  where
    by_verdict : (v : Verdict) (o : Option (ℕ × Row)) → AtRest (brought_on s v o (work_of t))
    by_verdict Gone o = h
    by_verdict (Stale n) o = h
    by_verdict Repeated o = h
    by_verdict Foreign o = h
    by_verdict Kept None = h
    by_verdict Kept (Some e) = off_rests (kept_at s e (work_of t))

pub edit_rests : (s : State) (e : Edit) → AtRest s → AtRest (after_edit s e)
edit_rests s e h = by_fault (edit_fault s e)
  where
    by_fault : (o : Option Fault) → AtRest (after_edit_by s e o)
    by_fault None = off_rests (edited_by s e)
    by_fault (Some fault) = h

-- what is at rest by one more pass is so row by row
pub at_rest : (s : State) → IsAtRest s → AtRest s
at_rest s h = subst AtRest h (off_rests s)

pub take_stays : (s : State) → IsAtRest s → IsAtRest (after_take s)
take_stays s h = off_stays (after_take s) (take_rests s (at_rest s h))

pub release_stays : (s : State) → IsAtRest s → IsAtRest (after_release s)
release_stays s h = off_stays (after_release s) (release_rests s (at_rest s h))

pub off_off : (s : State) → IsAtRest (cut_off s)
off_off s = off_stays (cut_off s) (off_rests s)

pub bring_stays : (s : State) (t : Task) → IsAtRest s → IsAtRest (after_bring s t)
bring_stays s t h = off_stays (after_bring s t) (bring_rests s t (at_rest s h))
