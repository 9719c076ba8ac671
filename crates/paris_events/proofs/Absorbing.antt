-- Passes one after another, and rows of which none is unsettled.
use Rattle.std.proofs.Common.{◌≡◌, ◌+◌, List, [], ◌∷◌, Bool, true, false, cond, refl, sym, ap, ◌∙◌, subst, arith}
use Rattle.std.proofs.Math.Path.{ap₂}
use Rattle.std.specs.Prelude.{◌&&◌, not}
use Rattle.std.specs.List.{list_all}
use Rattle.paris_names.specs.declared.keys.Key.{Key}
use Rattle.paris_names.specs.Keys.{has_key}
use Rattle.paris_model.specs.Frame.{World}
use Rattle.paris_model.specs.Instructions.{reads, writes, one}
use Rattle.paris_edits.specs.Rows.{is_settled}
use Rattle.paris_edits.specs.declared.rows.Status.{Status}
use Rattle.paris_edits.specs.declared.rows.Status.TheVariants.{Waiting, Out, Settled}
use Rattle.paris_events.specs.State.{Row}
use Rattle.paris_events.specs.Settling.{is_same, settled_row, due_in, settled_in, unsettled_rows}
use Rattle.paris_events.proofs.Passes.{is_cut_in, cut_row, cut, firm_after}
use Rattle.paris_events.proofs.AtRests.{plan_stays}
use Rattle.paris_events.proofs.Tests.{and_first, and_second, all_more}

pub is_cut_more : (w : World) (h h' : Key → Bool) (r : Row) → ((f : Key) → h f ≡ true → h' f ≡ true) → is_cut_in w h r ≡ true → is_cut_in w h' r ≡ true
is_cut_more w h h' r m t =
    let u : not (is_settled r.status) ≡ true = and_first (not (is_settled r.status)) (list_all h (reads r.plan) && is_same w r) t in
    let rest : (list_all h (reads r.plan) && is_same w r) ≡ true = and_second (not (is_settled r.status)) (list_all h (reads r.plan) && is_same w r) t in
    let firm : list_all h' (reads r.plan) ≡ true = all_more h h' m (reads r.plan) (and_first (list_all h (reads r.plan)) (is_same w r) rest) in
    rw (u, firm) (and_second (list_all h (reads r.plan)) (is_same w r) rest)

pub cut_again : (w : World) (h h' : Key → Bool) (r : Row) → ((f : Key) → h f ≡ true → h' f ≡ true) → cut_row w h' (cut_row w h r) ≡ cut_row w h' r
cut_again w h h' r m = by_test (is_cut_in w h r) refl
  where
    by_test : (b : Bool) → is_cut_in w h r ≡ b → cut_row w h' (cond b (settled_row r) r) ≡ cut_row w h' r
    by_test true t = sym (ap (λ b. cond b (settled_row r) r) (is_cut_more w h h' r m t))
    by_test false t = refl

-- what was settled_row stays settled_row in the next pass
pub stays_settled : (w : World) (h : Key → Bool) (r : Row) → is_settled r.status ≡ true → is_settled (cut_row w h r).status ≡ true
stays_settled w h r s = by_test (is_cut_in w h r)
  where
    by_test : (b : Bool) → is_settled (cond b (settled_row r) r).status ≡ true
    by_test true = refl
    by_test false = s

pub firm_less : (h h' : Key → Bool) (r s : Row) → s.plan ≡ r.plan → (is_settled r.status ≡ true → is_settled s.status ≡ true) → ((f : Key) → h f ≡ true → h' f ≡ true) → (f : Key) → firm_after h r f ≡ true → firm_after h' s f ≡ true
unfolding firm_after
firm_less h h' r s p u m f t = rw p (by_has (has_key (writes r.plan) f) t)
  where
    by_has : (b : Bool) → cond b (is_settled r.status) (h f) ≡ true → cond b (is_settled s.status) (h' f) ≡ true
    by_has true x = u x
    by_has false x = m f x

pub cut_absorbed : (w : World) (h h' : Key → Bool) → ((f : Key) → h f ≡ true → h' f ≡ true) → (rs : List Row) → cut w h' (cut w h rs) ≡ cut w h' rs
cut_absorbed w h h' m [] = refl
cut_absorbed w h h' m (r ∷ rs) =
    let first : cut_row w h' (cut_row w h r) ≡ cut_row w h' r = cut_again w h h' r m in
    let more : (f : Key) → firm_after h (cut_row w h r) f ≡ true → firm_after h' (cut_row w h' r) f ≡ true = firm_less h h' (cut_row w h r) (cut_row w h' r) (plan_stays w h' r ∙ sym (plan_stays w h r)) (λ s. subst (λ (x : Row). is_settled x.status ≡ true) first (stays_settled w h' (cut_row w h r) s)) m in
    rw (first, plan_stays w h r) (ap (λ xs. cut_row w h' r ∷ xs) (cut_absorbed (one r.plan w) (firm_after h (cut_row w h r)) (firm_after h' (cut_row w h' r)) more rs))

pub settled_is : (s : Status) → is_settled s ≡ true → s ≡ Settled
settled_is Waiting h = absurd (let x : false ≡ true = h in cc)
settled_is Out h = absurd (let x : false ≡ true = h in cc)
settled_is Settled h = refl

pub none_unsettled : (w : World) (rs : List Row) → unsettled_rows rs ≡ 0 → (due_in w rs ≡ 0) × (settled_in w rs ≡ rs)
none_unsettled w [] u = (refl, refl)
none_unsettled w (r ∷ rs) u = by_status (is_settled r.status) refl u (none_unsettled (one r.plan w) rs)
  where
    by_status : (b : Bool) → is_settled r.status ≡ b → cond b 0 1 + unsettled_rows rs ≡ 0 → (unsettled_rows rs ≡ 0 → (due_in (one r.plan w) rs ≡ 0) × (settled_in (one r.plan w) rs ≡ rs)) → (due_in w (r ∷ rs) ≡ 0) × (settled_in w (r ∷ rs) ≡ r ∷ rs)
    by_status true x y rest =
        let here : settled_row r ≡ r = ap (λ (s : Status). record r { status = s }) (sym (settled_is r.status x)) in
        let more = rest (omega (arith, y)) in
        let none : due_in (one r.plan w) rs ≡ 0 = more.0 in
        (rw x (omega (arith, none)), rw x (ap₂ (λ (z : Row) zs. z ∷ zs) here more.1))
    by_status false x y rest = absurd (omega (arith, y))
