-- Rows settled in any order, with one pass behind them all: each is as if the pass were made behind each.
use Rattle.std.proofs.Common.{◌≡◌, ℕ, List, [], ◌∷◌, Bool, true, false, cond, Some, refl, sym, ap, ◌∙◌, subst, zero, suc, set, slice_get, take}
use Rattle.std.specs.Prelude.{◌&&◌, ◌||◌, not}
use Rattle.std.specs.List.{list_all}
use Rattle.paris_names.specs.declared.keys.Key.{Key}
use Rattle.paris_model.specs.Frame.{World}
use Rattle.paris_model.specs.Instructions.{Plan, reads, one}
use Rattle.paris_edits.specs.Rows.{is_settled}
use Rattle.paris_events.specs.State.{Row, State, start_world}
use Rattle.paris_events.specs.CutOff.{cut_off}
use Rattle.paris_events.specs.Settling.{is_same, is_due, due_in, settled_due, settled_in, settled_row}
use Rattle.paris_events.proofs.Passes.{is_cut_in, cut_row, cut, firm_after, from_start}
use Rattle.paris_events.proofs.Passes.{world_at}
use Rattle.paris_events.proofs.AtRests.{plan_stays}
use Rattle.paris_events.proofs.Passing.{firm_behind, cut_off_is}
use Rattle.paris_events.proofs.Absorbing.{cut_again, is_cut_more, firm_less, stays_settled, cut_absorbed}

never_cut : (a b : Bool) → (not a && (b && false)) ≡ false
never_cut true b = refl
never_cut false true = refl
never_cut false false = refl

-- a row that isn't the same is not cut off, whatever is firm
pub differs_stays : (w : World) (h : Key → Bool) (r : Row) → is_same w r ≡ false → cut_row w h r ≡ r
differs_stays w h r t = ap (λ b. cond (not (is_settled r.status) && (list_all h (reads r.plan) && b)) (settled_row r) r) t ∙ ap (λ b. cond b (settled_row r) r) (never_cut (is_settled r.status) (list_all h (reads r.plan)))

-- a settled row in the place of one that isn't the same: a pass before it changes nothing of the pass behind it
pub keep_absorbed : (w : World) (h h' : Key → Bool) → ((f : Key) → h f ≡ true → h' f ≡ true) → (rs : List Row) (k : ℕ) (r x : Row) → slice_get rs k ≡ Some r → is_same (world_at w rs k) r ≡ false → is_settled x.status ≡ true → x.plan ≡ r.plan
    → cut w h' (set (cut w h rs) k x) ≡ cut w h' (set rs k x)
keep_absorbed w h h' m [] k r x at t u p = refl
keep_absorbed w h h' m (y ∷ rs) zero r x at t u p =
    let same : r ≡ y = cc in
    let here : cut_row w h y ≡ y = differs_stays w h y (subst (λ (z : Row). is_same w z ≡ false) same t) in
    let next : cut_row w h' x ≡ x = ap (λ b. cond (not b && (list_all h' (reads x.plan) && is_same w x)) (settled_row x) x) u in
    let plan : x.plan ≡ y.plan = p ∙ ap (λ (z : Row). z.plan) same in
    let world : one x.plan w ≡ one y.plan w = ap (λ (q : Plan). one q w) plan in
    let rest : cut (one y.plan w) (firm_after h' x) (cut (one y.plan w) (firm_after h y) rs) ≡ cut (one y.plan w) (firm_after h' x) rs = cut_absorbed (one y.plan w) (firm_after h y) (firm_after h' x) (firm_less h h' y x plan (λ _. u) m) rs in
    rw (next, here) (ap (λ (v : World). x ∷ cut v (firm_after h' x) (cut (one y.plan w) (firm_after h y) rs)) world ∙ ap (λ xs. x ∷ xs) rest ∙ sym (ap (λ (v : World). x ∷ cut v (firm_after h' x) rs) world))
keep_absorbed w h h' m (y ∷ rs) (suc k) r x at t u p =
    let first : cut_row w h' (cut_row w h y) ≡ cut_row w h' y = cut_again w h h' y m in
    let more : (f : Key) → firm_after h (cut_row w h y) f ≡ true → firm_after h' (cut_row w h' y) f ≡ true = firm_less h h' (cut_row w h y) (cut_row w h' y) (plan_stays w h' y ∙ sym (plan_stays w h y)) (λ s. subst (λ (z : Row). is_settled z.status ≡ true) first (stays_settled w h' (cut_row w h y) s)) m in
    rw (first, plan_stays w h y) (ap (λ xs. cut_row w h' y ∷ xs) (keep_absorbed (one y.plan w) (firm_after h (cut_row w h y)) (firm_after h' (cut_row w h' y)) more rs k r x at t u p))

pub firm_behind-more : (h h' : Key → Bool) → ((f : Key) → h f ≡ true → h' f ≡ true) → (rs : List Row) → (f : Key) → firm_behind h rs f ≡ true → firm_behind h' rs f ≡ true
firm_behind-more h h' m [] f t = m f t
firm_behind-more h h' m (r ∷ rs) f t = firm_behind-more (firm_after h r) (firm_after h' r) (firm_less h h' r r refl (λ s. s) m) rs f t

-- a row that is cut off before the pass comes to it
pub cut_early : (w : World) (h : Key → Bool) (rs : List Row) (k : ℕ) (r : Row) → slice_get rs k ≡ Some r → is_cut_in (world_at w rs k) (firm_behind h (take k rs)) r ≡ true → cut w h (set rs k (settled_row r)) ≡ cut w h rs
cut_early w h [] k r at t = refl
cut_early w h (x ∷ rs) zero r at t =
    let same : r ≡ x = cc in
    let here : cut_row w h x ≡ settled_row x = ap (λ c. cond c (settled_row x) x) (subst (λ (y : Row). is_cut_in w h y ≡ true) same t) in
    ap (λ (y : Row). settled_row y ∷ cut (one y.plan w) (firm_after h (settled_row y)) rs) same ∙ sym (ap (λ (y : Row). y ∷ cut (one x.plan w) (firm_after h y) rs) here)
cut_early w h (x ∷ rs) (suc k) r at t =
    let more : (f : Key) → firm_after h x f ≡ true → firm_after h (cut_row w h x) f ≡ true = firm_less h h x (cut_row w h x) (plan_stays w h x) (stays_settled w h x) (λ f z. z) in
    let still : is_cut_in (world_at (one x.plan w) rs k) (firm_behind (firm_after h (cut_row w h x)) (take k rs)) r ≡ true =
    is_cut_more (world_at (one x.plan w) rs k) (firm_behind (firm_after h x) (take k rs)) (firm_behind (firm_after h (cut_row w h x)) (take k rs)) r (firm_behind-more (firm_after h x) (firm_after h (cut_row w h x)) more (take k rs)) t in
    ap (λ xs. cut_row w h x ∷ xs) (cut_early (one x.plan w) (firm_after h (cut_row w h x)) rs k r at still)

-- ---- and what is left to run

same_due : (a c : Bool) → c ≡ true → not (a || c) ≡ false
same_due true c t = refl
same_due false c t = ap not t

pub due_early : (w : World) (rs : List Row) (k : ℕ) (r : Row) → slice_get rs k ≡ Some r → is_same (world_at w rs k) r ≡ true → due_in w (set rs k (settled_row r)) ≡ due_in w rs
due_early w [] k r at t = refl
due_early w (x ∷ rs) zero r at t =
    let same : x ≡ r = cc in
    let none : is_due w r ≡ false = same_due (is_settled r.status) (is_same w r) t in
    rw (same, none) refl
due_early w (x ∷ rs) (suc k) r at t = rw (due_early (one x.plan w) rs k r at t) refl

pub ends_early : (w : World) (rs : List Row) (k : ℕ) (r : Row) → slice_get rs k ≡ Some r → is_same (world_at w rs k) r ≡ true → settled_in w (set rs k (settled_row r)) ≡ settled_in w rs
ends_early w [] k r at t = refl
ends_early w (x ∷ rs) zero r at t =
    let same : x ≡ r = cc in
    let none : is_due w r ≡ false = same_due (is_settled r.status) (is_same w r) t in
    rw (same, none) refl
ends_early w (x ∷ rs) (suc k) r at t = ap (λ xs. settled_due w x ∷ xs) (ends_early (one x.plan w) rs k r at t)

-- of states
pub keep_anywhere : (s : State) (k : ℕ) (r x : Row) → slice_get s.rows k ≡ Some r → is_same (world_at (start_world s.inputs) s.rows k) r ≡ false → is_settled x.status ≡ true → x.plan ≡ r.plan
    → cut_off (record s { rows = set (cut_off s).rows k x }) ≡ cut_off (record s { rows = set s.rows k x })
keep_anywhere s k r x at t u p =
    let w : World = start_world s.inputs in
    ap (λ (z : State). cut_off (record s { rows = set z.rows k x })) (cut_off_is s)
    ∙ cut_off_is (record s { rows = set (cut w from_start s.rows) k x })
    ∙ ap (λ (xs : List Row). record s { rows = xs }) (keep_absorbed w from_start from_start (λ f z. z) s.rows k r x at t u p)
    ∙ sym (cut_off_is (record s { rows = set s.rows k x }))

-- a row that isn't the same stands in the pass as it stood
pub get_cut : (w : World) (h : Key → Bool) (rs : List Row) (k : ℕ) (r : Row) → slice_get rs k ≡ Some r → is_same (world_at w rs k) r ≡ false → slice_get (cut w h rs) k ≡ Some r
get_cut w h [] k r at t = absurd (cc)
get_cut w h (x ∷ rs) zero r at t =
    let same : x ≡ r = cc in
    ap (λ (y : Row). Some (cut_row w h y)) same ∙ ap Some (differs_stays w h r t)
get_cut w h (x ∷ rs) (suc k) r at t = get_cut (one x.plan w) (firm_after h (cut_row w h x)) rs k r at t
