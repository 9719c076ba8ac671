-- The ids of unsettled rows, as a search finds them.
use Rattle.std.proofs.Common.{◌≡◌, ℕ, ◌+◌, ◌<◌, ◌≤◌, List, [], ◌∷◌, ◌++◌, Bool, true, false, cond, Some, None, refl, sym, ap, ◌∙◌, arith, length, take, drop, zero, suc, set, slice_get, append-nil}
use Rattle.std.proofs.Math.Path.{ap₂}
use Rattle.std.specs.Prelude.{not}
use Rattle.std.specs.List.{position_from}
use Rattle.paris_edits.specs.Rows.{is_settled}
use Rattle.paris_events.specs.State.{Row}
use Rattle.paris_book.specs.Statuses.{is_unsettled, next_unsettled}
use Rattle.paris_book.specs.Unsettled.{filled, unsettled_ids}

drop_more : {X : Type 0} (xs : List X) (n i m : ℕ) → m ≡ n + i → drop i (drop n xs) ≡ drop m xs
drop_more xs zero i m e = let same : i ≡ m = omega (arith, e) in ap (λ k. drop k xs) same
drop_more [] (suc n) i zero e = absurd (omega (arith, e))
drop_more [] (suc n) zero (suc m) e = refl
drop_more [] (suc n) (suc i) (suc m) e = refl
drop_more (x ∷ xs) (suc n) i zero e = absurd (omega (arith, e))
drop_more (x ∷ xs) (suc n) i (suc m) e = drop_more xs n i m (omega (arith, e))

get_more : {X : Type 0} (xs : List X) (n i m : ℕ) → m ≡ n + i → slice_get (drop n xs) i ≡ slice_get xs m
get_more xs zero i m e = let same : i ≡ m = omega (arith, e) in ap (slice_get xs) same
get_more [] (suc n) i m e = refl
get_more (x ∷ xs) (suc n) i zero e = absurd (omega (arith, e))
get_more (x ∷ xs) (suc n) i (suc m) e = get_more xs n i m (omega (arith, e))

-- the first id is that of the row that a search finds, and the others stand behind it
ids_found : (rs : List Row) (n k : ℕ) → position_from (λ (r : Row). is_unsettled r.status) n rs ≡ Some k
    → (i : ℕ) × (k ≡ n + i) × (r : Row) × (slice_get rs i ≡ Some r) × (unsettled_ids rs ≡ r.id.0 ∷ unsettled_ids (drop (suc i) rs))
ids_found [] n k found = absurd (cc)
ids_found (y ∷ rs) n k found = by_test (ids_found rs (n + 1) k) (is_settled y.status) refl found
  where
    by_test : (position_from (λ (r : Row). is_unsettled r.status) (n + 1) rs ≡ Some k → (i : ℕ) × (k ≡ n + 1 + i) × (r : Row) × (slice_get rs i ≡ Some r) × (unsettled_ids rs ≡ r.id.0 ∷ unsettled_ids (drop (suc i) rs)))
        → (b : Bool) → is_settled y.status ≡ b → cond (not b) (Some n) (position_from (λ (r : Row). is_unsettled r.status) (n + 1) rs) ≡ Some k
        → (i : ℕ) × (k ≡ n + i) × (r : Row) × (slice_get (y ∷ rs) i ≡ Some r) × (unsettled_ids (y ∷ rs) ≡ r.id.0 ∷ unsettled_ids (drop (suc i) (y ∷ rs)))
    by_test rest true t h =
        let f = rest h in
        let place : k ≡ n + 1 + f.0 = f.1 in
        (suc f.0, omega (arith, place), f.2, f.3, ap (λ b. cond b (unsettled_ids rs) (y.id.0 ∷ unsettled_ids rs)) t ∙ f.4)
    by_test rest false t h = let same : n ≡ k = cc in (0, omega (arith, same), y, refl, ap (λ b. cond b (unsettled_ids rs) (y.id.0 ∷ unsettled_ids rs)) t)

none_found : (rs : List Row) (n : ℕ) → position_from (λ (r : Row). is_unsettled r.status) n rs ≡ None → unsettled_ids rs ≡ []
none_found [] n none = refl
none_found (y ∷ rs) n none = by_test (none_found rs (n + 1)) (is_settled y.status) refl none
  where
    by_test : (position_from (λ (r : Row). is_unsettled r.status) (n + 1) rs ≡ None → unsettled_ids rs ≡ [])
        → (b : Bool) → is_settled y.status ≡ b → cond (not b) (Some n) (position_from (λ (r : Row). is_unsettled r.status) (n + 1) rs) ≡ None → unsettled_ids (y ∷ rs) ≡ []
    by_test rest true t h = ap (λ b. cond b (unsettled_ids rs) (y.id.0 ∷ unsettled_ids rs)) t ∙ rest h
    by_test rest false t h = absurd (cc)

pub ids_next : (rs : List Row) (from k : ℕ) → next_unsettled rs from ≡ Some k → (r : Row) × (slice_get rs k ≡ Some r) × (unsettled_ids (drop from rs) ≡ r.id.0 ∷ unsettled_ids (drop (k + 1) rs))
ids_next rs from k found =
    let f = ids_found (drop from rs) from k found in
    let place : k ≡ from + f.0 = f.1 in
    (f.2, sym (get_more rs from f.0 k place) ∙ f.3, f.4 ∙ ap (λ xs. f.2.id.0 ∷ unsettled_ids xs) (drop_more rs from (suc f.0) (k + 1) (omega (arith, place))))

-- ---- a room

fill_step : (room : List ℕ) (i id : ℕ) (ids : List ℕ) → i < length room → take i room ++ filled (drop i room) (id ∷ ids) ≡ take (i + 1) (set room i id) ++ filled (drop (i + 1) (set room i id)) ids
fill_step [] i id ids within = absurd (omega (arith, within))
fill_step (x ∷ room) zero id ids within = refl
fill_step (x ∷ room) (suc i) id ids within =
    ap (λ xs. x ∷ xs) (fill_step room i id ids (omega (arith, within)))
    ∙ ap (λ k. take k (x ∷ set room i id) ++ filled (drop k (x ∷ set room i id)) ids) (suc_one i)
  where
    suc_one : (n : ℕ) → suc (n + 1) ≡ suc n + 1
    suc_one n = omega arith

joined : {X : Type 0} (xs : List X) (i : ℕ) → take i xs ++ drop i xs ≡ xs
joined xs zero = refl
joined [] (suc i) = refl
joined (x ∷ xs) (suc i) = ap (λ ys. x ∷ ys) (joined xs i)

drop_none : {X : Type 0} (i : ℕ) → drop i (let xs : List X = [] in xs) ≡ []
drop_none zero = refl
drop_none (suc i) = refl

take_long : {X : Type 0} (xs : List X) (i : ℕ) → length xs ≤ i → (take i xs ≡ xs) × (drop i xs ≡ [])
take_long [] zero long = (refl, refl)
take_long [] (suc i) long = (refl, refl)
take_long (x ∷ xs) zero long = absurd (omega (arith, long))
take_long (x ∷ xs) (suc i) long = let rest = take_long xs i (omega (arith, long)) in (ap (λ ys. x ∷ ys) rest.0, rest.1)

-- one id more is put into it
pub filled_more : (first room : List ℕ) (rs : List Row) (i from k : ℕ) → next_unsettled rs from ≡ Some k → i < length room
    → filled first (unsettled_ids rs) ≡ take i room ++ filled (drop i room) (unsettled_ids (drop from rs))
    → (r : Row) × (slice_get rs k ≡ Some r) × (filled first (unsettled_ids rs) ≡ take (i + 1) (set room i r.id.0) ++ filled (drop (i + 1) (set room i r.id.0)) (unsettled_ids (drop (k + 1) rs)))
filled_more first room rs i from k found within so_far =
    let f = ids_next rs from k found in
    (f.0, f.1, so_far ∙ ap (λ ids. take i room ++ filled (drop i room) ids) f.2 ∙ fill_step room i f.0.id.0 (unsettled_ids (drop (k + 1) rs)) within)

-- there are no more
pub filled_whole : (first room : List ℕ) (rs : List Row) (i from : ℕ) → next_unsettled rs from ≡ None
    → filled first (unsettled_ids rs) ≡ take i room ++ filled (drop i room) (unsettled_ids (drop from rs)) → room ≡ filled first (unsettled_ids rs)
filled_whole first room rs i from none so_far =
    sym (so_far ∙ ap (λ ids. take i room ++ filled (drop i room) ids) (none_found (drop from rs) from none) ∙ ap (λ xs. take i room ++ (xs ++ drop i room)) (take_none (length (drop i room))) ∙ joined room i)
  where
    take_none : (n : ℕ) → take n (let xs : List ℕ = [] in xs) ≡ []
    take_none zero = refl
    take_none (suc n) = refl

-- the room is full
pub filled_full : (first room : List ℕ) (ids left : List ℕ) (i : ℕ) → length room ≤ i
    → filled first ids ≡ take i room ++ filled (drop i room) left → room ≡ filled first ids
filled_full first room ids left i full so_far =
    let all = take_long room i full in
    sym (so_far ∙ ap₂ (λ xs ys. xs ++ filled ys left) all.0 all.1 ∙ ap (λ ys. room ++ ys) (drop_none (length left)) ∙ append-nil room)
