-- The ids of touched rows, in a room that is filled as they are found.
use Rattle.std.proofs.Common.{◌≡◌, ℕ, ◌+◌, ◌<◌, ◌≤◌, List, [], ◌∷◌, ◌++◌, Bool, true, false, cond, Some, refl, sym, ap, ◌∙◌, arith, map, length, take, drop, set, zero, suc, slice_get}
use Rattle.std.proofs.Math.Path.{ap₂}
use Rattle.std.proofs.lemmas.Bool.{lt-ltb, ltb-true}
use Rattle.std.proofs.lemmas.List.{append-nil, map-append, length-append}
use Rattle.std.proofs.lemmas.List.Elements.{filter_more}
use Rattle.std.proofs.lemmas.Option.{slice_get_within, get_or_from_slice_get}
use Rattle.std.specs.List.{filter}
use Rattle.paris_events.specs.State.{Row}
use Rattle.paris_book.specs.TouchedIds.{is_touched, touched_ids}
use Rattle.paris_book.specs.Unsettled.{filled}

abbrev id_number : Row → ℕ
id_number r = r.id.0

-- one row further
pub touched_more : (since : ℕ) (rs : List Row) (i : ℕ) (r : Row) → slice_get rs i ≡ Some r
    → touched_ids since (take (i + 1) rs) ≡ touched_ids since (take i rs) ++ cond (is_touched since r) (r.id.0 ∷ []) []
touched_more since rs i r at =
    ap (map id_number) (filter_more (is_touched since) rs i r (slice_get_within rs i r at))
    ∙ ap (λ x. map id_number (filter (is_touched since) (take i rs) ++ cond (is_touched since x) (x ∷ []) [])) (get_or_from_slice_get rs i r r at)
    ∙ map-append id_number (filter (is_touched since) (take i rs)) (cond (is_touched since r) (r ∷ []) [])
    ∙ ap (λ ids. touched_ids since (take i rs) ++ ids) (own (is_touched since r))
  where
    own : (b : Bool) → map id_number (cond b (r ∷ []) []) ≡ cond b (r.id.0 ∷ []) []
    own true = refl
    own false = refl

take_none : (n : ℕ) → take n (let xs : List ℕ = [] in xs) ≡ []
take_none zero = refl
take_none (suc n) = refl

-- one id more stands behind the others, where there is a place for it
pub filled_push : (room ids : List ℕ) (id : ℕ) → filled room (ids ++ id ∷ []) ≡ set (filled room ids) (length ids) id
filled_push [] ids id = nothing (length (ids ++ id ∷ [])) ∙ ap (λ (xs : List ℕ). set xs (length ids) id) (none (length ids))
  where
    nothing : (n : ℕ) → drop n (let xs : List ℕ = [] in xs) ≡ []
    nothing zero = refl
    nothing (suc n) = refl

    none : (n : ℕ) → [] ≡ drop n (let xs : List ℕ = [] in xs)
    none zero = refl
    none (suc n) = refl
filled_push (x ∷ room) [] id = ap (λ xs. id ∷ (xs ++ room)) (take_none (length room))
filled_push (x ∷ room) (y ∷ ids) id = ap (λ xs. y ∷ xs) (filled_push room ids id)

-- what stands in a room, and how many ids those are, behind a row that is touched
pub touched_one : (since : ℕ) (first room after : List ℕ) (rs : List Row) (i count : ℕ) (r : Row) → slice_get rs i ≡ Some r → since < r.edition.0
    → count ≡ length (touched_ids since (take i rs)) → room ≡ filled first (touched_ids since (take i rs)) → after ≡ set room count r.id.0
    → (count + 1 ≡ length (touched_ids since (take (i + 1) rs))) × (after ≡ filled first (touched_ids since (take (i + 1) rs)))
touched_one since first room after rs i count r at later counted so_far put =
    let ids = touched_ids since (take i rs) in
    let more = touched_more since rs i r at ∙ ap (λ b. ids ++ cond b (r.id.0 ∷ []) []) (lt-ltb since r.edition.0 later) in (
      ap (λ n. n + 1) counted ∙ sym (length-append ids (r.id.0 ∷ [])) ∙ sym (ap length more),
      put ∙ ap₂ (λ xs n. set xs n r.id.0) so_far counted ∙ sym (filled_push first ids r.id.0) ∙ sym (ap (filled first) more),
    )

-- and behind one that isn't
pub touched_none : (since : ℕ) (rs : List Row) (i : ℕ) (r : Row) → slice_get rs i ≡ Some r → r.edition.0 ≤ since
    → touched_ids since (take i rs) ≡ touched_ids since (take (i + 1) rs)
touched_none since rs i r at before =
    let ids = touched_ids since (take i rs) in
    sym (touched_more since rs i r at ∙ ap (λ b. ids ++ cond b (r.id.0 ∷ []) []) (not_later (is_touched since r) refl) ∙ append-nil ids)
  where
    not_later : (b : Bool) → is_touched since r ≡ b → is_touched since r ≡ false
    not_later false e = e
    not_later true e = let later = ltb-true since r.edition.0 e in absurd (omega (arith, before, later))
