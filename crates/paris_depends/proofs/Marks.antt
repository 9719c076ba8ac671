-- The table of changed keys, and one row further in a sweep.
use Rattle.std.proofs.Common.{◌≡◌, ℕ, ◌<◌, ◌≤◌, ◌+◌, List, [], ◌∷◌, ◌++◌, Bool, true, false, cond, refl, sym, ap, ◌∙◌, length, map, take, drop, zero, suc, get_or, replicate, Some, slice_get}
use Rattle.std.proofs.Math.Path.{fun_ext}
use Rattle.std.proofs.lemmas.List.{take_more, drop_more, drop_all, map-append, append_assoc, append-nil}
use Rattle.std.proofs.lemmas.Option.{slice_get_within, get_or_from_slice_get}
use Rattle.std.specs.Prelude.{◌||◌}
use Rattle.paris_names.specs.declared.keys.Key.{Key}
use Rattle.paris_names.specs.declared.ids.RowId.{RowId}
use Rattle.paris_names.specs.Keys.{has_key, key_eq, key_slot}
use Rattle.paris_model.specs.Instructions.{Plan}
use Rattle.paris_depends.specs.Sweeps.{marked, touches, spread, touched}

-- an empty table marks nothing
marked-none : (n i : ℕ) → get_or (replicate n false) i false ≡ false
marked-none zero i = refl
marked-none (suc n) zero = refl
marked-none (suc n) (suc i) = marked-none n i

-- an empty table in which keys were marked
pub marked-keys : (n : ℕ) (keys : List Key) (d : Key → Bool) → ((k : Key) → d k ≡ cond (has_key keys k) true (marked (replicate n false) k)) → d ≡ has_key keys
marked-keys n keys d h = fun_ext (λ k. h k ∙ ap (cond (has_key keys k) true) (marked-none n (key_slot k)) ∙ by_has (has_key keys k))
  where
    by_has : (b : Bool) → cond b true false ≡ b
    by_has true = refl
    by_has false = refl

-- keys marked so far, and one more
pub marked-more : (keys : List Key) (i : ℕ) (key : Key) (hit : Bool) (before now start : Key → Bool) → i < length keys → key ≡ get_or keys i key → ((k : Key) → now k ≡ cond (key_eq k key) hit (before k))
    → ((k : Key) → before k ≡ cond (has_key (take i keys) k) hit (start k)) → (k : Key) → now k ≡ cond (has_key (take (i + 1) keys) k) hit (start k)
marked-more keys i key hit before now start within at one so_far k =
    one k ∙ ap (λ x. cond (key_eq k key) hit x) (so_far k)
    ∙ by_both (key_eq k key) (has_key (take i keys) k)
    ∙ ap (λ b. cond b hit (start k)) (sym (has_last (take i keys) ∙ swap (has_key (take i keys) k) (key_eq k key)))
    ∙ ap (λ ks. cond (has_key ks k) hit (start k)) (sym (take_more keys i key within ∙ ap (λ j. take i keys ++ j ∷ []) (sym at)))
  where
    by_both : (a b : Bool) → cond a hit (cond b hit (start k)) ≡ cond (a || b) hit (start k)
    by_both true b = refl
    by_both false b = refl

    swap : (a b : Bool) → (a || (b || false)) ≡ (b || a)
    swap true true = refl
    swap true false = refl
    swap false true = refl
    swap false false = refl

    has_last : (ks : List Key) → has_key (ks ++ key ∷ []) k ≡ (has_key ks k || (key_eq k key || false))
    has_last [] = refl
    has_last (j ∷ js) = rw (has_last js) (assoc (key_eq k j) (has_key js k) (key_eq k key || false))
      where
        assoc : (a b c : Bool) → (a || (b || c)) ≡ ((a || b) || c)
        assoc true b c = refl
        assoc false b c = refl

abbrev pub number_of : RowId → ℕ
number_of id = id.0

module _ {T : Type 0} (plan : T → Plan) (rows : List (ℕ × T)) where
  -- a sweep goes past the row at a place
  touched-more : (d d' : Key → Bool) (i : ℕ) (r : ℕ × T) → slice_get rows i ≡ Some r → ((k : Key) → d' k ≡ spread d (plan r.1) k)
      → touched plan d (drop i rows) ≡ cond (touches d (plan r.1)) (r.0 ∷ touched plan d' (drop (i + 1) rows)) (touched plan d' (drop (i + 1) rows))
  touched-more d d' i r at past =
      ap (touched plan d) (drop_more rows i r (slice_get_within rows i r at) ∙ ap (λ y. y ∷ drop (i + 1) rows) (get_or_from_slice_get rows i r r at))
      ∙ ap (λ e. cond (touches d (plan r.1)) (r.0 ∷ touched plan e (drop (i + 1) rows)) (touched plan e (drop (i + 1) rows))) (sym (fun_ext past))

  module _ (d d' : Key → Bool) (i : ℕ) (id : RowId) (x : T) (ids more : List RowId) where
    -- the ids so far and that of a row that reads a changed key
    pub listed-one : slice_get rows i ≡ Some (id.0, x) → ((k : Key) → d' k ≡ spread d (plan x) k) → touches d (plan x) ≡ true → more ≡ ids ++ id ∷ []
        → map number_of more ++ touched plan d' (drop (i + 1) rows) ≡ map number_of ids ++ touched plan d (drop i rows)
    listed-one at past hit longer =
        let rest : List ℕ = touched plan d' (drop (i + 1) rows) in
        ap (λ l. map number_of l ++ rest) longer
        ∙ ap (λ l. l ++ rest) (map-append number_of ids (id ∷ []))
        ∙ append_assoc (map number_of ids) (id.0 ∷ []) rest
        ∙ ap (λ l. map number_of ids ++ l) (sym (touched-more d d' i (id.0, x) at past ∙ ap (λ b. cond b (id.0 ∷ rest) rest) hit))

    -- the ids so far, past a row that reads none
    pub listed-none : slice_get rows i ≡ Some (id.0, x) → ((k : Key) → d' k ≡ spread d (plan x) k) → touches d (plan x) ≡ false → more ≡ ids
        → map number_of more ++ touched plan d' (drop (i + 1) rows) ≡ map number_of ids ++ touched plan d (drop i rows)
    listed-none at past hit as_before =
        let rest : List ℕ = touched plan d' (drop (i + 1) rows) in
        ap (λ l. map number_of l ++ rest) as_before
        ∙ ap (λ l. map number_of ids ++ l) (sym (touched-more d d' i (id.0, x) at past ∙ ap (λ b. cond b (id.0 ∷ rest) rest) hit))

  -- at the end no row is left
  pub listed-all : (d : Key → Bool) (i : ℕ) (ids : List RowId) (whole : List ℕ) → length rows ≤ i → map number_of ids ++ touched plan d (drop i rows) ≡ whole → map number_of ids ≡ whole
  listed-all d i ids whole past e =
      sym (append-nil (map number_of ids)) ∙ ap (λ l. map number_of ids ++ touched plan d l) (sym (drop_all i rows past)) ∙ e
