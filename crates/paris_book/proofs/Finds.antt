-- The entry of a row that was found.
use Rattle.std.proofs.Common.{◌≡◌, ℕ, ◌<◌, List, [], ◌∷◌, Bool, true, false, cond, Option, Some, None, refl, sym, ap, ◌∙◌, subst, arith, eqb, map, length, zero, suc, slice_get}
use Rattle.std.proofs.Math.Path.{ap₂}
use Rattle.std.proofs.lemmas.Option.{slice_get-map}
use Rattle.std.specs.Option.{option_map, unwrap_or}
use Rattle.std.specs.List.{find, enumerate_from}
use Rattle.paris_events.specs.State.{Row, find_id}
use Rattle.paris_book.specs.Entries.{Entry, machine_row}
use Rattle.paris_events.proofs.Finds.{find_at_place}

-- the entry of an id that was found
pub found_some : (i : ℕ) (es : List Entry) (k : ℕ) → Some k ≡ option_map (λ e. e.0) (find_id i (map machine_row es)) → (e : Entry) × (find_id i (map machine_row es) ≡ Some (k, machine_row e)) × (slice_get es k ≡ Some e)
found_some i es k h = go (find_id i (map machine_row es)) refl h
  where
    at_place : (r : ℕ × Row) → find_id i (map machine_row es) ≡ Some r → k ≡ r.0 → slice_get (map machine_row es) k ≡ Some r.1
    at_place r e x = let f = find_at_place (λ e. eqb e.1.id.0 i) (map machine_row es) 0 r.0 r.1 e in let y : f.0 ≡ k = omega (arith, f.1, x) in subst (λ z. slice_get (map machine_row es) z ≡ Some r.1) y f.2

    entry : (o : Option Entry) → slice_get es k ≡ o → (r : ℕ × Row) → find_id i (map machine_row es) ≡ Some r → k ≡ r.0 → option_map machine_row o ≡ Some r.1 → (e : Entry) × (find_id i (map machine_row es) ≡ Some (k, machine_row e)) × (slice_get es k ≡ Some e)
    entry None e r x y z = absurd (cc)
    entry (Some u) e r x y z =
        let w : machine_row u ≡ r.1 = ap (λ o. unwrap_or o (machine_row u)) z in
        (u, x ∙ ap Some (let q : r ≡ (k, machine_row u) = ap₂ (λ a b. (a, b)) (sym y) (sym w) in q), e)

    go : (o : Option (ℕ × Row)) → find_id i (map machine_row es) ≡ o → Some k ≡ option_map (λ e. e.0) o → (e : Entry) × (find_id i (map machine_row es) ≡ Some (k, machine_row e)) × (slice_get es k ≡ Some e)
    go None x y = absurd (cc)
    go (Some r) x y =
        let z : k ≡ r.0 = cc in
        entry (slice_get es k) refl r x z (sym (slice_get-map machine_row es k) ∙ at_place r x z)

-- within a list there is an element
pub entry_at : {X : Type 0} (xs : List X) (i : ℕ) → i < length xs → (x : X) × (slice_get xs i ≡ Some x)
entry_at [] i h = absurd (omega arith)
entry_at (x ∷ xs) zero h = (x, refl)
entry_at (x ∷ xs) (suc i) h = entry_at xs i (omega arith)

pub row_at : (es : List Entry) (i : ℕ) (e : Entry) → slice_get es i ≡ Some e → slice_get (map machine_row es) i ≡ Some (machine_row e)
row_at es i e x = slice_get-map machine_row es i ∙ ap (option_map machine_row) x

-- the entry of the first that passes
pub found_by : (p : ℕ × Row → Bool) (es : List Entry) (k : ℕ) → Some k ≡ option_map (λ e. e.0) (find p (enumerate_from 0 (map machine_row es))) → (e : Entry) × (find p (enumerate_from 0 (map machine_row es)) ≡ Some (k, machine_row e)) × (slice_get es k ≡ Some e)
found_by p es k h = go (find p (enumerate_from 0 (map machine_row es))) refl h
  where
    at_place : (r : ℕ × Row) → find p (enumerate_from 0 (map machine_row es)) ≡ Some r → k ≡ r.0 → slice_get (map machine_row es) k ≡ Some r.1
    at_place r e x = let f = find_at_place p (map machine_row es) 0 r.0 r.1 e in let y : f.0 ≡ k = omega (arith, f.1, x) in subst (λ z. slice_get (map machine_row es) z ≡ Some r.1) y f.2

    entry : (o : Option Entry) → slice_get es k ≡ o → (r : ℕ × Row) → find p (enumerate_from 0 (map machine_row es)) ≡ Some r → k ≡ r.0 → option_map machine_row o ≡ Some r.1 → (e : Entry) × (find p (enumerate_from 0 (map machine_row es)) ≡ Some (k, machine_row e)) × (slice_get es k ≡ Some e)
    entry None e r x y z = absurd (cc)
    entry (Some u) e r x y z =
        let w : machine_row u ≡ r.1 = ap (λ o. unwrap_or o (machine_row u)) z in
        (u, x ∙ ap Some (let q : r ≡ (k, machine_row u) = ap₂ (λ a b. (a, b)) (sym y) (sym w) in q), e)

    go : (o : Option (ℕ × Row)) → find p (enumerate_from 0 (map machine_row es)) ≡ o → Some k ≡ option_map (λ e. e.0) o → (e : Entry) × (find p (enumerate_from 0 (map machine_row es)) ≡ Some (k, machine_row e)) × (slice_get es k ≡ Some e)
    go None x y = absurd (cc)
    go (Some r) x y =
        let z : k ≡ r.0 = cc in
        entry (slice_get es k) refl r x z (sym (slice_get-map machine_row es k) ∙ at_place r x z)

-- what passed the test, where one was found
pub found_passes : {X : Type 0} (p : ℕ × X → Bool) (xs : List (ℕ × X)) (x : ℕ × X) → find p xs ≡ Some x → p x ≡ true
found_passes p [] x e = absurd (cc)
found_passes {X} p (y ∷ ys) x e = by_test (found_passes p ys x) (p y) refl e
  where
    by_test : (find p ys ≡ Some x → p x ≡ true) → (b : Bool) → p y ≡ b → cond b (Some y) (find p ys) ≡ Some x → p x ≡ true
    by_test rest true t h = let same : y ≡ x = ap (λ o. unwrap_or o y) h in subst (λ z. p z ≡ true) same t
    by_test rest false t h = rest h
