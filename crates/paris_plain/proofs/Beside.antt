-- The list beside a key, looked for from the first key on.
use Rattle.std.proofs.Common.{◌≡◌, ℕ, ◌<◌, ◌≤◌, ◌+◌, List, [], ◌∷◌, false, cond, refl, sym, ap, ◌∙◌, length, drop, suc, add-one, get_or, drop-cons, drop_of_length-le}
use Rattle.std.proofs.Math.Path.{ap₂}
use Rattle.paris_names.specs.declared.keys.Key.{Key}
use Rattle.paris_names.specs.Keys.{key_eq}
use Rattle.paris_model.specs.Instructions.{value_at}

-- one place further
pub beside_next : (ks : List Key) (xs : List (List ℕ)) (k j : Key) (i : ℕ) → i < length ks → i < length xs → j ≡ get_or ks i j → key_eq k j ≡ false → value_at (drop i ks) (drop i xs) k ≡ value_at (drop (i + 1) ks) (drop (i + 1) xs) k
beside_next ks xs k j i a b e t =
    ap₂ (λ u v. value_at u v k) (drop-cons ks i j a) (drop-cons xs i [] b)
    ∙ ap (λ z. cond (key_eq k z) (get_or xs i []) (value_at (drop (suc i) ks) (drop (suc i) xs) k)) (sym e)
    ∙ rw t (ap (λ n. value_at (drop n ks) (drop n xs) k) (sym (add-one i)))

none_beside : (ks : List Key) (k : Key) → value_at ks [] k ≡ []
none_beside [] k = refl
none_beside (j ∷ js) k = refl

-- past the lists there is none
pub beside_past : (ks : List Key) (xs : List (List ℕ)) (k : Key) (i : ℕ) → length xs ≤ i → value_at (drop i ks) (drop i xs) k ≡ []
beside_past ks xs k i h = ap (λ ys. value_at (drop i ks) ys k) (drop_of_length-le xs h) ∙ none_beside (drop i ks) k
