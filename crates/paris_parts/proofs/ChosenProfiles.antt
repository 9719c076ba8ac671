-- The profile that lines choose, from one of them on.
use Rattle.std.proofs.Common.{◌≡◌, ℕ, suc, ◌+◌, ◌<◌, true, List, ◌∷◌, length, get_or, drop, map, sym, ap, ◌∙◌, add-one}
use Rattle.std.proofs.Math.Seq.{drop-cons}
use Rattle.paris_session.specs.Hands.{asked, empty_hand}
use Rattle.paris_parts.specs.Beginning.{chosen_or, profile_of}

-- the first of some lines chooses, or those behind it
pub first_chooses : {X : Type 0} (line : X → List ℕ) (i : ℕ) (xs : List X) (x : X) → i < length xs → x ≡ get_or xs i x
    → profile_of (map line (drop i xs)) ≡ chosen_or (profile_of (map line (drop (i + 1) xs))) (asked true (empty_hand true) (line x))
first_chooses line i xs x lt is =
    let first : drop i xs ≡ x ∷ drop (i + 1) xs = rw add-one (drop-cons xs i x lt ∙ ap (λ z. z ∷ drop (suc i) xs) (sym is)) in
    ap (λ ys. profile_of (map line ys)) first
