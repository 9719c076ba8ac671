-- Numbers after spaces.
use Rattle.std.proofs.Common.{◌≡◌, ℕ, List, [], ◌∷◌, ◌++◌, codes, ap, sym, ◌∙◌, append_assoc, append-nil}
use Rattle.std.specs.Fmt.{decimal}
use Rattle.paris_session.specs.Replies.{spaced}

pub spaced-last : (xs : List ℕ) (v : ℕ) → spaced (xs ++ v ∷ []) ≡ spaced xs ++ (codes " " ++ decimal v)
spaced-last [] v = append-nil (codes " " ++ decimal v)
spaced-last (x ∷ xs) v =
    ap (λ (l : List ℕ). (codes " " ++ decimal x) ++ l) (spaced-last xs v) ∙ sym (append_assoc (codes " " ++ decimal x) (spaced xs) (codes " " ++ decimal v))
