-- A script is cut line by line.
use Rattle.std.proofs.Common.{◌≡◌, ℕ, ◌+◌, ◌<◌, ◌≤◌, List, [], ◌∷◌, ◌++◌, length, drop, get_or, sym, ap, ◌∙◌, add-one, drop-cons}
use Rattle.std.proofs.lemmas.List.{drop_all}
use Rattle.paris_parts.specs.Parts.{cut}

-- a line is taken
pub line_cut : (all : List (List ℕ)) (i : ℕ) (line : List ℕ) (ps ps' : List (List (List ℕ))) (begun begun' : List (List ℕ)) (out : List (List (List ℕ)))
    → i < length all → line ≡ get_or all i line → ((rest : List (List ℕ)) → ps' ++ cut begun' rest ≡ ps ++ cut begun (line ∷ rest))
    → ps ++ cut begun (drop i all) ≡ out → ps' ++ cut begun' (drop (i + 1) all) ≡ out
line_cut all i line ps ps' begun begun' out within is taken same =
    let first : drop i all ≡ line ∷ drop (i + 1) all = (rw add-one (drop-cons all i line within)) ∙ ap (λ (l : List ℕ). l ∷ drop (i + 1) all) (sym is) in
    taken (drop (i + 1) all) ∙ ap (λ (ls : List (List ℕ)). ps ++ cut begun ls) (sym first) ∙ same

-- where no line is left, the part that has begun is the last
pub all_cut : (all : List (List ℕ)) (i : ℕ) (ps : List (List (List ℕ))) (begun : List (List ℕ)) (out : List (List (List ℕ))) → length all ≤ i
    → ps ++ cut begun (drop i all) ≡ out → ps ++ begun ∷ [] ≡ out
all_cut all i ps begun out over same = ap (λ (ls : List (List ℕ)). ps ++ cut begun ls) (sym (drop_all i all over)) ∙ same
