-- One word further along the lines of a grammar.
use Rattle.std.proofs.Common.{◌≡◌, ℕ, ◌+◌, ◌-◌, List, [], ◌∷◌, ◌++◌, length, refl, sym, subst, arith, inl, inr, append_assoc, append-nil, Result, Ok, Err, MatchResult}
use Rattle.paris_text.specs.Columns.{Begins, width, IsColumn}
use Rattle.paris_text.specs.Reading.{◌>>=◌}

pub width-append : (xs ys : List (List ℕ)) → width (xs ++ ys) ≡ width xs + width ys
width-append [] ys = omega arith
width-append (x ∷ xs) ys = omega (arith, width-append xs ys)

-- The lines of a grammar that begin with the words `done` are those whose other words are a line of another grammar.
pub record GoesOn (grammar : List (List ℕ) → Type 0) (done : List (List ℕ)) (rest : List (List ℕ) → Type 0) : Type 0 where
  pub fits : (xs : List (List ℕ)) → rest xs → grammar (done ++ xs)
  pub only : (xs : List (List ℕ)) → grammar (done ++ xs) → rest xs

-- with no words done, a grammar goes on as itself
pub goes_on : (grammar : List (List ℕ) → Type 0) → GoesOn grammar [] grammar
goes_on grammar = record { fits = λ xs h. h; only = λ xs h. h }

-- and so it goes on behind one word more
pub goes_behind : (grammar : List (List ℕ) → Type 0) (done : List (List ℕ)) (rest later : List (List ℕ) → Type 0) (w : List ℕ) → GoesOn grammar done rest
    → ((xs : List (List ℕ)) → later xs → rest (w ∷ xs)) → ((xs : List (List ℕ)) → rest (w ∷ xs) → later xs) → GoesOn grammar (done ++ w ∷ []) later
goes_behind grammar done rest later w goes there back = record {
  fits = λ xs h. subst grammar (sym (append_assoc done (w ∷ []) xs)) (goes.fits (w ∷ xs) (there xs h));
  only = λ xs line. back xs (goes.only (w ∷ xs) (subst grammar (append_assoc done (w ∷ []) xs) line));
}

pub column_behind : (done : List (List ℕ)) (w : List ℕ) (c : ℕ) → c ≡ 1 + width done → c + length w + 1 ≡ 1 + width (done ++ w ∷ [])
column_behind done w c at = rw width-append (omega arith)

-- a column of the words behind one word is one of the whole
pub further : (grammar : List (List ℕ) → Type 0) (done : List (List ℕ)) (w : List ℕ) (ws : List (List ℕ)) (e : ℕ) → IsColumn grammar ((done ++ w ∷ []) ++ ws) e
    → IsColumn grammar (done ++ w ∷ ws) e
further grammar done w ws e h = subst (λ (l : List (List ℕ)). IsColumn grammar l e) (append_assoc done (w ∷ []) ws) h

-- a word that goes on in no line
pub wrong_word : (grammar : List (List ℕ) → Type 0) (done : List (List ℕ)) (rest : List (List ℕ) → Type 0) → GoesOn grammar done rest → (xs : List (List ℕ)) × rest xs
    → (w : List ℕ) (ws : List (List ℕ)) (c : ℕ) → ((xs : List (List ℕ)) → rest (w ∷ xs) → ⊥) → c ≡ 1 + width done → IsColumn grammar (done ++ w ∷ ws) c
wrong_word grammar done rest goes some w ws c none at =
    let begins : Begins grammar done = (some.0, goes.fits some.0 some.1) in
    let stops : Begins grammar (done ++ w ∷ []) → ⊥ = λ (more, line). none more (goes.only (w ∷ more) (subst grammar (append_assoc done (w ∷ []) more) line)) in
    inl (done, w, ws, refl, begins, stops, at)

-- more words are wanted
pub missing_word : (grammar : List (List ℕ) → Type 0) (done : List (List ℕ)) (rest : List (List ℕ) → Type 0) → GoesOn grammar done rest → (xs : List (List ℕ)) × rest xs
    → (c : ℕ) → (rest [] → ⊥) → c ≡ 1 + width done → IsColumn grammar (done ++ []) (c - 1)
missing_word grammar done rest goes some c none at =
    let begins : Begins grammar (done ++ []) = rw append-nil (some.0, goes.fits some.0 some.1) in
    inr (begins, (λ line. none (goes.only [] line)), rw append-nil (omega arith))

-- what is made of what was read, and where reading stopped
pub after_word : {A B : Type 0} (f : A → B) (P : A → Type 0) (Q : B → Type 0) (E F : ℕ → Type 0) (r : Result A ℕ) → ((x : A) → P x → Q (f x)) → ((e : ℕ) → E e → F e)
    → MatchResult r P E → MatchResult (r >>= λ x. Ok (f x)) Q F
after_word f P Q E F (Ok x) step stop h = step x h
after_word f P Q E F (Err e) step stop h = stop e h
