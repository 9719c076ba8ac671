-- The column at which a line leaves a grammar is one, and a line of the grammar has none.
use Rattle.std.proofs.Common.{◌≡◌, ℕ, ◌+◌, List, [], ◌∷◌, ◌++◌, arith, refl, sym, ◌∙◌, ap, subst, inl, inr, append_assoc, append-nil, ◌⊎◌}
use Rattle.std.specs.Prelude.{◌≢◌, nat_eq, if◌then◌else◌, true, false, length}
use Rattle.std.specs.List.{onto_first}
use Rattle.paris_text.specs.Words.{words}
use Rattle.paris_text.specs.Columns.{Begins, width, IsColumn}

-- a line of the grammar begins with each front of it
line_begins : (grammar : List (List ℕ) → Type 0) (ws front : List (List ℕ)) (word : List ℕ) (rest : List (List ℕ)) → ws ≡ front ++ word ∷ rest → Begins grammar ws
    → Begins grammar (front ++ word ∷ [])
line_begins grammar ws front word rest same (more, line) =
    (rest ++ more, subst grammar (ap (λ (l : List (List ℕ)). l ++ more) same ∙ append_assoc front (word ∷ rest) more ∙ sym (append_assoc front (word ∷ []) (rest ++ more))) line)

pub line_has_no_column : (grammar : List (List ℕ) → Type 0) (ws : List (List ℕ)) (column : ℕ) → grammar ws → IsColumn grammar ws column → ⊥
line_has_no_column grammar ws column line (inl (front, word, rest, same, begins, stops, at)) =
    stops (line_begins grammar ws front word rest same ([], subst grammar (sym (append-nil ws)) line))
line_has_no_column grammar ws column line (inr (begins, none, at)) = none line

-- of two fronts of the same words one goes on with the next word of the other, or they are the same
abbrev pub Fronts : List (List ℕ) → List ℕ → List (List ℕ) → List ℕ → Type 0
Fronts f v g w =
    ((rest : List (List ℕ)) × (f ≡ g ++ w ∷ rest)) ⊎ ((rest : List (List ℕ)) × (g ≡ f ++ v ∷ rest)) ⊎ (f ≡ g)

fronts_more : (u : List ℕ) (f : List (List ℕ)) (v : List ℕ) (g : List (List ℕ)) (w : List ℕ) → Fronts f v g w → Fronts (u ∷ f) v (u ∷ g) w
fronts_more u f v g w (inl (rest, e)) = inl (rest, ap (λ (l : List (List ℕ)). u ∷ l) e)
fronts_more u f v g w (inr (inl (rest, e))) = inr (inl (rest, ap (λ (l : List (List ℕ)). u ∷ l) e))
fronts_more u f v g w (inr (inr e)) = inr (inr (ap (λ (l : List (List ℕ)). u ∷ l) e))

fronts : (f : List (List ℕ)) (v : List ℕ) (fs g : List (List ℕ)) (w : List ℕ) (gs : List (List ℕ)) → f ++ v ∷ fs ≡ g ++ w ∷ gs → Fronts f v g w
fronts [] v fs [] w gs e = inr (inr refl)
fronts [] v fs (u ∷ g) w gs e = let first : v ≡ u = cc in inr (inl (g, ap (λ (l : List ℕ). l ∷ g) (sym first)))
fronts (u ∷ f) v fs [] w gs e = let first : u ≡ w = cc in inl (f, ap (λ (l : List ℕ). l ∷ f) first)
fronts (u ∷ f) v fs (t ∷ g) w gs e =
    let first : u ≡ t = cc in
    let rest : f ++ v ∷ fs ≡ g ++ w ∷ gs = cc in
    subst (λ (s : List ℕ). Fronts (u ∷ f) v (s ∷ g) w) first (fronts_more u f v g w (fronts f v fs g w gs rest))

front_stops : (grammar : List (List ℕ) → Type 0) (f : List (List ℕ)) (g : List (List ℕ)) (w : List ℕ) (rest : List (List ℕ)) → f ≡ g ++ w ∷ rest → Begins grammar f
    → (Begins grammar (g ++ w ∷ []) → ⊥) → ⊥
front_stops grammar f g w rest same begins stops = stops (line_begins grammar f g w rest same begins)

pub column_is_unique : (grammar : List (List ℕ) → Type 0) (ws : List (List ℕ)) (a b : ℕ) → IsColumn grammar ws a → IsColumn grammar ws b → a ≡ b
column_is_unique grammar ws a b (inl (f, v, fs, same, begins, stops, at)) (inl (g, w, gs, same', begins', stops', at')) = go (fronts f v fs g w gs (sym same ∙ same'))
  where
    go : Fronts f v g w → a ≡ b
    go (inl (rest, e)) = absurd (front_stops grammar f g w rest e begins stops')
    go (inr (inl (rest, e))) = absurd (front_stops grammar g f v rest e begins' stops)
    go (inr (inr e)) = at ∙ ap (λ (l : List (List ℕ)). 1 + width l) e ∙ sym at'
column_is_unique grammar ws a b (inl (f, v, fs, same, begins, stops, at)) (inr (begins', none, at')) = absurd (front_stops grammar ws f v fs same begins' stops)
column_is_unique grammar ws a b (inr (begins', none, at')) (inl (f, v, fs, same, begins, stops, at)) = absurd (front_stops grammar ws f v fs same begins' stops)
column_is_unique grammar ws a b (inr (begins, none, at)) (inr (begins', none', at')) = at ∙ sym at'

onto_width : (b : ℕ) (ws : List (List ℕ)) (n : ℕ) → ws ≢ [] → width ws ≡ n + 1 → width (onto_first b ws) ≡ n + 1 + 1
onto_width b [] n some h = absurd (some refl)
onto_width b (w ∷ ws) n some h = omega (arith, h)

some_words : (line : List ℕ) → words line ≢ []
some_words [] = λ e. cc
some_words (b ∷ bs) =
    elim (nat_eq b 32) as (λ t. (if t then [] ∷ words bs else onto_first b (words bs)) ≢ []) [ true ↦ λ e. cc | false ↦ go (words bs) ]
  where
    go : (ws : List (List ℕ)) → onto_first b ws ≢ []
    go [] = λ e. cc
    go (w ∷ ws) = λ e. cc

pub line_width : (line : List ℕ) → width (words line) ≡ length line + 1
line_width [] = omega arith
line_width (b ∷ bs) =
    let ih : width (words bs) ≡ length bs + 1 = line_width bs in
    elim (nat_eq b 32) as (λ t. width (if t then [] ∷ words bs else onto_first b (words bs)) ≡ length (b ∷ bs) + 1)
    [ true ↦ omega (arith, ih) | false ↦ onto_width b (words bs) (length bs) (some_words bs) ih ∙ (omega arith) ]
