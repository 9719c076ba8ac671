-- The places of a line, and what reading gives at them.
use Rattle.std.proofs.Common.{◌≡◌, subst, ℕ, ◌+◌, ◌<◌, ◌≤◌, List, [], ◌∷◌, length, take, drop, refl, ap, ◌∙◌, arith, Option, None, Some, Result, Ok, Err}
use Rattle.std.proofs.lemmas.List.{length-take-le}
use Rattle.paris_text.specs.Words.{words}
use Rattle.paris_text.specs.Reading.{Place, place, next_word, read_word}
use Rattle.paris_text.proofs.WordLemmas.{word_len, word_len_le, left_step, left_over, left_all}

pub place_column : (line : List ℕ) (at : ℕ) → (place line at).0 ≡ at + 1
unfolding place
place_column line at = refl

-- the start of a line
pub place_start : (line : List ℕ) → place line 0 ≡ (1, words line)
unfolding place
place_start line = rw (left_all line) refl

-- behind the last word there are none
pub place_over : (line : List ℕ) (at : ℕ) → length line < at → place line at ≡ (at + 1, [])
unfolding place
place_over line at past = rw (left_over line at past) refl

-- the first word of a place, and the place behind it
pub place_step : (line : List ℕ) (at : ℕ) → at ≤ length line
    → place line at ≡ (at + 1, take (word_len (drop at line)) (drop at line) ∷ (place line (at + word_len (drop at line) + 1)).1)
unfolding place
place_step line at within = rw (left_step line at within (word_len_le (drop at line))) refl

pub place_behind : (line : List ℕ) (at n : ℕ) → n ≤ length (drop at line)
    → (let p : Place = (at + 1 + length (take n (drop at line)) + 1, (place line (at + n + 1)).1) in p) ≡ place line (at + n + 1)
unfolding place
place_behind line at n within =
    let e : at + 1 + length (take n (drop at line)) + 1 ≡ at + n + 1 + 1 = omega (arith, length-take-le n (drop at line) within) in
    rw e refl

-- a word that is there reads as its test says
next_of_word : {X : Type 0} (read : List ℕ → Option X) (p : Place) (w : List ℕ) (more : Place) → next_word Some p.0 p.1 ≡ Ok (w, more)
    → next_word read p.0 p.1 ≡ (elim (read w) as (λ _. Result (X × Place) ℕ) [ None ↦ Err p.0 | Some x ↦ Ok (x, more) ])
next_of_word {X = X} read p w more e = go p.1 e
  where
    at : (v : List ℕ) (vs : List (List ℕ)) (r : Option X) → read_word r p.0 v vs ≡ (elim r as (λ _. Result (X × Place) ℕ) [ None ↦ Err p.0 | Some x ↦ Ok (x, (p.0 + length v + 1, vs)) ])
    at v vs None = refl
    at v vs (Some x) = refl

    go : (ws : List (List ℕ)) → next_word Some p.0 ws ≡ Ok (w, more) → next_word read p.0 ws ≡ (elim (read w) as (λ _. Result (X × Place) ℕ) [ None ↦ Err p.0 | Some x ↦ Ok (x, more) ])
    go [] h = cc
    go (v ∷ vs) h =
        let pair : (let q : List ℕ × Place = (v, (p.0 + length v + 1, vs)) in q) ≡ (w, more) = cc in
        let same : v ≡ w = ap (λ (q : List ℕ × Place). q.0) pair in
        let rest : (p.0 + length v + 1, vs) ≡ more = ap (λ (q : List ℕ × Place). q.1) pair in
        subst (λ (u : List ℕ). next_word read p.0 (v ∷ vs) ≡ (elim (read u) as (λ _. Result (X × Place) ℕ) [ None ↦ Err p.0 | Some x ↦ Ok (x, more) ])) same
        (subst (λ (m : Place). next_word read p.0 (v ∷ vs) ≡ (elim (read v) as (λ _. Result (X × Place) ℕ) [ None ↦ Err p.0 | Some x ↦ Ok (x, m) ])) rest (at v vs (read v)))

pub no_next_word : {X : Type 0} (read : List ℕ → Option X) (p : Place) (e : ℕ) → next_word Some p.0 p.1 ≡ Err e → next_word read p.0 p.1 ≡ Err e
no_next_word read p e h = go p.1 h
  where
    go : (ws : List (List ℕ)) → next_word Some p.0 ws ≡ Err e → next_word read p.0 ws ≡ Err e
    go [] k = cc
    go (w ∷ ws) k = cc

pub word_reads : {X : Type 0} (read : List ℕ → Option X) (p : Place) (w : List ℕ) (more : Place) (x : X) → next_word Some p.0 p.1 ≡ Ok (w, more)
    → read w ≡ Some x → next_word read p.0 p.1 ≡ Ok (x, more)
word_reads read p w more x e r = next_of_word read p w more e ∙ rw r refl

-- a word that is not of the kind is refused at its column
pub word_fails : {X : Type 0} (read : List ℕ → Option X) (line : List ℕ) (at : ℕ) (w : List ℕ) (more : Place)
    → next_word Some (place line at).0 (place line at).1 ≡ Ok (w, more) → read w ≡ None → next_word read (place line at).0 (place line at).1 ≡ Err (at + 1)
word_fails read line at w more e r = next_of_word read (place line at) w more e ∙ rw (r, place_column line at) refl
