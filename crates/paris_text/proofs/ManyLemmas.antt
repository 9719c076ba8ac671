-- Reading one word or more of a kind.
use Rattle.std.proofs.Common.{◌≡◌, ℕ, ◌+◌, List, [], ◌∷◌, ◌++◌, length, Option, None, Some, Result, Ok, Err, arith, refl, sym, ap, append_assoc}
use Rattle.paris_text.specs.Kinds.{Kind, Meaning, meaning}
use Rattle.paris_text.specs.Reading.{Place, ◌>>=◌, left, place, next_word, read_word, kind_at}
use Rattle.paris_text.specs.CommandReading.{each_at, many_at}

-- what is read, behind what was read before
abbrev pub behind : {X : Type 0} → List X → Result (List X) ℕ → Result (List X) ℕ
behind done r = r >>= λ xs. Ok (done ++ xs)

pub behind_more : {X : Type 0} (done : List X) (x : X) (r : Result (List X) ℕ) → behind done (behind (x ∷ []) r) ≡ behind (done ++ x ∷ []) r
behind_more done x (Ok xs) = ap Ok (sym (append_assoc done (x ∷ []) xs))
behind_more done x (Err e) = refl

pub behind_none : {X : Type 0} (r : Result (List X) ℕ) → r ≡ behind [] r
behind_none (Ok xs) = refl
behind_none (Err e) = refl

pub many_fails : (k : Kind) (p : Place) (e : ℕ) → kind_at k p ≡ Err e → many_at k p ≡ Err e
unfolding many_at
many_fails k p e h = rw h refl

pub many_last : (k : Kind) (p : Place) (x : Meaning k) (c : ℕ) → kind_at k p ≡ Ok (x, (c, [])) → many_at k p ≡ Ok (x ∷ [])
unfolding many_at
many_last k p x c h = rw h refl

pub many_more : (k : Kind) (p : Place) (x : Meaning k) (c : ℕ) (w : List ℕ) (ws : List (List ℕ)) → kind_at k p ≡ Ok (x, (c, w ∷ ws))
    → many_at k p ≡ behind (x ∷ []) (many_at k (c, w ∷ ws))
unfolding many_at kind_at
many_more k p x c w ws h = rw h (go (meaning k w))
  where
    on : (y : Meaning k) (r : Result (List (Meaning k)) ℕ) → ((r >>= λ ys. Ok (y ∷ ys)) >>= λ xs. Ok (x ∷ xs)) ≡ behind (x ∷ []) (r >>= λ ys. Ok (y ∷ ys))
    on y (Ok ys) = refl
    on y (Err e) = refl

    go : (o : Option (Meaning k)) → ((read_word o c w ws >>= λ y. each_at k (c + length w + 1) ws >>= λ ys. Ok (y.0 ∷ ys)) >>= λ xs. Ok (x ∷ xs))
        ≡ behind (x ∷ []) (read_word o c w ws >>= λ y. each_at k y.1.0 y.1.1 >>= λ ys. Ok (y.0 ∷ ys))
    go None = refl
    go (Some y) = on y (each_at k (c + length w + 1) ws)

-- a word that reads is one of those that are left
pub left_less : (k : Kind) (line : List ℕ) (at after : ℕ) (x : Meaning k) → kind_at k (place line at) ≡ Ok (x, place line after) → length (left line at) ≡ length (left line after) + 1
unfolding kind_at place
left_less k line at after x h = go (left line at) h
  where
    fewer : (w : List ℕ) (ws vs : List (List ℕ)) (c d : ℕ) (o : Option (Meaning k)) → read_word o c w ws ≡ Ok (x, (d, vs)) → length (w ∷ ws) ≡ length vs + 1
    fewer w ws vs c d None e = absurd (cc)
    fewer w ws vs c d (Some y) e =
        let pair : (let q : Meaning k × Place = (y, (c + length w + 1, ws)) in q) ≡ (x, (d, vs)) = cc in
        let same : ws ≡ vs = ap (λ (q : Meaning k × Place). q.1.1) pair in
        rw same (omega arith)

    go : (ws : List (List ℕ)) → next_word (meaning k) (at + 1) ws ≡ Ok (x, (after + 1, left line after)) → length ws ≡ length (left line after) + 1
    go [] e = absurd (cc)
    go (w ∷ ws) e = fewer w ws (left line after) (at + 1) (after + 1) (meaning k w) e
