-- Words behind a first word, each with a space before it.
use Rattle.std.proofs.Common.{◌≡◌, ℕ, List, [], ◌∷◌, ◌++◌, refl, sym, ap, ◌∙◌, append_assoc, append-nil}
use Rattle.std.specs.List.{join_with_byte}
use Rattle.paris_text.specs.Writing.{tail_text}

pub joined_tail : (w : List ℕ) (ws : List (List ℕ)) → join_with_byte 32 (w ∷ ws) ≡ w ++ tail_text ws
joined_tail w [] = sym (append-nil w)
joined_tail w (v ∷ vs) = ap (λ (l : List ℕ). w ++ 32 ∷ l) (joined_tail v vs)

tail-append : (xs ys : List (List ℕ)) → tail_text (xs ++ ys) ≡ tail_text xs ++ tail_text ys
tail-append [] ys = refl
tail-append (x ∷ xs) ys = ap (λ (l : List ℕ). 32 ∷ (x ++ l)) (tail-append xs ys) ∙ ap (λ (l : List ℕ). 32 ∷ l) (sym (append_assoc x (tail_text xs) (tail_text ys)))

-- words that are added after words
pub added : (a b c : List ℕ) (xs ys : List (List ℕ)) → b ≡ a ++ tail_text xs → c ≡ b ++ tail_text ys → c ≡ a ++ tail_text (xs ++ ys)
added a b c xs ys h k =
    k ∙ ap (λ (l : List ℕ). l ++ tail_text ys) h ∙ append_assoc a (tail_text xs) (tail_text ys) ∙ ap (λ (l : List ℕ). a ++ l) (sym (tail-append xs ys))
