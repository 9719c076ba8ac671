-- The table of mnemonics: each is found by its text, and no text has a space.
use Rattle.std.proofs.Common.{◌≡◌, ℕ, List, [], ◌∷◌, Some, true, false, refl, if◌then◌else◌}
use Rattle.std.specs.Prelude.{Bool, ◌&&◌, find}
use Rattle.std.specs.List.{list_all}
use Rattle.std.specs.Str.{bytes_eq}
use Rattle.std.proofs.lemmas.Slice.Eq.{bytes_eq-Decides}
use Rattle.paris_model.specs.declared.operators.Sign.TheVariants.{Unsigned}
use Rattle.paris_model.specs.declared.operators.BinaryOperator.TheVariants as binary
use Rattle.paris_model.specs.declared.operators.UnaryOperator.TheVariants.{Negate}
use Rattle.paris_model.specs.declared.operators.Comparison.TheVariants.{Less, LessOrEqual, Greater, GreaterOrEqual}
use Rattle.paris_model.specs.declared.operators.Combiner.TheVariants.{Sum}
use Rattle.paris_text.specs.declared.mnemonics.FlagAction.TheVariants.{SetTest}
use Rattle.paris_text.specs.declared.mnemonics.NewsMove.TheVariants as news
use Rattle.paris_text.specs.declared.mnemonics.Mnemonic.{Mnemonic}
use Rattle.paris_text.specs.declared.mnemonics.Mnemonic.TheVariants.{Binary, Unary, Resize, Compare, Flag, News, Scan, Spread, Reduce, CombiningSend}
use Rattle.paris_text.specs.declared.mnemonics.TheConstants.{MNEMONICS}
use Rattle.paris_text.specs.Mnemonics.{text, mnemonic_word}
use Rattle.paris_text.proofs.JoinLemmas.{is_without}

-- no byte is a space
abbrev pub is_spaceless : List ℕ → Bool
is_spaceless w = is_without 32 w

-- what is found passes the test
pub find_passes : {X : Type 0} (p : X → Bool) (xs : List X) (y : X) → find p xs ≡ Some y → p y ≡ true
find_passes p [] y h = cc
find_passes {X = X} p (x ∷ xs) y h = go (p x) refl h (λ k. find_passes p xs y k)
  where
    go : (b : Bool) → p x ≡ b → (if b then Some x else find p xs) ≡ Some y → (find p xs ≡ Some y → p y ≡ true) → p y ≡ true
    go true e k later = let same : x ≡ y = cc in rw (← same) e
    go false e k later = later k

-- and has what all of the list have
pub find_has : {X : Type 0} (p q : X → Bool) (xs : List X) (y : X) → list_all q xs ≡ true → find p xs ≡ Some y → q y ≡ true
find_has p q [] y all h = cc
find_has {X = X} p q (x ∷ xs) y all h = go (p x) (q x) refl h all (λ f k. find_has p q xs y f k)
  where
    go : (b t : Bool) → q x ≡ t → (if b then Some x else find p xs) ≡ Some y → (t && list_all q xs) ≡ true
        → (list_all q xs ≡ true → find p xs ≡ Some y → q y ≡ true) → q y ≡ true
    go b false e k f later = cc
    go true true e k f later = let same : x ≡ y = cc in rw (← same) e
    go false true e k f later = later f k

pub text_found : (m : Mnemonic) → mnemonic_word (text m) ≡ Some m
unfolding mnemonic_word text
text_found (Binary binary.UnsignedAdd) = refl
text_found (Binary (binary.Maximum Unsigned)) = refl
text_found (Binary (binary.Minimum Unsigned)) = refl
text_found (Unary Negate) = refl
text_found (Resize Unsigned) = refl
text_found (Compare (Less Unsigned)) = refl
text_found (Compare (LessOrEqual Unsigned)) = refl
text_found (Compare (Greater Unsigned)) = refl
text_found (Compare (GreaterOrEqual Unsigned)) = refl
text_found (Flag SetTest) = refl
text_found (News news.Get) = refl
text_found (Scan Sum) = refl
text_found (Spread Sum) = refl
text_found (Reduce Sum) = refl
text_found (CombiningSend Sum) = refl
text_found _ = refl

pub found_text : (w : List ℕ) (m : Mnemonic) → mnemonic_word w ≡ Some m → text m ≡ w
unfolding mnemonic_word
found_text w m h = (bytes_eq-Decides (text m) w).0 (find_passes (λ m. bytes_eq (text m) w) MNEMONICS m h)

texts_spaceless : list_all (λ m. is_spaceless (text m)) MNEMONICS ≡ true
unfolding text
texts_spaceless = refl

pub text_spaceless : (m : Mnemonic) → is_spaceless (text m) ≡ true
unfolding mnemonic_word
text_spaceless m = find_has (λ n. bytes_eq (text n) (text m)) (λ n. is_spaceless (text n)) MNEMONICS m texts_spaceless (text_found m)
