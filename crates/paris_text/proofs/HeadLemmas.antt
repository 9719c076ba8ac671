-- Digits at the head of some bytes, and the word that they are.
use Rattle.std.proofs.Common.{◌≡◌, ℕ, ◌+◌, ◌-◌, ◌*◌, ◌<◌, ◌≤◌, List, [], ◌∷◌, ◌++◌, Bool, true, false, ◌&&◌, ◌||◌, ◌^◌, if◌then◌else◌, None, Some, get_or, length, take, nat_eq, nat_lt, nat_le, arith, ◌∙◌, sym, ap, refl}
use Rattle.std.specs.Prelude.{slice_index}
use Rattle.std.proofs.lemmas.Bool.{lt-ltb}
use Rattle.std.specs.List.{list_all, position_or_len}
use Rattle.std.proofs.lemmas.Bool.Decides.{nat_tests}
use Rattle.std.proofs.lemmas.List.{get_or-take, length-take-le, take_more}
use Rattle.std.proofs.lemmas.List.Folds.{list_all-append}
use Rattle.std.proofs.lemmas.List.Sums.{position_or_len_is}
use Rattle.paris_text.specs.Words.{is_digit, is_number, value_from, value_word}
use Rattle.paris_text.proofs.NumberLemmas.{digit_at}

-- a digit more
value_pushed : (n b : ℕ) (bs : List ℕ) → value_from n (bs ++ b ∷ []) ≡ value_from n bs * 10 + (b - 48)
value_pushed n b [] = refl
value_pushed n b (c ∷ bs) = value_pushed (n * 10 + (c - 48)) b bs

pub head_value : (bytes : List ℕ) (i : ℕ) → i < length bytes → value_from 0 (take (i + 1) bytes) ≡ value_from 0 (take i bytes) * 10 + (get_or bytes i 0 - 48)
head_value bytes i within = ap (value_from 0) (take_more bytes i 0 within) ∙ value_pushed 0 (get_or bytes i 0) (take i bytes)

both : (a b : Bool) → a ≡ true → b ≡ true → (a && b) ≡ true
both true true e f = refl
both true false e f = f
both false b e f = e

pub head_digits : (bytes : List ℕ) (i : ℕ) → i < length bytes → list_all is_digit (take i bytes) ≡ true → is_digit (get_or bytes i 0) ≡ true → list_all is_digit (take (i + 1) bytes) ≡ true
head_digits bytes i within before here =
    ap (list_all is_digit) (take_more bytes i 0 within) ∙ list_all-append is_digit (take i bytes) (get_or bytes i 0 ∷ [])
    ∙ both (list_all is_digit (take i bytes)) (list_all is_digit (get_or bytes i 0 ∷ [])) before (both (is_digit (get_or bytes i 0)) true here refl)

-- digits behind which a space or the end stands are a word
no_space : (b : ℕ) → 48 ≤ b → nat_eq b 32 ≡ false
no_space b high = grind (arith, nat_tests, high)

is_space : (b : ℕ) → b ≡ 32 → nat_eq b 32 ≡ true
is_space b e = grind (arith, nat_tests, e)

pub digits_are_word : (bytes : List ℕ) (n : ℕ) → n ≤ length bytes → list_all is_digit (take n bytes) ≡ true → (n < length bytes → get_or bytes n 0 ≡ 32) → n ≡ position_or_len (λ b. nat_eq b 32) bytes
digits_are_word bytes n within digits end =
    sym (position_or_len_is (λ b. nat_eq b 32) bytes n 0 within
    (λ k h. no_space (get_or bytes k 0) (omega (arith, (digit_at (take n bytes) k digits (omega (arith, h, length-take-le n bytes within))).0, get_or-take n bytes k 0 h)))
    (λ h. is_space (get_or bytes n 0) (end h)))

-- what a test lets through
pub kept_some : (t : Bool) (n m : ℕ) → (if t then Some n else None) ≡ Some m → m ≡ n
kept_some true n m h = cc
kept_some false n m h = absurd (cc)

-- digits whose head is no zero before another digit are a number
digits_are_number : (w : List ℕ) → 0 < length w → list_all is_digit w ≡ true → (nat_lt 48 (slice_index w 0) || nat_le (length w) 1) ≡ true → is_number w ≡ true
unfolding is_number
digits_are_number w some digits plain = rw (lt-ltb 0 (length w) some, digits, plain) refl

-- and stand for what they spell
pub digits_are_value : (w : List ℕ) (n : ℕ) → 0 < length w → list_all is_digit w ≡ true → (nat_lt 48 (slice_index w 0) || nat_le (length w) 1) ≡ true → n ≡ value_from 0 w → n < 2 ^ 64 → value_word w ≡ Some n
digits_are_value w n some digits plain is small =
    let below : value_from 0 w < 2 ^ 128 = rw (← is) (omega (arith, small)) in
    rw (digits_are_number w some digits plain, lt-ltb (value_from 0 w) (2 ^ 128) below, is) refl
