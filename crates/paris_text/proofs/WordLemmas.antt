-- Words, digits, and what is left of a line.
use Rattle.std.proofs.Common.{◌≡◌, ℕ, ◌+◌, ◌-◌, ◌*◌, ◌<◌, ◌≤◌, List, [], ◌∷◌, length, take, drop, true, false, not, cond, nat_eq, refl, ap, get_or, add-one, drop-cons, ◌∙◌, arith, Option, None, Some, if◌then◌else◌, nat_le, nat_lt, sym, ◌++◌, append_assoc, option_map}
use Rattle.std.specs.Prelude.{Bool}
use Rattle.std.specs.List.{count_by, onto_first, position_or_len}
use mir.Val.{bool_byte}
use Rattle.std.proofs.lemmas.List.Sums.{count_by_more_no, count_by_more_yes}
use Rattle.std.proofs.lemmas.List.Splits.{length-slice_split, slice_split_first}
use Rattle.std.proofs.lemmas.Bool.{ltb-true, ltb-false, le-ltb}
use Rattle.std.proofs.lemmas.Bool.Decides.{nat_tests}
use Rattle.std.proofs.lemmas.List.{drop-drop, length-drop, take_all, at_drop_more}
use Rattle.paris_text.specs.Words.{words, value_from, name_word, number_word, with_first, numbers_of_words}
use Rattle.paris_names.specs.Names.{is_name}
use Rattle.paris_text.specs.Reading.{left}

pub value_from_ge : (n : ℕ) (bs : List ℕ) → n ≤ value_from n bs
value_from_ge n [] = omega arith
value_from_ge n (b ∷ bs) = let ih = value_from_ge (n * 10 + (b - 48)) bs in omega (arith, ih)

pub value_step : (word : List ℕ) (i value : ℕ) → i < length word
    → value_from value (drop i word) ≡ value_from (value * 10 + (get_or word i 0 - 48)) (drop (i + 1) word)
value_step word i value within =
    let e : drop i word ≡ get_or word i 0 ∷ drop (i + 1) word = rw add-one (drop-cons word i 0 within) in
    rw e refl

pub too_big : (word : List ℕ) (i value all bound : ℕ) → i < length word → value_from value (drop i word) ≡ all
    → bound ≤ value * 10 + (get_or word i 0 - 48) → nat_lt all bound ≡ false
too_big word i value all bound within same big =
    let large = value_from_ge (value * 10 + (get_or word i 0 - 48)) (drop (i + 1) word) in
    let step = value_step word i value within in
    let above : bound ≤ all = rw (← same, step) (omega (arith, large)) in
    le-ltb all bound above

pub name_word_yes : (w : List ℕ) → is_name w ≡ true → name_word w ≡ Some w
name_word_yes w h = rw h refl

pub name_word_no : (w : List ℕ) → (is_name w ≡ true → ⊥) → name_word w ≡ None
name_word_no w h = go (is_name w) refl
  where
    go : (t : Bool) → is_name w ≡ t → name_word w ≡ None
    go true e = absurd (h e)
    go false e = rw e refl

abbrev pub word_len : List ℕ → ℕ
word_len xs = position_or_len (λ b. nat_eq b 32) xs

pub word_len_le : (xs : List ℕ) → word_len xs ≤ length xs
word_len_le [] = omega arith
word_len_le (x ∷ xs) =
    elim (nat_eq x 32) as (λ t. (if not t then 1 + word_len xs else 0) ≤ length (x ∷ xs)) [ true ↦ omega arith | false ↦ omega (arith, word_len_le xs) ]

pub words_none : (xs : List ℕ) → length xs ≤ word_len xs → words xs ≡ xs ∷ []
words_none [] h = refl
words_none (x ∷ xs) h =
    let go : (t : Bool) → length (x ∷ xs) ≤ (if not t then 1 + word_len xs else 0) → cond t ([] ∷ words xs) (onto_first x (words xs)) ≡ (x ∷ xs) ∷ [] =
    λ t. elim t as (λ t. length (x ∷ xs) ≤ (if not t then 1 + word_len xs else 0) → cond t ([] ∷ words xs) (onto_first x (words xs)) ≡ (x ∷ xs) ∷ [])
    [ true ↦ λ k. absurd (omega arith) | false ↦ λ k. ap (onto_first x) (words_none xs (omega arith)) ] in
    go (nat_eq x 32) h

pub words_step : (rest : List ℕ) → word_len rest ≤ length rest → words rest ≡ take (word_len rest) rest ∷ (if nat_le (word_len rest + 1) (length rest) then words (drop (word_len rest + 1) rest) else [])
words_step rest within = go (nat_lt (word_len rest) (length rest)) refl
  where
    go : (t : Bool) → nat_lt (word_len rest) (length rest) ≡ t → words rest ≡ take (word_len rest) rest ∷ (if nat_le (word_len rest + 1) (length rest) then words (drop (word_len rest + 1) rest) else [])
    go true e =
        let lt : word_len rest < length rest = ltb-true (word_len rest) (length rest) e in
        let yes : nat_le (word_len rest + 1) (length rest) ≡ true = grind (arith, nat_tests) in
        rw yes (slice_split_first (λ b. nat_eq b 32) rest 0 lt)
    go false e =
        let all : length rest ≤ word_len rest = ltb-false (word_len rest) (length rest) e in
        let no : nat_le (word_len rest + 1) (length rest) ≡ false = grind (arith, nat_tests) in
        rw (no, take_all (word_len rest) rest all) (words_none rest all)

pub left_step : (line : List ℕ) (at : ℕ) → at ≤ length line → word_len (drop at line) ≤ length (drop at line)
    → left line at ≡ take (word_len (drop at line)) (drop at line) ∷ left line (at + word_len (drop at line) + 1)
unfolding left
left_step line at within short =
    let n = word_len (drop at line) in
    let rest = drop at line in
    let here : nat_le at (length line) ≡ true = grind (arith, nat_tests) in
    let count : length rest ≡ length line - at = length-drop at line in
    let same : nat_le (n + 1) (length rest) ≡ nat_le (at + n + 1) (length line) = grind (arith, nat_tests) in
    let sum : at + (n + 1) ≡ at + n + 1 = omega arith in
    let later : drop (n + 1) rest ≡ drop (at + n + 1) line = drop-drop (n + 1) at line ∙ ap (λ (k : ℕ). drop k line) sum in
    rw (here, words_step rest short, same, later) refl

pub left_over : (line : List ℕ) (at : ℕ) → length line < at → left line at ≡ []
unfolding left
left_over line at past =
    let no : nat_le at (length line) ≡ false = grind (arith, nat_tests) in
    rw no refl

-- a byte more, which may be a space
pub spaces_more : (bytes : List ℕ) (i n : ℕ) → i < length bytes → n ≡ bool_byte (nat_eq (get_or bytes i 0) 32)
    → count_by (λ b. nat_eq b 32) (take i bytes) + n ≡ count_by (λ b. nat_eq b 32) (take (i + 1) bytes)
spaces_more bytes i n within is = rw is (go (nat_eq (get_or bytes i 0) 32) refl)
  where
    go : (t : Bool) → nat_eq (get_or bytes i 0) 32 ≡ t → count_by (λ b. nat_eq b 32) (take i bytes) + bool_byte t ≡ count_by (λ b. nat_eq b 32) (take (i + 1) bytes)
    go true e = sym (count_by_more_yes (λ b. nat_eq b 32) bytes i 0 within e)
    go false e = omega (arith, count_by_more_no (λ b. nat_eq b 32) bytes i 0 within e)

-- one word more is left than spaces
pub left_count : (line : List ℕ) (at : ℕ) → at ≤ length line → length (left line at) ≡ count_by (λ b. nat_eq b 32) (drop at line) + 1
unfolding left
left_count line at within =
    let here : nat_le at (length line) ≡ true = grind (arith, nat_tests) in
    rw here (length-slice_split (λ b. nat_eq b 32) (drop at line))

-- all words of the line are left at its start
pub left_all : (line : List ℕ) → left line 0 ≡ words line
unfolding left
left_all line =
    let here : nat_le 0 (length line) ≡ true = grind (arith, nat_tests) in
    rw here refl

-- a list of numbers stops at a word that is none
pub numbers_stop : (ws : List (List ℕ)) (i : ℕ) (w : List ℕ) → i < length ws → w ≡ get_or ws i w → number_word w ≡ None → numbers_of_words (drop i ws) ≡ None
numbers_stop ws i w within is none =
    let here : numbers_of_words (drop i ws) ≡ with_first (number_word (get_or ws i w)) (numbers_of_words (drop (i + 1) ws)) = at_drop_more numbers_of_words ws i w within in
    let same : number_word (get_or ws i w) ≡ None = ap number_word (sym is) ∙ none in
    here ∙ ap (λ (o : Option ℕ). with_first o (numbers_of_words (drop (i + 1) ws))) same

-- and goes on behind one
pub numbers_more : (ws : List (List ℕ)) (i : ℕ) (w : List ℕ) (n : ℕ) → i < length ws → w ≡ get_or ws i w → number_word w ≡ Some n
    → numbers_of_words (drop i ws) ≡ option_map (λ ns. n ∷ ns) (numbers_of_words (drop (i + 1) ws))
numbers_more ws i w n within is some =
    let here : numbers_of_words (drop i ws) ≡ with_first (number_word (get_or ws i w)) (numbers_of_words (drop (i + 1) ws)) = at_drop_more numbers_of_words ws i w within in
    let same : number_word (get_or ws i w) ≡ Some n = ap number_word (sym is) ∙ some in
    here ∙ ap (λ (o : Option ℕ). with_first o (numbers_of_words (drop (i + 1) ws))) same

pub numbers_on : (done : List ℕ) (n : ℕ) (o : Option (List ℕ)) → option_map (λ ns. done ++ ns) (option_map (λ ns. n ∷ ns) o) ≡ option_map (λ ns. (done ++ n ∷ []) ++ ns) o
numbers_on done n None = refl
numbers_on done n (Some ns) = ap Some (sym (append_assoc done (n ∷ []) ns))
