-- Lists of numbers by processor: low bits, and what is fetched from an address.
use Rattle.std.proofs.Common.{◌≡◌, ◌≢◌, ℕ, ◌<◌, ◌≤◌, ◌/◌, ◌%◌, ◌^◌, eq-eqb, Bool, true, false, List, All, length, get_or, map, cond, refl, sym, ap, subst, ◌∙◌, arith, inl, inr}
use Rattle.std.proofs.Math.ListN.{get_or-eq_default}
use Rattle.std.proofs.Math.Nat.{mod-eq_of_lt, mod-mod}
use Rattle.std.proofs.Math.Pow.{pow_mono}
use Rattle.std.proofs.lemmas.Bool.{cases_lt, ne_eqb}
use Rattle.std.proofs.lemmas.List.{get_or-map, length-map}
use Rattle.std.proofs.lemmas.List.Elements.{All-from_get_or, All-get_or, All-map}
use Rattle.std.proofs.lemmas.List.FromFn.{fill_by_all, get_or-map-range_with_len, length-map-range_with_len}
use Rattle.std.proofs.lemmas.Nat.{mod_below}
use lib.Pow.{pow_pos}
use Rattle.paris_model.specs.Store.{everywhere, low}
use Rattle.paris_plane.specs.Bits.{word_bit}
use Rattle.paris_field.specs.Fields.{FieldNumbers, operand}
use Rattle.paris_field.proofs.Numbers.{same_lists}
use Rattle.paris_field.proofs.Places.{everywhere_same}
use Rattle.paris_field.specs.Numbers.{has}
use Rattle.paris_router.specs.Mail.{clipped, selected_addresses}

pub length-everywhere : (n : ℕ) (f : ℕ → ℕ) → length (everywhere n f) ≡ n
length-everywhere n f = length-map-range_with_len f 0 n

pub get_or-everywhere : (n : ℕ) (f : ℕ → ℕ) (v : ℕ) → v < n → get_or (everywhere n f) v 0 ≡ f v
get_or-everywhere n f v h = get_or-map-range_with_len f 0 n v v 0 h (omega arith)

none_low : (L : ℕ) → low L 0 ≡ 0
none_low L = mod-eq_of_lt (pow_pos L)

-- the low bits of numbers, past the last of them too
pub get_or-operands : (L : ℕ) (x : FieldNumbers) (a : ℕ) → get_or (everywhere (length x.numbers) (operand L x)) a 0 ≡ operand L x a
get_or-operands L x a =
    let n : ℕ = length x.numbers in
    elim (cases_lt a n) [
      | inl inside ↦ get_or-everywhere n (operand L x) a inside
      | inr past ↦
          let long : length (everywhere n (operand L x)) ≡ n = length-everywhere n (operand L x) in
          get_or-eq_default (everywhere n (operand L x)) 0 (omega (arith, past, long))
          ∙ sym (ap (low L) (get_or-eq_default x.numbers 0 past) ∙ none_low L)
    ]

-- a bit of a word, by the number that it is
pub bit_one : (w i : ℕ) → w / 2 ^ i % 2 ≡ 1 → word_bit w i ≡ true
unfolding word_bit
bit_one w i is = eq-eqb _ 1 is

pub bit_none : (w i : ℕ) → w / 2 ^ i % 2 ≢ 1 → word_bit w i ≡ false
unfolding word_bit
bit_none w i is = ne_eqb _ 1 is

-- what is read at an address that is 0 where it isn't chosen
pub chosen_at : (b : Bool) (words : List ℕ) (x number : ℕ) → number ≡ cond b x 0 → cond b (get_or words number 0) 0 ≡ cond b (get_or words x 0) 0
chosen_at true words x number is = ap (λ a. get_or words a 0) is
chosen_at false words x number is = refl

-- what is put for a processor, of the low bits of numbers
pub put_at : (L : ℕ) (b : Bool) (x : FieldNumbers) (words : List ℕ) (a address : ℕ) → words ≡ everywhere (length x.numbers) (operand L x) → a ≡ address → low L (cond b (get_or words a 0) 0) ≡ cond b (operand L x address) 0
put_at L true x words a address is same =
    ap (low L) (ap (λ l. get_or l a 0) is ∙ get_or-operands L x a ∙ ap (operand L x) same) ∙ mod-mod (get_or x.numbers address 0) (2 ^ L)
put_at L false x words a address is same = none_low L

pub cut_everywhere : (L : ℕ) (xs : List ℕ) → map (low L) xs ≡ everywhere (length xs) (λ v. low L (get_or xs v 0))
cut_everywhere L xs = fill_by_all (λ v. low L (get_or xs v 0)) (map (low L) xs) (length xs) 0 (length-map xs (low L)) (λ v h. get_or-map (low L) xs v 0 0 h)

pub cut_fit : (L : ℕ) (xs : List ℕ) → All (λ x. x < 2 ^ L) (map (low L) xs)
cut_fit L xs = All-map (λ x. x < 2 ^ L) (low L) xs (λ k d there. mod_below (get_or xs k d) (2 ^ L) (pow_pos L))

-- numbers that fit a word are not clipped
pub clipped_all : (w : ℕ) (xs : List ℕ) → w ≤ 64 → All (λ x. x < 2 ^ w) xs → xs ≡ map clipped xs
clipped_all w xs narrow fit =
    same_lists 0 xs (map clipped xs) (sym (length-map xs clipped)) (λ k h.
    let small : get_or xs k 0 < 2 ^ w = All-get_or (λ x. x < 2 ^ w) xs k 0 h fit in
    let whole : get_or xs k 0 ≡ clipped (get_or xs k 0) = omega (arith, small, pow_mono narrow) in
    whole ∙ sym (get_or-map clipped xs k 0 0 h))

-- each number of a list that fits, and the 0 past its end
pub small : (L : ℕ) (xs : List ℕ) (i : ℕ) → All (λ x. x < 2 ^ L) xs → get_or xs i 0 < 2 ^ L
small L xs i fit =
    elim (cases_lt i (length xs)) [
      | inl inside ↦ All-get_or (λ x. x < 2 ^ L) xs i 0 inside fit
      | inr past ↦ subst (λ x. x < 2 ^ L) (sym (get_or-eq_default xs 0 past)) (pow_pos L)
    ]

pub everywhere_all : (P : ℕ → Type 0) (n : ℕ) (f : ℕ → ℕ) → ((v : ℕ) → v < n → P (f v)) → All P (everywhere n f)
everywhere_all P n f each =
    All-from_get_or P (everywhere n f) 0 (λ v h.
    let long = length-everywhere n f in
    let inside : v < n = omega arith in
    subst P (sym (get_or-everywhere n f v inside)) (each v inside))

one_fits : (L : ℕ) (b : Bool) (x : ℕ) → x < 2 ^ L → cond b x 0 < 2 ^ L
one_fits L true x h = h
one_fits L false x h = pow_pos L

pub fetched_fit : (L n : ℕ) (test : ℕ → Bool) (place : ℕ → ℕ) (xs : List ℕ) → All (λ x. x < 2 ^ L) xs → All (λ x. x < 2 ^ L) (everywhere n (λ v. cond (test v) (get_or xs (place v) 0) 0))
fetched_fit L n test place xs fit = everywhere_all (λ x. x < 2 ^ L) n (λ v. cond (test v) (get_or xs (place v) 0) 0) (λ v h. one_fits L (test v) (get_or xs (place v) 0) (small L xs (place v) fit))

-- the address of a selected processor
pub address_at : (addresses : FieldNumbers) (selected : List Bool) (v : ℕ) → v < length addresses.numbers → has selected v ≡ true → get_or (selected_addresses addresses selected) v 0 ≡ get_or addresses.numbers v 0
address_at addresses selected v h does =
    get_or-everywhere (length addresses.numbers) (λ v. cond (has selected v) (get_or addresses.numbers v 0) 0) v h
    ∙ ap (λ b. cond b (get_or addresses.numbers v 0) 0) does

-- what is fetched from the places in a list
pub fetched_is : (L : ℕ) (x : FieldNumbers) (addresses : List ℕ) (selected : List Bool) → length addresses ≡ length x.numbers → All (λ r. r < length x.numbers) addresses
    → everywhere (length addresses) (λ v. cond (has selected v) (get_or (everywhere (length x.numbers) (operand L x)) (get_or addresses v 0) 0) 0) ≡ everywhere (length x.numbers) (λ v. cond (has selected v) (operand L x (get_or addresses v 0)) 0)
fetched_is L x addresses selected count within =
    ap (λ k. everywhere k (λ v. cond (has selected v) (get_or (everywhere (length x.numbers) (operand L x)) (get_or addresses v 0) 0) 0)) count
    ∙ everywhere_same (length x.numbers)
    (λ v. cond (has selected v) (get_or (everywhere (length x.numbers) (operand L x)) (get_or addresses v 0) 0) 0)
    (λ v. cond (has selected v) (operand L x (get_or addresses v 0)) 0)
    (λ v h. ap (λ y. cond (has selected v) y 0) (get_or-everywhere (length x.numbers) (operand L x) (get_or addresses v 0) (within v 0 (omega arith))))

-- the list of the selected processors' addresses serves as well as their field
pub fetched_selected : (L : ℕ) (x addresses : FieldNumbers) (selected : List Bool) → length addresses.numbers ≡ length x.numbers
    → everywhere (length x.numbers) (λ v. cond (has selected v) (operand L x (get_or (selected_addresses addresses selected) v 0)) 0) ≡ everywhere (length x.numbers) (λ v. cond (has selected v) (operand L x (get_or addresses.numbers v 0)) 0)
fetched_selected L x addresses selected same =
    everywhere_same (length x.numbers)
    (λ v. cond (has selected v) (operand L x (get_or (selected_addresses addresses selected) v 0)) 0)
    (λ v. cond (has selected v) (operand L x (get_or addresses.numbers v 0)) 0)
    (λ v h. at v h (has selected v) refl)
  where
    at : (v : ℕ) → v < length x.numbers → (b : Bool) → has selected v ≡ b → cond b (operand L x (get_or (selected_addresses addresses selected) v 0)) 0 ≡ cond b (operand L x (get_or addresses.numbers v 0)) 0
    at v h true does = ap (operand L x) (address_at addresses selected v (omega arith) does)
    at v h false stays = refl
