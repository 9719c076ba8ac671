-- From each place to whole lists of numbers.
use Rattle.std.proofs.Common.{◌≡◌, ◌≤◌, ℕ, zero, suc, ◌+◌, ◌<◌, ◌*◌, ◌^◌, List, [], ◌∷◌, ◌++◌, Bool, length, get_or, arith, ◌∙◌, sym, ap, false, true, subst, cond, drop, take}
use Rattle.std.proofs.lemmas.List.FromFn.{length-map-range_with_len, get_or-map-range_with_len, map-range_with_len_more, fill_by_all}
use Rattle.std.proofs.lemmas.List.{append-nil, append_assoc}
use Rattle.std.proofs.Math.Seq.{take-suc}
use Rattle.paris_model.specs.Store.{everywhere, put, stored}
use Rattle.paris_field.specs.Numbers.{number_at, numbers}
use Rattle.paris_field.proofs.Numbers.{number_at_lt, number_at_put, number_at_split}

pub length-numbers : (n : ℕ) (ps : List (List Bool)) → length (numbers n ps) ≡ n
unfolding numbers
length-numbers n ps = length-map-range_with_len (number_at ps) 0 n

pub get_or-numbers : (n : ℕ) (ps : List (List Bool)) (v : ℕ) → v < n → get_or (numbers n ps) v 0 ≡ number_at ps v
unfolding numbers
get_or-numbers n ps v h = get_or-map-range_with_len (number_at ps) 0 n v v 0 h (omega arith)

pub numbers_are : (n : ℕ) (ps : List (List Bool)) (xs : List ℕ) → length xs ≡ n → ((v : ℕ) → v < n → number_at ps v ≡ get_or xs v 0) → numbers n ps ≡ xs
unfolding numbers
numbers_are n ps xs long each = sym (fill_by_all (number_at ps) xs n 0 long (λ v h. sym (each v h)))

pub numbers_everywhere : (n m : ℕ) (ps : List (List Bool)) (f : ℕ → ℕ) → m ≡ n → ((v : ℕ) → v < m → number_at ps v ≡ f v) → numbers n ps ≡ everywhere m f
numbers_everywhere n m ps f same each =
    numbers_are n ps (everywhere m f) (length-map-range_with_len f 0 m ∙ same) (λ v h.
    let inside : v < m = omega arith in
    each v inside ∙ sym (get_or-map-range_with_len f 0 m v v 0 inside (omega arith)))

pub number_of : {n : ℕ} (ps : List (List Bool)) {xs : List ℕ} → numbers n ps ≡ xs → (v : ℕ) → v < n → get_or xs v 0 ≡ number_at ps v
number_of {n} ps is v h = ap (λ l. get_or l v 0) (sym is) ∙ get_or-numbers n ps v h

pub count_of : {n : ℕ} (ps : List (List Bool)) {xs : List ℕ} → numbers n ps ≡ xs → length xs ≡ n
count_of {n} ps is = ap length (sym is) ∙ length-numbers n ps

pub below_of : (ps : List (List Bool)) (v w : ℕ) → length ps ≡ w → number_at ps v < 2 ^ w
below_of ps v w long = subst (λ k. number_at ps v < 2 ^ k) long (number_at_lt ps v)

pub numbers_more : (k : ℕ) (ps : List (List Bool)) → numbers (k + 1) ps ≡ numbers k ps ++ number_at ps k ∷ []
unfolding numbers
numbers_more k ps = map-range_with_len_more (number_at ps) 0 k k (omega arith)

-- a list of as many numbers as are wanted behind the first ones
pub numbers_append : (k m : ℕ) (ps : List (List Bool)) (xs : List ℕ) → m ≤ length xs → ((i : ℕ) → i < m → get_or xs i 0 ≡ number_at ps (k + i)) → numbers k ps ++ take m xs ≡ numbers (k + m) ps
numbers_append k zero ps xs room each = append-nil (numbers k ps) ∙ ap (λ n. numbers n ps) (omega arith)
numbers_append k (suc m) ps xs room each =
    ap (λ l. numbers k ps ++ l) (take-suc xs m 0 (omega (arith, room)))
    ∙ sym (append_assoc (numbers k ps) (take m xs) (get_or xs m 0 ∷ []))
    ∙ ap (λ l. l ++ get_or xs m 0 ∷ []) (numbers_append k m ps xs (omega (arith, room)) (λ i h. each i (omega (arith, h))))
    ∙ ap (λ x. numbers (k + m) ps ++ x ∷ []) (each m (omega arith))
    ∙ sym (numbers_more (k + m) ps)
    ∙ ap (λ n. numbers n ps) (omega arith)

-- a merge at one place
merged_at : (b : Bool) (old new other : List (List Bool)) (bits v : ℕ) → bits ≤ length old → bits ≤ length other → number_at (take bits new) v ≡ cond b (number_at (take bits other) v) (number_at (take bits old) v) → drop bits new ≡ drop bits old → number_at new v ≡ cond b (put (number_at old v) (number_at other v) bits) (number_at old v)
merged_at true old new other bits v ho hx low high = number_at_put old new other bits v ho hx low high
merged_at false old new other bits v ho hx low high =
    omega (arith, number_at_split new bits v, number_at_split old bits v, low, ap (λ ps. 2 ^ bits * number_at ps v) high)

-- a merge of planes is a store under the mask
pub merged_are : (n bits : ℕ) (old new other : List (List Bool)) (xs : List ℕ) (mask : List Bool) → numbers n old ≡ xs → length mask ≡ length xs → bits ≤ length old → bits ≤ length other → ((v : ℕ) → v < length mask → number_at (take bits new) v ≡ cond (get_or mask v false) (number_at (take bits other) v) (number_at (take bits old) v)) → drop bits new ≡ drop bits old
    → numbers n new ≡ stored (length xs) (λ v. get_or mask v false) (λ v. get_or xs v 0) bits (number_at other)
merged_are n bits old new other xs mask is_xs xm ho hx low high =
    let nx : length xs ≡ n = count_of old is_xs in
    numbers_are n new _ (length-map-range_with_len _ 0 (length xs) ∙ nx) (λ v h.
    merged_at (get_or mask v false) old new other bits v ho hx (low v (omega arith)) high
    ∙ ap (λ x. cond (get_or mask v false) (put x (number_at other v) bits) x) (sym (number_of old is_xs v h))
    ∙ sym (get_or-map-range_with_len _ 0 (length xs) v v 0 (omega arith) (omega arith)))
