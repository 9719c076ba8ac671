-- A store keeps numbers below a power of two, and a list of n processors has n numbers.
use Rattle.std.proofs.Common.{◌≡◌, ℕ, ◌+◌, ◌-◌, ◌*◌, ◌/◌, ◌%◌, ◌^◌, ◌<◌, ◌≤◌, Bool, cond, List, [], ◌∷◌, ◌++◌, length, slice_index, sym, ap, ◌∙◌, arith}
use Rattle.std.proofs.lemmas.List.FromFn.{length-map-range_with_len, map-range_with_len_more, get_or-map-range_with_len, fill_by_all}
use Rattle.std.proofs.Math.Nat.{div-lt_iff_lt-mul, mul-le-mul_right}
use lib.Pow.{pow-add, pow_pos}
use Rattle.paris_model.specs.Store.{put, everywhere, stored}

pub length-everywhere : (n : ℕ) (f : ℕ → ℕ) → length (everywhere n f) ≡ n
length-everywhere n f = length-map-range_with_len f 0 n

put_below_product : (old x b m : ℕ) → 0 < b → old < m * b → old - old % b + x % b < m * b
put_below_product old x b m some small =
    let rest : x % b < b = omega arith in
    let parts : old - old % b ≡ old / b * b = omega arith in
    let front : old / b < m = (div-lt_iff_lt-mul some).1 small in
    let up : (old / b + 1) * b ≤ m * b = mul-le-mul_right b (let y : old / b + 1 ≤ m = omega arith in y) in
    omega (arith, up, parts, rest)

-- a number of W bits stays one, when L of its bits are stored
pub put_below : (old x L W : ℕ) → L ≤ W → old < 2 ^ W → put old x L < 2 ^ W
put_below old x L W within small =
    let whole : 2 ^ W ≡ 2 ^ (W - L) * 2 ^ L = ap (λ (n : ℕ). 2 ^ n) (let e : W ≡ (W - L) + L = omega arith in e) ∙ pow-add 2 (W - L) L in
    let fits : old < 2 ^ (W - L) * 2 ^ L = rw (← whole) small in
    rw whole (put_below_product old x (2 ^ L) (2 ^ (W - L)) (pow_pos L) fits)

-- one processor more
pub push_everywhere : (xs ys : List ℕ) (n : ℕ) (f : ℕ → ℕ) (x : ℕ) → xs ≡ everywhere n f → ys ≡ xs ++ x ∷ [] → x ≡ f n → ys ≡ everywhere (n + 1) f
push_everywhere xs ys n f x so_far pushed is =
    pushed ∙ ap (λ zs. zs ++ x ∷ []) so_far ∙ ap (λ z. everywhere n f ++ z ∷ []) is ∙ sym (map-range_with_len_more f 0 n n (omega arith))

-- lists of the same numbers in each processor
pub everywhere-same : (n : ℕ) (f g : ℕ → ℕ) → ((v : ℕ) → v < n → f v ≡ g v) → everywhere n f ≡ everywhere n g
everywhere-same n f g same =
    fill_by_all g (everywhere n f) n 0 (length-everywhere n f)
    (λ v below. get_or-map-range_with_len f 0 n v v 0 below (omega arith) ∙ same v below)

pub everywhere-at : (n : ℕ) (f : ℕ → ℕ) (v : ℕ) → v < n → slice_index (everywhere n f) v ≡ f v
everywhere-at n f v below = get_or-map-range_with_len f 0 n v v 0 below (omega arith)

-- what is stored hangs on the new numbers of the processors alone
pub stored-same : (n : ℕ) (who : ℕ → Bool) (old : ℕ → ℕ) (L : ℕ) (f g : ℕ → ℕ) → ((v : ℕ) → v < n → f v ≡ g v) → stored n who old L f ≡ stored n who old L g
stored-same n who old L f g same = everywhere-same n _ _ (λ v below. ap (λ x. cond (who v) (put (old v) x L) (old v)) (same v below))
