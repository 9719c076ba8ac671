-- A total that grows by a digit with each plane.
use Rattle.std.proofs.Common.{◌≡◌, ℕ, suc, ◌+◌, ◌-◌, ◌*◌, ◌^◌, ◌<◌, ◌≤◌, List, [], ◌∷◌, Bool, false, get_or, length, drop, map, arith, ◌∙◌, sym, ap, refl, subst}
use Rattle.std.specs.Prelude.{fold}
use Rattle.std.specs.List.{filter, range_with_len}
use Rattle.std.proofs.Math.Nat.{pow-succ'}
use lib.Pow.{pow_mono}
use Rattle.paris_model.specs.Lines.{values_where}
use Rattle.paris_field.specs.Numbers.{bit_in, number_at, plane_at}
use Rattle.paris_field.proofs.Numbers.{below_two, none_above, number_at_from}
use Rattle.paris_counts.proofs.Digits.{ByDigit, IsClosed, fold_digits}

pub rises : (n k t d : ℕ) → 0 < k → k ≤ n → t < 2 ^ (n - k) → d < 2 → 2 * t + d < 2 ^ (n - (k - 1))
rises n k t d some within small digit =
    let e : suc (n - k) ≡ n - (k - 1) = omega arith in
    subst (λ m. 2 * t + d < 2 ^ m) e (omega (arith, pow-succ' 2 (n - k), small, digit))

pub has_room : (n k t d : ℕ) → 0 < k → k ≤ n → n ≤ 128 → t < 2 ^ (n - k) → d < 2 → 2 * t + d < 2 ^ 128
has_room n k t d some within narrow small digit =
    let least : n - (k - 1) ≤ 128 = omega arith in
    omega (arith, rises n k t d some within small digit, pow_mono least)

-- with no planes
zeros_folded : (op : ℕ → ℕ → ℕ) → op 0 0 ≡ 0 → (f : ℕ → ℕ) → ((u : ℕ) → f u ≡ 0) → (us : List ℕ) → 0 ≡ fold op 0 (map f us)
zeros_folded op none f each [] = refl
zeros_folded op none f each (u ∷ us) = zeros_folded op none f each us ∙ ap (λ z. fold op z (map f us)) (sym (ap (op 0) (each u) ∙ none))

pub none_folded : (op : ℕ → ℕ → ℕ) → op 0 0 ≡ 0 → (who : ℕ → Bool) (ps : List (List Bool)) (a n : ℕ) → 0 ≡ fold op 0 (values_where who (number_at (drop (length ps) ps)) (range_with_len a n))
none_folded op none who ps a n = zeros_folded op none (number_at (drop (length ps) ps)) (none_above ps) (filter who (range_with_len a n))

-- with one plane more
pub one_more : (op : ℕ → ℕ → ℕ) → ByDigit op → IsClosed op → (who : ℕ → Bool) (ps : List (List Bool)) (k a n t : ℕ) (x : List Bool) → k < length ps → x ≡ plane_at ps k
    → t ≡ fold op 0 (values_where who (number_at (drop (k + 1) ps)) (range_with_len a n))
    → fold op 0 (values_where who (number_at (drop k ps)) (range_with_len a n)) ≡ t * 2 + fold op 0 (values_where who (bit_in x) (range_with_len a n))
one_more op by closed who ps k a n t x below at before =
    fold_digits op by closed (bit_in x) (number_at (drop (k + 1) ps)) (number_at (drop k ps)) (λ u. number_at_from ps k u x below at) (λ u. below_two (get_or x u false)) (filter who (range_with_len a n)) 0 0 (omega arith)
    ∙ ap (λ s. s * 2 + fold op 0 (values_where who (bit_in x) (range_with_len a n))) (sym before)
