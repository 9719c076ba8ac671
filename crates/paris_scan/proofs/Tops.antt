-- The highest of some planes, and the number that the others hold.
use Rattle.std.proofs.Common.{◌≡◌, ◌≤◌, ℕ, ◌+◌, ◌-◌, ◌*◌, ◌^◌, ◌<◌, suc, List, Bool, length, take, arith, ◌∙◌, sym, ap, subst}
use Rattle.std.proofs.lemmas.List.{length-take-le, take_all}
use Rattle.paris_field.specs.Numbers.{bit_in, number_at, plane_at}
use Rattle.paris_field.proofs.Numbers.{number_at_more, number_at_lt}

-- a number's top bit and the rest
pub top_split : (ps : List (List Bool)) (L v : ℕ) → 0 < L → length ps ≡ L → number_at ps v ≡ number_at (take (L - 1) ps) v + 2 ^ (L - 1) * bit_in (plane_at ps (L - 1)) v
top_split ps L v some long =
    ap (λ qs. number_at qs v) (sym (take_all (suc (L - 1)) ps (omega (arith, long, some))))
    ∙ number_at_more ps (L - 1) v (omega (arith, long, some))

pub low_lt : (ps : List (List Bool)) (k v : ℕ) → k ≤ length ps → number_at (take k ps) v < 2 ^ k
low_lt ps k v h = subst (λ m. number_at (take k ps) v < 2 ^ m) (length-take-le k ps h) (number_at_lt (take k ps) v)

-- the top plane of L + 1
pub split_at : (L v : ℕ) (ps : List (List Bool)) → length ps ≡ L + 1 → number_at ps v ≡ number_at (take L ps) v + 2 ^ L * bit_in (plane_at ps L) v
split_at L v ps long =
    let same : L + 1 - 1 ≡ L = omega arith in
    top_split ps (L + 1) v (omega arith) long ∙ ap (λ k. number_at (take k ps) v + 2 ^ k * bit_in (plane_at ps k) v) same

-- all planes
pub whole : (k v : ℕ) (ps : List (List Bool)) → length ps ≡ k → number_at (take k ps) v ≡ number_at ps v
whole k v ps long = ap (λ qs. number_at qs v) (take_all k ps (omega (arith, long)))
