-- The low bits of results, from what the planes say exactly.
use Rattle.std.proofs.Common.{◌≡◌, ◌≤◌, ℕ, ◌+◌, ◌-◌, ◌*◌, ◌%◌, ◌^◌, ◌<◌, suc, List, Bool, true, false, ◌&&◌, length, take, arith, ◌∙◌, sym, ap, subst, eqb, ltb, mul-one}
use Rattle.std.proofs.Math.Nat.{add-mod_right}
use Rattle.std.proofs.lemmas.Bool.Decides.{nat_tests}
use Rattle.std.proofs.lemmas.Nat.{mod-mul-add}
use Rattle.std.proofs.lemmas.List.{length-take-le, take_all}
use Rattle.paris_model.specs.Store.{bit}
use Rattle.paris_field.specs.Numbers.{bit_in, number_at, plane_at}
use Rattle.paris_field.proofs.Numbers.{number_at_more, number_at_lt}

-- a number's top bit and the rest
pub top_split : (ps : List (List Bool)) (L v : ℕ) → 0 < L → length ps ≡ L → number_at ps v ≡ number_at (take (L - 1) ps) v + 2 ^ (L - 1) * bit_in (plane_at ps (L - 1)) v
top_split ps L v some long =
    ap (λ qs. number_at qs v) (sym (take_all (suc (L - 1)) ps (omega (arith, long, some))))
    ∙ number_at_more ps (L - 1) v (omega (arith, long, some))

pub low_lt : (ps : List (List Bool)) (k v : ℕ) → k ≤ length ps → number_at (take k ps) v < 2 ^ k
low_lt ps k v h = subst (λ m. number_at (take k ps) v < 2 ^ m) (length-take-le k ps h) (number_at_lt (take k ps) v)

pub mod_small : (m x : ℕ) → x < m → x % m ≡ x
mod_small m x h = ap (λ t. t % m) (omega arith) ∙ mod-mul-add 0 m x h

pub difference_mod : (m d x y : ℕ) (c : Bool) → d < m → x < m → y < m → x + m * bit c ≡ d + y → d ≡ (x + (m - y)) % m
difference_mod m d x y true hd hx hy e =
    let f : x + (m - y) ≡ d = omega (arith, e, mul-one m) in
    sym (ap (λ t. t % m) f ∙ mod_small m d hd)
difference_mod m d x y false hd hx hy e =
    let f : x + (m - y) ≡ d + m = omega (arith, e) in
    sym (ap (λ t. t % m) f ∙ add-mod_right d m ∙ mod_small m d hd)

pub difference_borrows : (m d x y : ℕ) (c : Bool) → d < m → x < m → y < m → x + m * bit c ≡ d + y → c ≡ ltb x y
difference_borrows m d x y true hd hx hy e = grind (arith, nat_tests, mul-one m)
difference_borrows m d x y false hd hx hy e = grind (arith, nat_tests)

pub opposite_mod : (m d x : ℕ) (c : Bool) → d < m → x < m → m * bit c ≡ d + x → d ≡ (m - x) % m
opposite_mod m d x true hd hx e =
    let f : m - x ≡ d = omega (arith, e, mul-one m) in
    sym (ap (λ t. t % m) f ∙ mod_small m d hd)
opposite_mod m d x false hd hx e =
    let f : m - x ≡ d + m = omega (arith, e) in
    sym (ap (λ t. t % m) f ∙ add-mod_right d m ∙ mod_small m d hd)

-- the least signed number is the one that has the top bit with its opposite
pub opposite_overflows : (p m xn dn : ℕ) (x d c : Bool) → m ≡ 2 * p → xn < p → dn < p → m * bit c ≡ (dn + p * bit d) + (xn + p * bit x) → (d && x) ≡ eqb (xn + p * bit x) p
opposite_overflows p m xn dn true true true half hx hd e = grind (arith, nat_tests, mul-one p, mul-one m)
opposite_overflows p m xn dn true true false half hx hd e = grind (arith, nat_tests, mul-one p, mul-one m)
opposite_overflows p m xn dn true false true half hx hd e = grind (arith, nat_tests, mul-one p, mul-one m)
opposite_overflows p m xn dn true false false half hx hd e = grind (arith, nat_tests, mul-one p, mul-one m)
opposite_overflows p m xn dn false true true half hx hd e = grind (arith, nat_tests, mul-one p, mul-one m)
opposite_overflows p m xn dn false true false half hx hd e = grind (arith, nat_tests, mul-one p, mul-one m)
opposite_overflows p m xn dn false false true half hx hd e = grind (arith, nat_tests, mul-one p, mul-one m)
opposite_overflows p m xn dn false false false half hx hd e = grind (arith, nat_tests, mul-one p, mul-one m)
