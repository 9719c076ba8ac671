-- What comes from partners: of one plane more, and of all planes.
use Rattle.std.proofs.Common.{◌≡◌, ℕ, ◌+◌, ◌*◌, ◌^◌, ◌<◌, Bool, true, false, List, [], length, get_or, take, set, arith, ap, ◌∙◌, sym, refl, mul-one, add-one, subst}
use Rattle.std.proofs.Math.Nat.{pow-succ'}
use Rattle.paris_model.specs.Store.{bit}
use Rattle.paris_field.specs.Numbers.{AllOf, bit_in, has, number_at, plane_at}
use Rattle.paris_field.proofs.Numbers.{double, one_more, one_written, step_of_numbers}
use Rattle.paris_scan.specs.declared.partner.Partner.{Partner}
use Rattle.paris_scan.specs.declared.partner.Partner.TheVariants.{Before, Across}
use Rattle.paris_scan.specs.Brings.{Brings, SumBrought}
use Rattle.paris_scan.proofs.Carried.{none_number, same_number}

-- of no planes 0 comes
pub none_brought : (partner : Partner) (n v : ℕ) → Brings 0 partner n (number_at []) v 0
unfolding number_at
none_brought (Before direction by begun) n v = (λ e. refl, λ e reach. refl)
none_brought (Across distance) n v = (λ e h. refl, λ u e is. refl)

same_more : (ps : List (List Bool)) (k u x : ℕ) (p : List Bool) (b : Bool) → k < length ps → p ≡ plane_at ps k → x ≡ number_at (take k ps) u → b ≡ has p u → x + 2 ^ k * bit b ≡ number_at (take (k + 1) ps) u
same_more ps k u x p b h is low top =
    ap (λ t. t + 2 ^ k * bit b) low ∙ ap (λ t. number_at (take k ps) u + 2 ^ k * bit t) top ∙ sym (one_more ps k u p h is)

none_more : (k x : ℕ) (b : Bool) → x ≡ 0 → b ≡ false → x + 2 ^ k * bit b ≡ 0
none_more k x true low top = absurd (grind (arith, top))
none_more k x false low top = omega (arith, low)

pub brought_more : (partner : Partner) (n v k x : ℕ) (ps : List (List Bool)) (p : List Bool) (b : Bool) → k < length ps → p ≡ plane_at ps k → Brings 0 partner n (number_at (take k ps)) v x → Brings false partner n (has p) v b → Brings 0 partner n (number_at (take (k + 1) ps)) v (x + 2 ^ k * bit b)
brought_more (Before direction by begun) n v k x ps p b h is low top =
    (λ e. none_more k x b (low.0 e) (top.0 e), λ e reach. same_more ps k _ x p b h is (low.1 e reach) (top.1 e reach))
brought_more (Across distance) n v k x ps p b h is low top =
    (λ e below. same_more ps k _ x p b h is (low.0 e below) (top.0 e below), λ u e place. same_more ps k u x p b h is (low.1 u e place) (top.1 u e place))

-- numbers come by their planes
pub numbers_brought : (partner : Partner) (n v : ℕ) (source out : List (List Bool)) → length out ≡ length source
    → ((j : ℕ) → j < length out → Brings false partner n (has (plane_at source j)) v (get_or (plane_at out j) v false)) → Brings 0 partner n (number_at source) v (number_at out v)
numbers_brought (Before direction by begun) n v source out same each =
    (λ e. none_number out v (λ j h. (each j h).0 e), λ e reach. same_number out source v _ same (λ j h. (each j h).1 e reach))
numbers_brought (Across distance) n v source out same each =
    (λ e below. same_number out source v _ same (λ j h. (each j h).0 e below), λ u e place. same_number out source v u same (λ j h. (each j h).1 u e place))

below_twice : (p x : ℕ) (b : Bool) → x < p → x + p * bit b < 2 * p
below_twice p x true h = omega (arith, mul-one p)
below_twice p x false h = omega arith

-- of no planes, the number that is there comes to itself
pub none_added : (partner : Partner) (n v c : ℕ) (state old : List (List Bool)) → c ≡ 0 → SumBrought partner n (take 0 old) 0 v (number_at (take 0 state) v + 2 ^ 0 * c)
unfolding number_at
none_added partner n v c state old none = (0, (none_brought partner n v, (omega arith, omega (arith, none))))

-- a step of the sum of what comes and what is there: plane k of the sum is z, and d is carried
pub one_added : (partner : Partner) (n v k : ℕ) (state old : List (List Bool)) (s y c z d : List Bool) → k < length state → k < length old → y ≡ plane_at old k
    → bit_in z v + 2 * bit_in d v ≡ bit_in s v + bit_in y v + bit_in c v → Brings false partner n (has y) v (get_or s v false)
    → SumBrought partner n (take k old) k v (number_at (take k state) v + 2 ^ k * bit_in c v) → SumBrought partner n (take (k + 1) old) (k + 1) v (number_at (take (k + 1) (set state k z)) v + 2 ^ (k + 1) * bit_in d v)
one_added partner n v k state old s y c z d ins ino is bits comes sum =
    let x : ℕ = sum.0 in
    let twice : 2 ^ (k + 1) ≡ 2 * 2 ^ k = ap (λ m. 2 ^ m) (add-one k) ∙ pow-succ' 2 k in
    let before : number_at (take k state) v + 2 ^ k * bit_in c v ≡ x + number_at (take k old) v + 0 = omega (arith, sum.1.1.1) in (
      x + 2 ^ k * bit_in s v,
      (
        brought_more partner n v k x old y (get_or s v false) ino is sum.1.0 comes,
        (
          subst (λ m. x + 2 ^ k * bit_in s v < m) (sym twice) (below_twice (2 ^ k) x (get_or s v false) sum.1.1.0),
          omega (
            arith,
            one_written state k v z ins,
            one_more old k v y ino is,
            double k (bit_in d v),
            step_of_numbers (2 ^ k) (number_at (take k state) v) x (number_at (take k old) v) 0 (bit_in z v) (bit_in s v) (bit_in y v) (bit_in c v) (bit_in d v) bits before,
          ),
        ),
      ),
    )

-- planes that are as long as those that they came from
pub all_brought : (n : ℕ) (source out : List (List Bool)) → length out ≡ length source → AllOf n source → ((k : ℕ) → k < length source → length (plane_at out k) ≡ length (plane_at source k)) → AllOf n out
all_brought n source out same all each k h =
    let there : k < length source = omega (arith, h, same) in
    each k there ∙ all k there
