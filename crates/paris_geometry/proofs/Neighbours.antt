-- What a processor with another coordinate is: it is there, it has that coordinate, and one step and back along an axis is where one was.
use Rattle.std.proofs.Common.{inl, inr, ◌≡◌, ◌↔◌, ℕ, zero, suc, ◌+◌, ◌-◌, ◌*◌, ◌/◌, ◌%◌, ◌<◌, ◌≤◌, true, List, length, refl, sym, ap, ◌∙◌, arith}
use Rattle.std.proofs.Math.Nat.{mul_comm, mul-le-mul_right, div-lt_iff_lt-mul, mod-lt, mod-eq_of_lt, mod_self}
use Rattle.std.proofs.lemmas.Bool.{cases_lt}
use Rattle.std.proofs.lemmas.Nat.{div-add-mod', div-mul-add, mod-mul-add}
use Rattle.paris_geometry.specs.declared.direction.Direction.{Direction}
use Rattle.paris_geometry.specs.declared.direction.Direction.TheVariants.{Upward, Downward}
use Rattle.paris_geometry.specs.Geometry.{stride, axis_length, processor_count, is_geometry, coordinate, at_coordinate, opposite, neighbour_coordinate, neighbour}
use Rattle.paris_geometry.proofs.Strides.{above, count_parts, stride_positive, above_positive, length_positive, geometry_powers}

-- v with its digit in base n at weight s replaced by c
replaced : (s n v c : ℕ) → v - v / s % n * s + c * s ≡ (v / s / n * n + c) * s + v % s
replaced s n v c =
    let scaled : (v / s / n * n + v / s % n) * s ≡ v / s * s = ap (λ (x : ℕ). x * s) (div-add-mod' (v / s) n) in
    omega (arith, div-add-mod' v s, scaled)

digit : (s n v c : ℕ) → 0 < s → c < n → (v - v / s % n * s + c * s) / s % n ≡ c
digit s n v c some small =
    let rest : v % s < s = mod-lt v some in
    rw (replaced s n v c) (rw (div-mul-add (v / s / n * n + c) s (v % s) rest) (mod-mul-add (v / s / n) n c small))

digit_below : (s n r v c : ℕ) → 0 < s → 0 < n → v < r * n * s → c < n → v - v / s % n * s + c * s < r * n * s
digit_below s n r v c spos npos below small =
    let rest : v % s < s = mod-lt v spos in
    let front : v / s / n < r = (div-lt_iff_lt-mul npos).1 ((div-lt_iff_lt-mul spos).1 below) in
    let up : (v / s / n + 1) * n ≤ r * n = mul-le-mul_right n (let y : v / s / n + 1 ≤ r = omega arith in y) in
    let next : v / s / n * n + c + 1 ≤ r * n = omega (arith, up) in
    let high : (v / s / n * n + c + 1) * s ≤ r * n * s = mul-le-mul_right s next in
    rw (replaced s n v c) (omega (arith, high, rest))

pub count_is : (axes : List ℕ) (a : ℕ) → a < length axes → processor_count axes ≡ above axes a * axis_length axes a * stride axes a
count_is axes a within =
    count_parts axes a within
    ∙ mul_comm (stride axes a) (axis_length axes a * above axes a)
    ∙ ap (λ x. x * stride axes a) (mul_comm (axis_length axes a) (above axes a))

pub at_coordinate_below : (axes : List ℕ) (a v c : ℕ) → is_geometry axes ≡ true → a < length axes → v < processor_count axes → c < axis_length axes a → at_coordinate axes a v c < processor_count axes
at_coordinate_below axes a v c sound within below small =
    let powers = geometry_powers axes sound in
    let here : v < above axes a * axis_length axes a * stride axes a = rw (← count_is axes a within) below in
    rw (count_is axes a within) (digit_below (stride axes a) (axis_length axes a) (above axes a) v c (stride_positive axes a powers) (length_positive axes a powers within) here small)

-- a coordinate times its stride is below the count
pub scaled_below : (axes : List ℕ) (a c : ℕ) → is_geometry axes ≡ true → a < length axes → c < axis_length axes a → c * stride axes a ≤ processor_count axes
scaled_below axes a c sound within small =
    let some : 0 < above axes a = above_positive axes a (geometry_powers axes sound) in
    let one : 1 * axis_length axes a ≤ above axes a * axis_length axes a = mul-le-mul_right (axis_length axes a) some in
    let le : c ≤ above axes a * axis_length axes a = omega (arith, one) in
    rw (count_is axes a within) (mul-le-mul_right (stride axes a) le)

-- a line fits into its set
pub line_fits : (axes : List ℕ) (a : ℕ) → is_geometry axes ≡ true → a < length axes → axis_length axes a * stride axes a ≤ processor_count axes
line_fits axes a sound within =
    let some : 0 < above axes a = above_positive axes a (geometry_powers axes sound) in
    let one : 1 * axis_length axes a ≤ above axes a * axis_length axes a = mul-le-mul_right (axis_length axes a) some in
    let le : axis_length axes a ≤ above axes a * axis_length axes a = omega (arith, one) in
    rw (count_is axes a within) (mul-le-mul_right (stride axes a) le)

-- so does a stride
pub stride_fits : (axes : List ℕ) (a : ℕ) → is_geometry axes ≡ true → a < length axes → stride axes a ≤ processor_count axes
stride_fits axes a sound within =
    let some : 0 < axis_length axes a = length_positive axes a (geometry_powers axes sound) within in
    let one : 1 * stride axes a ≤ axis_length axes a * stride axes a = mul-le-mul_right (stride axes a) some in
    omega (arith, one, line_fits axes a sound within)

pub coordinate_below : (axes : List ℕ) (a v : ℕ) → is_geometry axes ≡ true → a < length axes → coordinate axes a v < axis_length axes a
coordinate_below axes a v sound within = mod-lt (v / stride axes a) (length_positive axes a (geometry_powers axes sound) within)

-- a processor that is given a coordinate has it
pub coordinate_given : (axes : List ℕ) (a v c : ℕ) → is_geometry axes ≡ true → c < axis_length axes a → coordinate axes a (at_coordinate axes a v c) ≡ c
coordinate_given axes a v c sound small = digit (stride axes a) (axis_length axes a) v c (stride_positive axes a (geometry_powers axes sound)) small

-- a processor with its own coordinate is itself
pub at_own_coordinate : (axes : List ℕ) (a v : ℕ) → at_coordinate axes a v (coordinate axes a v) ≡ v
at_own_coordinate axes a v =
    replaced (stride axes a) (axis_length axes a) v (coordinate axes a v)
    ∙ (let scaled : (v / stride axes a / axis_length axes a * axis_length axes a + v / stride axes a % axis_length axes a) * stride axes a ≡ v / stride axes a * stride axes a =
    ap (λ (x : ℕ). x * stride axes a) (div-add-mod' (v / stride axes a) (axis_length axes a)) in
    omega (arith, div-add-mod' v (stride axes a), scaled))

-- of two coordinates given one after the other the last stays
pub at_coordinate_again : (axes : List ℕ) (a v c d : ℕ) → is_geometry axes ≡ true → c < axis_length axes a → at_coordinate axes a (at_coordinate axes a v c) d ≡ at_coordinate axes a v d
at_coordinate_again axes a v c d sound small = rw (coordinate_given axes a v c sound small) (omega arith)

up_down : (n c : ℕ) → c < n → ((c + 1) % n + n - 1) % n ≡ c
up_down n c small =
    elim (cases_lt (c + 1) n) [
      | inl below ↦ (
          let step : (c + 1) % n ≡ c + 1 = mod-eq_of_lt below in
          let round : c + 1 + n - 1 ≡ 1 * n + c = omega arith in
          rw (step, round) (mod-mul-add 1 n c small))
      | inr above ↦ (
          let full : c + 1 ≡ n = omega arith in
          let step : (c + 1) % n ≡ 0 = ap (λ x. x % n) full ∙ mod_self n in
          let last : 0 + n - 1 ≡ c = omega arith in
          rw (step, last) (mod-eq_of_lt small))
    ]

down_up : (n c : ℕ) → c < n → ((c + n - 1) % n + 1) % n ≡ c
down_up n zero small =
    let first : 0 + n - 1 < n = omega arith in
    let full : 0 + n - 1 + 1 ≡ n = omega arith in
    rw (mod-eq_of_lt first, full) (mod_self n)
down_up n (suc c) small =
    let round : suc c + n - 1 ≡ 1 * n + c = omega arith in
    let within : c < n = omega arith in
    rw (round, mod-mul-add 1 n c within) (mod-eq_of_lt (let y : c + 1 < n = omega arith in y) ∙ (let e : c + 1 ≡ suc c = omega arith in e))

-- one step along a ring and one back
pub ring_back : (direction : Direction) (n c : ℕ) → c < n → neighbour_coordinate (opposite direction) n (neighbour_coordinate direction n c) ≡ c
ring_back Upward n c small = up_down n c small
ring_back Downward n c small = down_up n c small

pub ring_below : (direction : Direction) (n c : ℕ) → c < n → neighbour_coordinate direction n c < n
ring_below Upward n c small = mod-lt (c + 1) (let y : 0 < n = omega arith in y)
ring_below Downward n c small = mod-lt (c + n - 1) (let y : 0 < n = omega arith in y)

-- one step along an axis and one back
pub step_back : (axes : List ℕ) (a : ℕ) (direction : Direction) (v : ℕ) → is_geometry axes ≡ true → a < length axes → neighbour axes a (opposite direction) (neighbour axes a direction v) ≡ v
step_back axes a direction v sound within =
    let n = axis_length axes a in
    let own : coordinate axes a v < n = coordinate_below axes a v sound within in
    let next : neighbour_coordinate direction n (coordinate axes a v) < n = ring_below direction n (coordinate axes a v) own in
    at_coordinate_again axes a v (neighbour_coordinate direction n (coordinate axes a v)) (neighbour_coordinate (opposite direction) n (coordinate axes a (neighbour axes a direction v))) sound next
    ∙ ap (λ c. at_coordinate axes a v (neighbour_coordinate (opposite direction) n c)) (coordinate_given axes a v (neighbour_coordinate direction n (coordinate axes a v)) sound next)
    ∙ ap (at_coordinate axes a v) (ring_back direction n (coordinate axes a v) own)
    ∙ at_own_coordinate axes a v

opposite_twice : (direction : Direction) → opposite (opposite direction) ≡ direction
opposite_twice Upward = refl
opposite_twice Downward = refl

-- a receiver has one neighbour that sends to it
pub one_sender : (axes : List ℕ) (a : ℕ) (direction : Direction) (p r : ℕ) → is_geometry axes ≡ true → a < length axes → (neighbour axes a direction p ≡ r) ↔ (p ≡ neighbour axes a (opposite direction) r)
one_sender axes a direction p r sound within = (
  λ e. sym (step_back axes a direction p sound within) ∙ ap (neighbour axes a (opposite direction)) e,
  λ e. ap (neighbour axes a direction) e ∙ ap (λ d. neighbour axes a d (neighbour axes a (opposite direction) r)) (sym (opposite_twice direction)) ∙ step_back axes a (opposite direction) r sound within,
)
