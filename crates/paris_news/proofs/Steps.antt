-- Where the neighbour of a processor lies.
use Rattle.std.proofs.Common.{◌≡◌, ℕ, ◌+◌, ◌-◌, ◌*◌, ◌/◌, ◌%◌, ◌<◌, ◌≤◌, true, List, length, arith, ap, ◌∙◌}
use Rattle.std.proofs.Math.Nat.{mod-eq_of_lt, mod_self, mul-le-mul_right, one-mul}
use Rattle.std.proofs.lemmas.Nat.{div-add-mod', mod-mul-add}
use Rattle.paris_geometry.specs.declared.direction.Direction.{Direction}
use Rattle.paris_geometry.specs.declared.direction.Direction.TheVariants.{Upward, Downward}
use Rattle.paris_geometry.specs.Geometry.{stride, axis_length, processor_count, is_geometry, coordinate, neighbour, neighbour_coordinate}
use Rattle.paris_geometry.proofs.Neighbours.{at_coordinate_below, coordinate_below, ring_below}

pub neighbour_below : (axes : List ℕ) (a : ℕ) (direction : Direction) (v : ℕ) → is_geometry axes ≡ true → a < length axes → v < processor_count axes → neighbour axes a direction v < processor_count axes
neighbour_below axes a direction v sound within below =
    at_coordinate_below axes a v (neighbour_coordinate direction (axis_length axes a) (coordinate axes a v)) sound within below
    (ring_below direction (axis_length axes a) (coordinate axes a v) (coordinate_below axes a v sound within))

-- a processor lies at least its coordinate times the stride up
pub up_of : (axes : List ℕ) (a v : ℕ) → 0 < stride axes a → coordinate axes a v * stride axes a ≤ v
up_of axes a v some =
    let small : coordinate axes a v ≤ v / stride axes a = omega (arith, div-add-mod' (v / stride axes a) (axis_length axes a)) in
    omega (arith, mul-le-mul_right (stride axes a) small, div-add-mod' v (stride axes a))

pub one_more : (c s : ℕ) → (c + 1) * s ≡ c * s + s
one_more c s = omega (arith, one-mul s)

-- one step up, within the line and from its end
pub up_inside : (axes : List ℕ) (a v : ℕ) → 0 < stride axes a → coordinate axes a v + 1 < axis_length axes a → neighbour axes a Upward v ≡ v + stride axes a
up_inside axes a v some h =
    let low : coordinate axes a v * stride axes a ≤ v = up_of axes a v some in
    let next : (coordinate axes a v + 1) % axis_length axes a ≡ coordinate axes a v + 1 = mod-eq_of_lt h in
    ap (λ c. v - coordinate axes a v * stride axes a + c * stride axes a) next
    ∙ (let e : v - coordinate axes a v * stride axes a + (coordinate axes a v + 1) * stride axes a ≡ v + stride axes a = omega (arith, one_more (coordinate axes a v) (stride axes a)) in e)

pub up_end : (axes : List ℕ) (a v : ℕ) → 0 < stride axes a → coordinate axes a v + 1 ≡ axis_length axes a → neighbour axes a Upward v + (axis_length axes a - 1) * stride axes a ≡ v
up_end axes a v some h =
    let low : coordinate axes a v * stride axes a ≤ v = up_of axes a v some in
    let next : (coordinate axes a v + 1) % axis_length axes a ≡ 0 = ap (λ x. x % axis_length axes a) h ∙ mod_self (axis_length axes a) in
    let own : axis_length axes a - 1 ≡ coordinate axes a v = omega arith in
    let there : neighbour axes a Upward v ≡ v - coordinate axes a v * stride axes a + 0 * stride axes a = ap (λ c. v - coordinate axes a v * stride axes a + c * stride axes a) next in
    ap (λ c. neighbour axes a Upward v + c * stride axes a) own ∙ ap (λ x. x + coordinate axes a v * stride axes a) there
    ∙ (let e : v - coordinate axes a v * stride axes a + 0 * stride axes a + coordinate axes a v * stride axes a ≡ v = omega arith in e)

-- one step down
pub down_inside : (axes : List ℕ) (a v : ℕ) → 0 < stride axes a → coordinate axes a v < axis_length axes a → 0 < coordinate axes a v → neighbour axes a Downward v + stride axes a ≡ v
down_inside axes a v some within h =
    let low : coordinate axes a v * stride axes a ≤ v = up_of axes a v some in
    let round : coordinate axes a v + axis_length axes a - 1 ≡ 1 * axis_length axes a + (coordinate axes a v - 1) = omega arith in
    let next : (coordinate axes a v + axis_length axes a - 1) % axis_length axes a ≡ coordinate axes a v - 1 = ap (λ x. x % axis_length axes a) round ∙ mod-mul-add 1 (axis_length axes a) (coordinate axes a v - 1) (omega arith) in
    let there : neighbour axes a Downward v ≡ v - coordinate axes a v * stride axes a + (coordinate axes a v - 1) * stride axes a = ap (λ c. v - coordinate axes a v * stride axes a + c * stride axes a) next in
    let back : coordinate axes a v ≡ coordinate axes a v - 1 + 1 = omega arith in
    let more : coordinate axes a v * stride axes a ≡ (coordinate axes a v - 1) * stride axes a + stride axes a = ap (λ c. c * stride axes a) back ∙ one_more (coordinate axes a v - 1) (stride axes a) in
    omega (arith, there, more, low)

pub down_end : (axes : List ℕ) (a v : ℕ) → coordinate axes a v ≡ 0 → 0 < axis_length axes a → neighbour axes a Downward v ≡ v + (axis_length axes a - 1) * stride axes a
down_end axes a v h within =
    let first : coordinate axes a v + axis_length axes a - 1 ≡ axis_length axes a - 1 = omega arith in
    let next : (coordinate axes a v + axis_length axes a - 1) % axis_length axes a ≡ axis_length axes a - 1 = ap (λ x. x % axis_length axes a) first ∙ mod-eq_of_lt (let y : axis_length axes a - 1 < axis_length axes a = omega arith in y) in
    ap (λ c. v - c * stride axes a + (coordinate axes a v + axis_length axes a - 1) % axis_length axes a * stride axes a) h
    ∙ ap (λ c. v - 0 * stride axes a + c * stride axes a) next
    ∙ (let e : v - 0 * stride axes a + (axis_length axes a - 1) * stride axes a ≡ v + (axis_length axes a - 1) * stride axes a = omega arith in e)
