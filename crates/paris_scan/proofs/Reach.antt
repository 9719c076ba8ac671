-- How far back a line goes.
use Rattle.std.proofs.Common.{◌≡◌, ℕ, zero, suc, ◌+◌, ◌-◌, ◌*◌, ◌%◌, ◌<◌, ◌≢◌, Bool, true, false, ◌||◌, List, length, arith, ap, ◌∙◌, sym, refl, inl, inr}
use Rattle.std.proofs.lemmas.Bool.{cases_eq}
use Rattle.std.proofs.lemmas.Nat.{mod-mul-add}
use Rattle.std.proofs.Math.Nat.{mod-eq_of_lt}
use Rattle.paris_geometry.specs.declared.direction.Direction.{Direction}
use Rattle.paris_geometry.specs.declared.direction.Direction.TheVariants.{Upward, Downward}
use Rattle.paris_geometry.specs.Geometry.{stride, axis_length, processor_count, is_geometry, coordinate, neighbour, neighbour_coordinate}
use Rattle.paris_geometry.proofs.Strides.{stride_positive, geometry_powers}
use Rattle.paris_geometry.proofs.Neighbours.{coordinate_below, coordinate_given, ring_below}
use Rattle.paris_news.proofs.Steps.{up_inside, down_inside, neighbour_below}
use Rattle.paris_scan.specs.Runs.{before, begun_within, StartsLines, Reaches, first_coordinate}

-- a processor that begins no line has one before it, whose coordinate is the one before
pub record Behind (axes : List ℕ) (a : ℕ) (d : Direction) (v : ℕ) : Type 0 where
  pub reaches : Reaches d (stride axes a) (processor_count axes) v
  pub there : before d (stride axes a) v < processor_count axes

abbrev pub distance : List ℕ → ℕ → Direction → ℕ → ℕ
distance axes a Upward v = coordinate axes a v
distance axes a Downward v = axis_length axes a - 1 - coordinate axes a v

coordinate_next : (axes : List ℕ) (a : ℕ) (d : Direction) (v : ℕ) → is_geometry axes ≡ true → a < length axes → coordinate axes a (neighbour axes a d v) ≡ neighbour_coordinate d (axis_length axes a) (coordinate axes a v)
coordinate_next axes a d v sound within =
    coordinate_given axes a v (neighbour_coordinate d (axis_length axes a) (coordinate axes a v)) sound (ring_below d (axis_length axes a) (coordinate axes a v) (coordinate_below axes a v sound within))

pub behind : (axes : List ℕ) (a : ℕ) (d : Direction) (v : ℕ) → is_geometry axes ≡ true → a < length axes → v < processor_count axes → coordinate axes a v ≢ first_coordinate d (axis_length axes a) → Behind axes a d v
behind axes a Upward v sound within below apart =
    let some : 0 < stride axes a = stride_positive axes a (geometry_powers axes sound) in
    let own : coordinate axes a v < axis_length axes a = coordinate_below axes a v sound within in
    let not_first : 0 < coordinate axes a v = omega arith in
    let at : neighbour axes a Downward v + stride axes a ≡ v = down_inside axes a v some own not_first in
    record { reaches = omega arith; there = omega arith }
behind axes a Downward v sound within below apart =
    let some : 0 < stride axes a = stride_positive axes a (geometry_powers axes sound) in
    let own : coordinate axes a v < axis_length axes a = coordinate_below axes a v sound within in
    let at : neighbour axes a Upward v ≡ v + stride axes a = up_inside axes a v some (omega arith) in
    let there : neighbour axes a Upward v < processor_count axes = neighbour_below axes a Upward v sound within below in
    record { reaches = omega arith; there = omega arith }

-- and it is one nearer to the line's begin
pub nearer : (axes : List ℕ) (a : ℕ) (d : Direction) (v : ℕ) → is_geometry axes ≡ true → a < length axes → coordinate axes a v ≢ first_coordinate d (axis_length axes a) → distance axes a d (before d (stride axes a) v) + 1 ≡ distance axes a d v
nearer axes a Upward v sound within apart =
    let some : 0 < stride axes a = stride_positive axes a (geometry_powers axes sound) in
    let own : coordinate axes a v < axis_length axes a = coordinate_below axes a v sound within in
    let not_first : 0 < coordinate axes a v = omega arith in
    let at : neighbour axes a Downward v + stride axes a ≡ v = down_inside axes a v some own not_first in
    let back : v - stride axes a ≡ neighbour axes a Downward v = omega arith in
    let round : coordinate axes a v + axis_length axes a - 1 ≡ 1 * axis_length axes a + (coordinate axes a v - 1) = omega arith in
    let next : (coordinate axes a v + axis_length axes a - 1) % axis_length axes a ≡ coordinate axes a v - 1 = ap (λ x. x % axis_length axes a) round ∙ mod-mul-add 1 (axis_length axes a) (coordinate axes a v - 1) (omega arith) in
    let e : coordinate axes a (v - stride axes a) ≡ coordinate axes a v - 1 = ap (coordinate axes a) back ∙ coordinate_next axes a Downward v sound within ∙ next in
    omega (arith, e)
nearer axes a Downward v sound within apart =
    let some : 0 < stride axes a = stride_positive axes a (geometry_powers axes sound) in
    let own : coordinate axes a v < axis_length axes a = coordinate_below axes a v sound within in
    let inside : coordinate axes a v + 1 < axis_length axes a = omega arith in
    let at : neighbour axes a Upward v ≡ v + stride axes a = up_inside axes a v some inside in
    let next : (coordinate axes a v + 1) % axis_length axes a ≡ coordinate axes a v + 1 = mod-eq_of_lt inside in
    let e : coordinate axes a (v + stride axes a) ≡ coordinate axes a v + 1 = ap (coordinate axes a) (sym at) ∙ coordinate_next axes a Upward v sound within ∙ next in
    omega (arith, e)

none_of : (b c : Bool) → (b || c) ≡ false → (b ≡ false) × (c ≡ false)
none_of b c e = (grind arith, grind arith)

pub starts_at : (axes : List ℕ) (a : ℕ) (d : Direction) (f : ℕ → Bool) (v : ℕ) → StartsLines axes a d f → v < processor_count axes → f v ≡ false → coordinate axes a v ≢ first_coordinate d (axis_length axes a)
starts_at axes a d f v starts below none = λ e. (let t : f v ≡ true = starts v below e in cc)

reach_more : (d : Direction) (n s m v : ℕ) → Reaches d s n v → Reaches d (m * s) n (before d s v) → Reaches d (suc m * s) n v
reach_more Upward n s m v h g = (let e : suc m * s ≡ m * s + s = omega arith in omega (arith, h, g, e))
reach_more Downward n s m v h g = (let e : suc m * s ≡ m * s + s = omega arith in omega (arith, h, g, e))

reach_none : (d : Direction) (n s v : ℕ) → v < n → Reaches d (0 * s) n v
reach_none Upward n s v h = omega arith
reach_none Downward n s v h = omega arith

-- where no segment begins within m places, there are m places
pub reached : (axes : List ℕ) (a : ℕ) (d : Direction) (f : ℕ → Bool) (m v : ℕ) → is_geometry axes ≡ true → a < length axes → StartsLines axes a d f → v < processor_count axes → begun_within f d (stride axes a) m v ≡ false → Reaches d (m * stride axes a) (processor_count axes) v
unfolding begun_within
reached axes a d f zero v sound within starts below none = reach_none d (processor_count axes) (stride axes a) v below
reached axes a d f (suc m) v sound within starts below none =
    let s : ℕ = stride axes a in
    let both = none_of (f v) (begun_within f d s m (before d s v)) none in
    let b = behind axes a d v sound within below (starts_at axes a d f v starts below both.0) in
    reach_more d (processor_count axes) s m v b.reaches (reached axes a d f m (before d s v) sound within starts b.there both.1)

or_true : (b : Bool) → (b || true) ≡ true
or_true true = refl
or_true false = refl

-- a segment begins within the line
pub begun_near : (axes : List ℕ) (a : ℕ) (d : Direction) (f : ℕ → Bool) (m v : ℕ) → is_geometry axes ≡ true → a < length axes → StartsLines axes a d f → v < processor_count axes → distance axes a d v < m → begun_within f d (stride axes a) m v ≡ true
unfolding begun_within
begun_near axes a d f zero v sound within starts below near = absurd (omega arith)
begun_near axes a d f (suc m) v sound within starts below near =
    let s : ℕ = stride axes a in
    elim (cases_eq (coordinate axes a v) (first_coordinate d (axis_length axes a))) [
      | inl e ↦ ap (λ b. b || begun_within f d s m (before d s v)) (starts v below e)
      | inr n ↦
          let b = behind axes a d v sound within below n in
          ap (λ c. f v || c) (begun_near axes a d f m (before d s v) sound within starts b.there (omega (arith, near, nearer axes a d v sound within n)))
          ∙ or_true (f v)
    ]

pub distance_below : (axes : List ℕ) (a : ℕ) (d : Direction) (v : ℕ) → coordinate axes a v < axis_length axes a → distance axes a d v < axis_length axes a
distance_below axes a Upward v h = h
distance_below axes a Downward v h = omega arith

pub begun_in_line : (axes : List ℕ) (a : ℕ) (d : Direction) (f : ℕ → Bool) (v : ℕ) → is_geometry axes ≡ true → a < length axes → StartsLines axes a d f → v < processor_count axes → begun_within f d (stride axes a) (axis_length axes a) v ≡ true
begun_in_line axes a d f v sound within starts below =
    begun_near axes a d f (axis_length axes a) v sound within starts below (distance_below axes a d v (coordinate_below axes a v sound within))
