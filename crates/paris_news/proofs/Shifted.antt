-- A plane that was shifted along an axis.
use Rattle.std.proofs.Common.{◌≡◌, ℕ, ◌+◌, ◌-◌, ◌*◌, ◌%◌, ◌^◌, ◌<◌, ◌≤◌, ◌++◌, true, false, Bool, List, [], ◌∷◌, length, get_or, replicate, take, arith, ap, ◌∙◌, sym, subst, inl, inr}
use Rattle.std.specs.Int.{IsPowerOfTwo}
use Rattle.std.proofs.Math.Nat.{mod-lt, mul-le-mul_right, mul-pos, one-mul}
use Rattle.std.proofs.lemmas.Bool.{cases_eq}
use Rattle.std.proofs.lemmas.List.{length-replicate, get_or-replicate}
use Rattle.std.proofs.lemmas.Nat.{mod-mul-add}
use Rattle.paris_geometry.specs.declared.direction.Direction.{Direction}
use Rattle.paris_geometry.specs.declared.direction.Direction.TheVariants.{Upward, Downward}
use Rattle.paris_geometry.specs.Geometry.{stride, axis_length, processor_count, is_geometry, coordinate, neighbour}
use Rattle.paris_geometry.proofs.Strides.{above, count_parts, geometry_powers, length_positive, stride_positive}
use Rattle.paris_geometry.proofs.Powers.{length_power, power_times, stride_power}
use Rattle.paris_geometry.proofs.Neighbours.{coordinate_below}
use Rattle.paris_model.specs.Store.{bit}
use Rattle.paris_field.specs.Numbers.{bit_in, number_at, plane_at}
use Rattle.paris_field.proofs.Numbers.{one_more as number_more}
use Rattle.paris_field.specs.Numbers.{bits_everywhere}
use Rattle.paris_field.proofs.Places.{plane_is, get_or-bits_everywhere, number_pushed}
use Rattle.paris_news.proofs.Periods.{place_in}
use Rattle.paris_news.proofs.Steps.{neighbour_below, one_more, up_inside, up_end, down_inside, down_end}

-- the lines along an axis are whole periods of the processors
pub whole_lines : (axes : List ℕ) (a s period : ℕ) → is_geometry axes ≡ true → a < length axes → s ≡ stride axes a → period ≡ axis_length axes a * s → processor_count axes % period ≡ 0
whole_lines axes a s period sound within es ep =
    let powers = geometry_powers axes sound in
    let some : 0 < axis_length axes a * stride axes a = mul-pos (length_positive axes a powers within) (stride_positive axes a powers) in
    let e : period ≡ axis_length axes a * stride axes a = ep ∙ ap (λ x. axis_length axes a * x) es in
    let sum : processor_count axes ≡ above axes a * (axis_length axes a * stride axes a) + 0 = omega (arith, count_parts axes a within) in
    ap (λ x. x % period) sum ∙ ap (λ p. (above axes a * (axis_length axes a * stride axes a) + 0) % p) e
    ∙ mod-mul-add (above axes a) (axis_length axes a * stride axes a) 0 some

pub period_power : (axes : List ℕ) (a s period : ℕ) → is_geometry axes ≡ true → a < length axes → s ≡ stride axes a → period ≡ axis_length axes a * s → IsPowerOfTwo period
period_power axes a s period sound within es ep =
    subst IsPowerOfTwo (sym (ep ∙ ap (λ x. axis_length axes a * x) es)) (power_times (axis_length axes a) (stride axes a) (length_power axes a sound within) (stride_power axes a sound))

pub within_period : (axes : List ℕ) (a s period : ℕ) → is_geometry axes ≡ true → a < length axes → period ≡ axis_length axes a * s → s ≤ period
within_period axes a s period sound within ep =
    let some : 1 ≤ axis_length axes a = length_positive axes a (geometry_powers axes sound) within in
    omega (arith, ep, one-mul s, mul-le-mul_right s some)

-- a plane whose lines were turned down, and up
pub record TurnedDown (n by period : ℕ) (source out : List Bool) : Type 0 where
  pub long : length out ≡ n
  pub inside : (v : ℕ) → v < n → v % period + by < period → get_or out v false ≡ get_or source (v + by) false
  pub round : (v : ℕ) → v < n → period ≤ v % period + by → get_or out v false ≡ get_or source (v + by - period) false

pub record TurnedUp (n by period : ℕ) (source out : List Bool) : Type 0 where
  pub long : length out ≡ n
  pub inside : (v : ℕ) → v < n → by ≤ v % period → get_or out v false ≡ get_or source (v - by) false
  pub round : (v : ℕ) → v < n → v % period < by → get_or out v false ≡ get_or source (v + (period - by)) false

pub shifted_up : (axes : List ℕ) (a : ℕ) (source out : List Bool) → is_geometry axes ≡ true → a < length axes → TurnedDown (processor_count axes) (stride axes a) (axis_length axes a * stride axes a) source out → out ≡ bits_everywhere (processor_count axes) (λ v. get_or source (neighbour axes a Upward v) false)
shifted_up axes a source out sound within turned =
    let n : ℕ = axis_length axes a in
    let s : ℕ = stride axes a in
    let powers = geometry_powers axes sound in
    let some : 0 < s = stride_positive axes a powers in
    let full : 0 < n = length_positive axes a powers within in
    plane_is out (processor_count axes) (λ v. get_or source (neighbour axes a Upward v) false) turned.long (λ v below.
    let own : coordinate axes a v < n = coordinate_below axes a v sound within in
    let place : v % (n * s) ≡ coordinate axes a v * s + v % s = place_in s n v some full in
    let rest : v % s < s = mod-lt v some in
    let next : (coordinate axes a v + 1) * s ≡ coordinate axes a v * s + s = one_more (coordinate axes a v) s in
    elim (cases_eq (coordinate axes a v + 1) n) [
      | inl last_one ↦
          let end : n * s ≡ coordinate axes a v * s + s = ap (λ x. x * s) (sym last_one) ∙ next in
          let low : (n - 1) * s ≡ coordinate axes a v * s = ap (λ x. x * s) (omega (arith, last_one)) in
          let at : neighbour axes a Upward v + (n - 1) * s ≡ v = up_end axes a v some last_one in
          turned.round v below (omega (arith, place, end))
          ∙ ap (λ u. get_or source u false) (omega (arith, at, end, low))
      | inr apart ↦
          let more : coordinate axes a v + 1 < n = omega (arith, own, apart) in
          let after : (coordinate axes a v + 1 + 1) * s ≤ n * s = mul-le-mul_right s (let y : coordinate axes a v + 1 + 1 ≤ n = omega arith in y) in
          let at : neighbour axes a Upward v ≡ v + s = up_inside axes a v some more in
          turned.inside v below (omega (arith, place, rest, next, after, one_more (coordinate axes a v + 1) s))
          ∙ ap (λ u. get_or source u false) (sym at)
    ])

pub shifted_down : (axes : List ℕ) (a : ℕ) (source out : List Bool) → is_geometry axes ≡ true → a < length axes → TurnedUp (processor_count axes) (stride axes a) (axis_length axes a * stride axes a) source out → out ≡ bits_everywhere (processor_count axes) (λ v. get_or source (neighbour axes a Downward v) false)
shifted_down axes a source out sound within turned =
    let n : ℕ = axis_length axes a in
    let s : ℕ = stride axes a in
    let powers = geometry_powers axes sound in
    let some : 0 < s = stride_positive axes a powers in
    let full : 0 < n = length_positive axes a powers within in
    plane_is out (processor_count axes) (λ v. get_or source (neighbour axes a Downward v) false) turned.long (λ v below.
    let own : coordinate axes a v < n = coordinate_below axes a v sound within in
    let place : v % (n * s) ≡ coordinate axes a v * s + v % s = place_in s n v some full in
    let rest : v % s < s = mod-lt v some in
    elim (cases_eq (coordinate axes a v) 0) [
      | inl first_one ↦
          let none : coordinate axes a v * s ≡ 0 * s = ap (λ x. x * s) first_one in
          let whole : n * s ≡ (n - 1) * s + s = ap (λ x. x * s) (omega (arith, full)) ∙ one_more (n - 1) s in
          let at : neighbour axes a Downward v ≡ v + (n - 1) * s = down_end axes a v first_one full in
          turned.round v below (omega (arith, place, rest, none))
          ∙ ap (λ u. get_or source u false) (omega (arith, at, whole))
      | inr apart ↦
          let more : 0 < coordinate axes a v = omega (arith, apart) in
          let least : 1 * s ≤ coordinate axes a v * s = mul-le-mul_right s more in
          let at : neighbour axes a Downward v + s ≡ v = down_inside axes a v some own more in
          turned.inside v below (omega (arith, place, least))
          ∙ ap (λ u. get_or source u false) (omega (arith, at))
    ])

-- the same, where the direction is known by an equation, and the stride and the period by others
abbrev pub ShiftIs : List ℕ → ℕ → Direction → List Bool → List Bool → Type 0
ShiftIs axes a direction source out = out ≡ bits_everywhere (processor_count axes) (λ v. get_or source (neighbour axes a direction v) false)

pub shifted_upward : (axes : List ℕ) (a : ℕ) (direction : Direction) (s period : ℕ) (source out : List Bool) → direction ≡ Upward → is_geometry axes ≡ true → a < length axes → s ≡ stride axes a → period ≡ axis_length axes a * s → TurnedDown (processor_count axes) s period source out → ShiftIs axes a direction source out
shifted_upward axes a direction s period source out d sound within es ep turned =
    let ep2 : period ≡ axis_length axes a * stride axes a = ep ∙ ap (λ x. axis_length axes a * x) es in
    subst (λ x. ShiftIs axes a x source out) (sym d)
    (shifted_up axes a source out sound within (subst (λ p. TurnedDown (processor_count axes) (stride axes a) p source out) ep2 (subst (λ x. TurnedDown (processor_count axes) x period source out) es turned)))

pub shifted_downward : (axes : List ℕ) (a : ℕ) (direction : Direction) (s period : ℕ) (source out : List Bool) → direction ≡ Downward → is_geometry axes ≡ true → a < length axes → s ≡ stride axes a → period ≡ axis_length axes a * s → TurnedUp (processor_count axes) s period source out → ShiftIs axes a direction source out
shifted_downward axes a direction s period source out d sound within es ep turned =
    let ep2 : period ≡ axis_length axes a * stride axes a = ep ∙ ap (λ x. axis_length axes a * x) es in
    subst (λ x. ShiftIs axes a x source out) (sym d)
    (shifted_down axes a source out sound within (subst (λ p. TurnedUp (processor_count axes) (stride axes a) p source out) ep2 (subst (λ x. TurnedUp (processor_count axes) x period source out) es turned)))

-- one plane more of a value whose planes are those of `source` in other places
pub moved_more : (n k v u : ℕ) (source ps qs : List (List Bool)) (x out : List Bool) → k < length source → x ≡ plane_at source k → length ps ≡ k → qs ≡ ps ++ out ∷ [] → get_or out v false ≡ get_or x u false → number_at ps v ≡ number_at (take k source) u → number_at qs v ≡ number_at (take (k + 1) source) u
moved_more n k v u source ps qs x out h ex long pushed same before =
    ap (λ l. number_at l v) pushed ∙ number_pushed ps out v
    ∙ ap (λ t. t + 2 ^ length ps * bit_in out v) before
    ∙ ap (λ j. number_at (take k source) u + 2 ^ j * bit_in out v) long
    ∙ ap (λ b. number_at (take k source) u + 2 ^ k * bit b) same
    ∙ sym (number_more source k u x h ex)

pub shifted_bit : (n v : ℕ) (f : ℕ → Bool) (out : List Bool) → out ≡ bits_everywhere n f → v < n → get_or out v false ≡ f v
shifted_bit n v f out is h = ap (λ l. get_or l v false) is ∙ get_or-bits_everywhere n f v h

-- what is one bit throughout comes to the same
pub shifted_same : (axes : List ℕ) (a : ℕ) (direction : Direction) (n : ℕ) (bit : Bool) (source : List Bool) → is_geometry axes ≡ true → a < length axes → n ≡ processor_count axes → length source ≡ processor_count axes → source ≡ replicate (length source) bit → ShiftIs axes a direction source (replicate n bit)
shifted_same axes a direction n bit source sound within count long same =
    plane_is (replicate n bit) (processor_count axes) (λ v. get_or source (neighbour axes a direction v) false) (length-replicate n bit ∙ count) (λ v h.
    let there : neighbour axes a direction v < length source = omega (arith, neighbour_below axes a direction v sound within h, long) in
    get_or-replicate n v bit false (omega (arith, h, count))
    ∙ sym (ap (λ l. get_or l (neighbour axes a direction v) false) same ∙ get_or-replicate (length source) (neighbour axes a direction v) bit false there))
