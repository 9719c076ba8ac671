-- Sums of neighbours, a block of processors at a time.
use Rattle.std.proofs.Common.{◌≡◌, ◌≢◌, ℕ, ◌+◌, ◌-◌, ◌*◌, ◌/◌, ◌^◌, ◌<◌, ◌≤◌, ◌&&◌, ◌||◌, Bool, not, true, false, cond, bit_and, leb, arith, ap, ◌∙◌, sym, subst, refl}
use Rattle.std.proofs.Math.Nat.{zero-mod}
use lib.Pow.{pow_pos}
use Rattle.std.proofs.lemmas.Bool.Decides.{nat_tests}
use Rattle.paris_geometry.specs.declared.direction.Direction.{Direction}
use Rattle.paris_geometry.specs.declared.direction.Direction.TheVariants.{Upward, Downward}
use Rattle.paris_model.specs.Store.{low}
use Rattle.paris_scan.specs.Running.{HasBefore, HeldBefore, IsKept, first_place, processors_of, walked}
use Rattle.paris_scan.specs.Runs.{before}
use Rattle.paris_scan.proofs.OneByOne.{forward, low_next, over_next}

-- the place of a processor of a block, among all places
pub in_block : (d : Direction) (n block place : ℕ) → place < processors_of n block → walked d n (first_place d n block + place) ≡ 64 * block + walked d (processors_of n block) place
in_block Upward n block place h = refl
in_block Downward n block place h = omega (arith, h)

pub place_below : (d : Direction) (n block place : ℕ) → place < processors_of n block → first_place d n block + place < n
place_below Upward n block place h = omega (arith, h)
place_below Downward n block place h = omega (arith, h)

-- the places of a block are followed by those of the next one
pub next_block : (d : Direction) (n blocks place : ℕ) → n ≤ 64 * blocks → 64 * blocks < n + 64 → place + 1 < blocks → first_place d n (walked d blocks place) + processors_of n (walked d blocks place) ≡ first_place d n (walked d blocks (place + 1))
next_block Upward n blocks place above below h = omega (arith, above, below, h)
next_block Downward n blocks place above below h = omega (arith, above, below, h)

pub no_place : (d : Direction) (n blocks : ℕ) → n ≤ 64 * blocks → first_place d n (walked d blocks 0) ≡ 0
no_place Upward n blocks above = refl
no_place Downward n blocks above = omega (arith, above)

-- the one before a neighbour is at the place before
pub neighbour_before : (d : Direction) (n place : ℕ) → place < n → HasBefore d 1 n (walked d n place) → (0 < place) × (before d 1 (walked d n place) ≡ walked d n (place - 1))
neighbour_before Upward n place h has = (let b : 1 ≤ place = has.0 refl in (omega (arith, b), refl))
neighbour_before Downward n place h has = (let b : (n - 1 - place) + 1 < n = has.1 refl in (omega (arith, h, b), omega (arith, h, b)))

-- what is held is of the value of the one before, where a run doesn't begin
pub held_from : (Held : ℕ → Type 0) (d : Direction) (n place v : ℕ) (begins : ℕ → Bool) (values : ℕ → ℕ) → place < n → v ≡ walked d n place → (begins v ≡ false → HasBefore d 1 n v) → HeldBefore Held d n values place → begins v ≡ false → Held (values (before d 1 v))
held_from Held d n place v begins values h is reach held none =
    let near = neighbour_before d n place h (subst (HasBefore d 1 n) is (reach none)) in
    subst (λ u. Held (values u)) (sym (ap (before d 1) is ∙ near.1)) (held near.0)

-- what is held before a block of m processors, and behind it, where m are n
pub held_in : (Held : ℕ → Type 0) (d : Direction) (n m blocks place block : ℕ) (values : ℕ → ℕ) → m ≡ n → block ≡ walked d blocks place → HeldBefore Held d n values (first_place d n (walked d blocks place)) → HeldBefore Held d m values (first_place d m block)
held_in Held d n m blocks place block values same at held =
    subst (λ b. HeldBefore Held d m values (first_place d m b)) (sym at)
    (subst (λ l. HeldBefore Held d l values (first_place d l (walked d blocks place))) (sym same) held)

pub held_behind : (Held : ℕ → Type 0) (d : Direction) (n m blocks place block : ℕ) (values : ℕ → ℕ) → m ≡ n → block ≡ walked d blocks place → n ≤ 64 * blocks → 64 * blocks < n + 64 → place + 1 < blocks → HeldBefore Held d m values (first_place d m block + processors_of m block) → HeldBefore Held d n values (first_place d n (walked d blocks (place + 1)))
held_behind Held d n m blocks place block values same at above below more held =
    subst (HeldBefore Held d n values)
    (ap (λ b. first_place d n b + processors_of n b) at ∙ next_block d n blocks place above below more)
    (subst (λ l. HeldBefore Held d l values (first_place d l block + processors_of l block)) same held)

zero_fits : (p : ℕ) → 0 < p → false ≡ leb p 0
zero_fits p some = grind (arith, nat_tests)

-- no numbers come to a sum that is kept
pub kept_begun : (bits x word : ℕ) (over begins : Bool) → (begins ≡ false → IsKept bits word over x) → IsKept bits (cond begins 0 word) (not begins && over) (cond begins 0 x)
kept_begun bits x word over true kept = (sym (zero-mod (2 ^ bits)), zero_fits (2 ^ bits) (pow_pos bits))
kept_begun bits x word over false kept = kept refl

-- a sum with a number is kept by what the number makes of what is kept
pub kept_next : (bits x word y : ℕ) (over selected : Bool) → IsKept bits word over x → IsKept bits (cond selected (bit_and (word + y) (2 ^ bits - 1)) word) (over || selected && leb (2 ^ bits) (word + y)) (x + cond selected y 0)
kept_next bits x word y over true kept = (low_next bits x word y false kept.0, over_next bits x word y false over kept.0 kept.1)
kept_next bits x word y true false kept = (kept.0 ∙ ap (low bits) (omega arith), kept.1 ∙ ap (leb (2 ^ bits)) (omega arith))
kept_next bits x word y false false kept = (kept.0 ∙ ap (low bits) (omega arith), kept.1 ∙ ap (leb (2 ^ bits)) (omega arith))

-- a processor's place, and those of others
pub place_is : (d : Direction) (n u k : ℕ) → k < n → u ≡ walked d n k → walked d n u ≡ k
place_is d n u k h e = ap (walked d n) e ∙ (forward d n).twice k h

pub place_isnt : (d : Direction) (n u k : ℕ) → u < n → u ≢ walked d n k → walked d n u ≢ k
place_isnt d n u k h other e = other (sym ((forward d n).twice u h) ∙ ap (walked d n) e)

-- a processor of the first blocks that isn't in the last of them is in one before it
pub earlier_block : (d : Direction) (n blocks place block v : ℕ) → n ≤ 64 * blocks → v < n → block ≡ walked d blocks place → v / 64 ≢ block → walked d blocks (v / 64) < place + 1 → walked d blocks (v / 64) < place
earlier_block d n blocks place block v above below at other h =
    let isnt : walked d blocks (v / 64) ≢ place = place_isnt d blocks (v / 64) place (omega (arith, above, below)) (λ e. other (e ∙ sym at)) in
    omega (arith, h, isnt)
