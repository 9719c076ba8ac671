-- Values that are made one after another along lines.
use Rattle.std.specs.Prelude.{ℕ, ◌≡◌, ◌<◌, ◌≤◌, ◌+◌, ◌-◌, ◌*◌, ◌^◌, Bool, List, cond, min, nat_le, slice_index}
use Rattle.paris_geometry.specs.declared.direction.Direction.{Direction}
use Rattle.paris_geometry.specs.declared.direction.Direction.TheVariants.{Upward, Downward}
use Rattle.paris_model.specs.declared.operators.Combiner.{Combiner}
use Rattle.paris_model.specs.declared.operators.Inclusion.{Inclusion}
use Rattle.paris_model.specs.declared.operators.Inclusion.TheVariants.{Inclusive, Exclusive}
use Rattle.paris_model.specs.Combine.{combine}
use Rattle.paris_model.specs.Store.{everywhere, low}
use Rattle.paris_field.specs.Numbers.{bits_everywhere}
use Rattle.paris_scan.specs.Runs.{before}

-- the processor at a place of n that are walked in the direction
abbrev pub walked : Direction → ℕ → ℕ → ℕ
walked Upward n place = place
walked Downward n place = n - 1 - place

-- of n processors there is one that lies `by` before v
abbrev pub HasBefore : Direction → ℕ → ℕ → ℕ → Type 0
HasBefore direction by n v = (direction ≡ Upward → by ≤ v) × (direction ≡ Downward → v + by < n)

-- the word of a processor that passes the test, and 0 elsewhere
abbrev pub own_word : (ℕ → Bool) → List ℕ → ℕ → ℕ
own_word selected words v = cond (selected v) (slice_index words v) 0

-- the value of the processor that lies `by` before v, or `none` where a run begins
abbrev pub value_before : ℕ → Direction → ℕ → (ℕ → Bool) → (ℕ → ℕ) → ℕ → ℕ
value_before none direction by begins values v = cond (begins v) none (values (before direction by v))

-- in n processors each value is what the processor makes of the one before
abbrev pub AreRunning : (ℕ → ℕ → ℕ) → ℕ → Direction → ℕ → ℕ → (ℕ → Bool) → (ℕ → ℕ) → Type 0
AreRunning next none direction by n begins values = (v : ℕ) → v < n → values v ≡ next v (value_before none direction by begins values v)

-- a sum with the processor's own number
abbrev pub added : (ℕ → ℕ) → ℕ → ℕ → ℕ
added own v x = x + own v

-- a number combined with the word of a processor that passes the test
abbrev pub taken : Combiner → ℕ → (ℕ → Bool) → List ℕ → ℕ → ℕ → ℕ
taken op bits selected words v x = cond (selected v) (combine op bits x (slice_index words v)) x

-- what a scan shows of the values at v
abbrev pub shown_value : ℕ → Inclusion → Direction → ℕ → (ℕ → Bool) → (ℕ → ℕ) → ℕ → ℕ
shown_value none Inclusive direction by begins values v = values v
shown_value none Exclusive direction by begins values v = value_before none direction by begins values v

-- the low bits of the sums of n processors
abbrev pub low_sums : ℕ → ℕ → (ℕ → ℕ) → List ℕ
low_sums bits n sums = everywhere n (λ v. low bits (sums v))

-- where the sums of n processors need more bits
abbrev pub over_sums : ℕ → ℕ → (ℕ → ℕ) → List Bool
over_sums bits n sums = bits_everywhere n (λ v. nat_le (2 ^ bits) (sums v))

-- a word has the low bits of a sum, and a bit says whether it needs more
abbrev pub IsKept : ℕ → ℕ → Bool → ℕ → Type 0
IsKept bits word over sum = (word ≡ low bits sum) × (over ≡ nat_le (2 ^ bits) sum)

-- how many of n processors are in a block of 64
abbrev pub processors_of : ℕ → ℕ → ℕ
processors_of n block = min (n - 64 * block) 64

-- the first place, of n that are walked in the direction, of a processor of the block
abbrev pub first_place : Direction → ℕ → ℕ → ℕ
first_place Upward n block = 64 * block
first_place Downward n block = n - (64 * block + 64)

-- what is held is of the value of the processor right before a place, of n that are walked in the direction, if there is one
abbrev pub HeldBefore : (ℕ → Type 0) → Direction → ℕ → (ℕ → ℕ) → ℕ → Type 0
HeldBefore Held direction n values place = 0 < place → Held (values (walked direction n (place - 1)))

-- in a block of n processors the values go on, one neighbour after another, from what is held of the one before the block
pub record GoOn (Held : ℕ → Type 0) (next : ℕ → ℕ → ℕ) (none block : ℕ) (direction : Direction) (n : ℕ) (begins : ℕ → Bool) (values : ℕ → ℕ) : Type 0 where
  pub runs : (i : ℕ) → i < processors_of n block → values (64 * block + i) ≡ next (64 * block + i) (value_before none direction 1 begins values (64 * block + i))
  pub held : HeldBefore Held direction n values (first_place direction n block)
