-- Numbers of L bits: the low bits, a store into them, and two's complement.
use Rattle.std.specs.Prelude.{ℕ, ◌+◌, ◌-◌, ◌%◌, ◌^◌, ℤ, pos, negsuc, Bool, nat_lt, nat_le, List, map, if◌then◌else◌}
use Rattle.paris_geometry.specs.Geometry.{numbers_below}

-- the low L bits of x
abbrev pub low : ℕ → ℕ → ℕ
low L x = x % 2 ^ L

-- the old number with its low L bits replaced by those of x
abbrev pub put : ℕ → ℕ → ℕ → ℕ
put old x L = old - low L old + low L x

abbrev pub bit : Bool → ℕ
bit b = if b then 1 else 0

-- x of L bits, read as two's complement; `negsuc n` is the number -(n + 1)
abbrev pub signed : ℕ → ℕ → ℤ
signed L x = if nat_lt x (2 ^ (L - 1)) then pos x else negsuc (2 ^ L - 1 - x)

-- the low L bits of a signed number
abbrev pub low_signed : ℕ → ℤ → ℕ
low_signed L (pos n) = low L n
low_signed L (negsuc n) = 2 ^ L - 1 - low L n

-- whether a signed number is outside `-2 ^ (L - 1) .. 2 ^ (L - 1) - 1`
abbrev pub is_outside_signed : ℕ → ℤ → Bool
is_outside_signed L (pos n) = nat_le (2 ^ (L - 1)) n
is_outside_signed L (negsuc n) = nat_le (2 ^ (L - 1)) n

-- one number for each of n processors
abbrev pub everywhere : ℕ → (ℕ → ℕ) → List ℕ
everywhere n f = map f (numbers_below n)

-- the numbers of n processors, after those that pass the test have put theirs into the low L bits
abbrev pub stored : ℕ → (ℕ → Bool) → (ℕ → ℕ) → ℕ → (ℕ → ℕ) → List ℕ
stored n who old L new = everywhere n (λ v. if who v then put (old v) (new v) L else old v)
