-- What the values of a list come to as a sum.
use Rattle.std.specs.Prelude.{ℕ, ◌+◌, ◌*◌, ◌^◌, List, sum, nat_le}
use Rattle.paris_model.specs.Store.{bit, low}

-- the low L bits of the sum, and above them whether it needs more
unfoldable pub sum_shown : ℕ → List ℕ → ℕ
sum_shown L xs = low L (sum xs) + 2 ^ L * bit (nat_le (2 ^ L) (sum xs))
