-- A plane of several that is written over by a sum.
use Rattle.std.proofs.Common.{◌≡◌, ℕ, ◌+◌, ◌*◌, ◌^◌, ◌<◌, Bool, List, length, take, set, arith}
use Rattle.paris_field.specs.Numbers.{bit_in, number_at, plane_at}
use Rattle.paris_field.proofs.Numbers.{double, one_more, one_written, step_of_numbers}

-- one more bit of the numbers that are added, and of their sums
pub added_step : (k v : ℕ) (now old other : List (List Bool)) (x y c q d : List Bool) → k < length now → k < length old → k < length other → x ≡ plane_at other k → y ≡ plane_at old k
    → bit_in q v + 2 * bit_in d v ≡ bit_in x v + bit_in y v + bit_in c v
    → number_at (take k now) v + 2 ^ k * bit_in c v ≡ number_at (take k other) v + number_at (take k old) v
    → number_at (take (k + 1) (set now k q)) v + 2 ^ (k + 1) * bit_in d v ≡ number_at (take (k + 1) other) v + number_at (take (k + 1) old) v
added_step k v now old other x y c q d hn ho hx ex ey bits low =
    let all = step_of_numbers (2 ^ k) (number_at (take k now) v) (number_at (take k other) v) (number_at (take k old) v) 0 (bit_in q v) (bit_in x v) (bit_in y v) (bit_in c v) (bit_in d v) bits (omega (arith, low)) in
    omega (arith, all, one_written now k v q hn, one_more other k v x hx ex, one_more old k v y ho ey, double k (bit_in d v))
