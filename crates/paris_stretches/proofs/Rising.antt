-- No stretch begins behind the next one, and where there are as many processors as stretches, each has one.
use Rattle.std.proofs.Common.{◌≡◌, ℕ, ◌+◌, ◌*◌, ◌/◌, ◌<◌, ◌≤◌, arith}
use Rattle.std.proofs.Math.Nat.{add-mul, div-mul-le_self}
use Rattle.std.proofs.lemmas.Nat.{le-div}
use Rattle.paris_stretches.specs.Stretches.{bound}

pub bound_grows : (count parts i : ℕ) → 0 < parts → bound count parts i ≤ bound count parts (i + 1)
bound_grows count parts i some =
    le-div (bound count parts i) ((i + 1) * count) parts some (omega (arith, div-mul-le_self (i * count) parts, add-mul i 1 count))

pub bound_rises : (count parts i : ℕ) → 0 < parts → parts ≤ count → bound count parts i < bound count parts (i + 1)
bound_rises count parts i some few =
    let m : ℕ = bound count parts i in
    let room : (m + 1) * parts ≤ (i + 1) * count = omega (arith, div-mul-le_self (i * count) parts, add-mul i 1 count, add-mul m 1 parts, few) in
    omega (arith, le-div (m + 1) ((i + 1) * count) parts some room)
