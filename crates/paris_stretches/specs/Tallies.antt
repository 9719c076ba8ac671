-- What numbers come to, one after another.
use Rattle.std.specs.Prelude.{◌≡◌, ℕ, ◌+◌, ◌-◌, ◌*◌, ◌^◌, ◌≤◌, List, length, min, max, fold, sum}
use Rattle.paris_stretches.specs.Stretches.{count_others}
use Rattle.paris_stretches.specs.declared.tallies.Tally.{Tally}

-- a tally is that of these numbers. Each half of the sum has room for as many words as there are numbers
pub record IsTally (numbers : List ℕ) (tally : Tally) : Type 0 where
  pub least : tally.least ≡ fold min (2 ^ 128 - 1) numbers
  pub greatest : tally.greatest ≡ fold max 0 numbers
  pub total : tally.high * 2 ^ 64 + tally.low ≡ sum numbers
  pub low : tally.low ≤ length numbers * (2 ^ 64 - 1)
  pub high : tally.high ≤ length numbers * (2 ^ 64 - 1)
  pub others : tally.others ≡ count_others numbers
