-- The word has a 1 where the digits of the planes so far are not all 0.
use Rattle.std.proofs.Common.{◌≡◌, ℕ, ◌+◌, ◌*◌, ◌<◌, drop}
use Rattle.paris_plane.specs.Bits.{word_bit}
use Rattle.paris_field.specs.Numbers.{number_at}
use Rattle.paris_stretches.specs.Stretches.{is_other}
use Rattle.paris_stretches.proofs.counts.others_in.Given as goal

abbrev pub invariant-loop-k : goal.invariant-loop-k
invariant-loop-k l = (i : ℕ) → i < 64 → 64 * l.block + i < l.vps → word_bit l.word i ≡ is_other (number_at (drop l.k l.layers) (64 * l.block + i))
