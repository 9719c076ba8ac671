use Rattle.std.proofs.Common.{◌≡◌, ℕ, ◌+◌, ◌-◌, ◌/◌, ◌%◌, ◌<◌, ◌≤◌, ◌^◌, arith, subst}
use Rattle.std.proofs.Math.Pow.{shr_lt}
use Rattle.paris_plane_tests.proofs.values.number.Goals as goal

high_bits : (x w : ℕ) → w ≤ 128 → x % 2 ^ 128 / 2 ^ (128 - w) < 2 ^ w
high_bits x w narrow =
    let whole : 128 ≡ w + (128 - w) = omega arith in
    shr_lt w (128 - w) (subst (λ n. x % 2 ^ 128 < 2 ^ n) whole (omega arith))

pub returns : goal.returns
returns c = high_bits _ c.args.width c.requires.narrow
