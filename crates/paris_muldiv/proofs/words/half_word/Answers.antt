use Rattle.std.proofs.Common.{◌≤◌, ◌-◌, arith}
use Rattle.std.proofs.Math.Pow.{pow_mono}
use Rattle.std.proofs.lemmas.Nat.{one_shl}
use Rattle.paris_muldiv.proofs.words.half_word.Goals as goal

pub returns-clause-small : goal.returns-clause-small
returns-clause-small c =
    let below : c.args.bits - 1 ≤ 63 = omega arith in
    omega (arith, pow_mono below, one_shl (c.args.bits - 1) 64 (omega arith))
