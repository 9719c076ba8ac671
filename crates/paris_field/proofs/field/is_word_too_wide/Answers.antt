use Rattle.std.proofs.Common.{◌<◌, ◌≤◌, ◌^◌, arith}
use Rattle.std.proofs.Math.Pow.{pow_mono}
use Rattle.std.proofs.lemmas.Bool.Decides.{nat_tests}
use Rattle.paris_field.proofs.field.is_word_too_wide.Goals as goal

pub returns-else-width-lt64 : goal.returns-else-width-lt64
returns-else-width-lt64 c =
    let most : 2 ^ 64 ≤ 2 ^ c.args.width = pow_mono c.if-width-lt64.false in
    let small : c.args.word < 2 ^ c.args.width = omega arith in
    grind (arith, nat_tests)
