use Rattle.std.proofs.Common.{◌<◌, ◌^◌, arith}
use Rattle.std.proofs.Math.Pow.{pow-lt}
use Rattle.paris_book.proofs.inputs.declare_input.Goals as goal

pub constant-requires-clause-fits : goal.constant-requires-clause-fits
constant-requires-clause-fits c =
    let two : 2 ^ 0 < 2 ^ c.args.width = pow-lt c.requires.wide in omega arith
