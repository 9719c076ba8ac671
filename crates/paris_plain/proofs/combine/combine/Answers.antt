use Rattle.std.specs.Int.Bits.{or_lt, xor_lt}
use Rattle.paris_plain.proofs.combine.combine.Goals as goal

pub returns-in-BitOr-clause-small : goal.returns-in-BitOr-clause-small
returns-in-BitOr-clause-small c = or_lt _ _ _ c.requires.x_fits c.requires.y_fits

pub returns-in-BitXor-clause-small : goal.returns-in-BitXor-clause-small
returns-in-BitXor-clause-small c = xor_lt _ _ _ c.requires.x_fits c.requires.y_fits
