use Rattle.std.proofs.Common.{◌∙◌, sym, le-ltb}
use Rattle.paris_instr.proofs.Resolves.{not_too_great}
use Rattle.paris_instr.proofs.fits.is_too_great.Goals as goal

pub returns-else-length-lt128 : goal.returns-else-length-lt128
returns-else-length-lt128 c =
    le-ltb c.args.length 128 c.if-length-lt128.false ∙ sym (not_too_great c.args.length c.args.number c.if-length-lt128.false c.ranges.number.fits)
