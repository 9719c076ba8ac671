use Rattle.std.proofs.Common.{◌∙◌, ap, length}
use Rattle.paris_field.proofs.Places.{length-bits_everywhere}
use Rattle.paris_plane_tests.proofs.worked_rows.add_where_less.Goals as goal

pub add_carry-requires-clause-carries : goal.add_carry-requires-clause-carries
add_carry-requires-clause-carries c = ap length c.in_ok-carry.ensures ∙ length-bits_everywhere (length c.args.x.now.numbers) _
