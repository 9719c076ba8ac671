use Rattle.paris_field.proofs.Eights.{turned_whole}
use Rattle.paris_field.proofs.lanes.turn_squares.Goals as goal

pub returns-clause-bits : goal.returns-clause-bits
returns-clause-bits c = turned_whole c.turn_high_digits.new.rows c.turn_low_digits.new.rows c.args.rows.now c.turn_low_digits.ensures.bits c.turn_high_digits.ensures.bits
