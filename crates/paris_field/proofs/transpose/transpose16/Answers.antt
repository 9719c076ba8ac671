use Rattle.std.proofs.Common.{arith}
use Rattle.paris_plane.proofs.Digits.{marks_1, marks_2, marks_4, marks_8}
use Rattle.paris_field.proofs.Sides.{side_1, side_2, side_4, side_8, sides_more, sides_none, sides_whole}
use Rattle.paris_field.proofs.transpose.transpose16.Goals as goal

pub exchange_digits-requires-clause-mask : goal.exchange_digits-requires-clause-mask
exchange_digits-requires-clause-mask c = marks_1

pub exchange_digits-requires-2-clause-mask : goal.exchange_digits-requires-2-clause-mask
exchange_digits-requires-2-clause-mask c = marks_2

pub exchange_digits-requires-3-clause-mask : goal.exchange_digits-requires-3-clause-mask
exchange_digits-requires-3-clause-mask c = marks_4

pub exchange_digits-requires-4-clause-mask : goal.exchange_digits-requires-4-clause-mask
exchange_digits-requires-4-clause-mask c = marks_8

pub returns : goal.returns
returns c =
    sides_whole 16 c.exchange_digits-4.new.rows c.args.rows.now (λ j h. (omega arith, omega arith))
    (sides_more 16 8 16 c.exchange_digits-4.new.rows c.exchange_digits-3.new.rows c.args.rows.now side_8 (λ j i h. omega arith) c.exchange_digits-4.ensures
    (sides_more 16 4 8 c.exchange_digits-3.new.rows c.exchange_digits-2.new.rows c.args.rows.now side_4 (λ j i h. omega arith) c.exchange_digits-3.ensures
    (sides_more 16 2 4 c.exchange_digits-2.new.rows c.exchange_digits.new.rows c.args.rows.now side_2 (λ j i h. omega arith) c.exchange_digits-2.ensures
    (sides_more 16 1 2 c.exchange_digits.new.rows c.args.rows.now c.args.rows.now side_1 (λ j i h. omega arith) c.exchange_digits.ensures (sides_none 16 c.args.rows.now)))))
