use Rattle.std.proofs.Common.{◌≡◌, ◌+◌, ◌*◌, ◌/◌, ◌%◌, ◌∙◌, ap, arith, get_or}
use Rattle.paris_plane.specs.Bits.{word_bit}
use Rattle.paris_plane.proofs.Digits.{marks_1, marks_2, marks_4, marks_8, marks_16, marks_32}
use Rattle.paris_field.proofs.Sides.{side_1, side_2, side_4, side_8, side_16, side_32, sides_more, sides_none, sides_whole}
use Rattle.paris_field.proofs.transpose.transpose64.Goals as goal

pub exchange_digits-requires-clause-mask : goal.exchange_digits-requires-clause-mask
exchange_digits-requires-clause-mask c = marks_1

pub exchange_digits-requires-2-clause-mask : goal.exchange_digits-requires-2-clause-mask
exchange_digits-requires-2-clause-mask c = marks_2

pub exchange_digits-requires-3-clause-mask : goal.exchange_digits-requires-3-clause-mask
exchange_digits-requires-3-clause-mask c = marks_4

pub exchange_digits-requires-4-clause-mask : goal.exchange_digits-requires-4-clause-mask
exchange_digits-requires-4-clause-mask c = marks_8

pub exchange_digits-requires-5-clause-mask : goal.exchange_digits-requires-5-clause-mask
exchange_digits-requires-5-clause-mask c = marks_16

pub exchange_digits-requires-6-clause-mask : goal.exchange_digits-requires-6-clause-mask
exchange_digits-requires-6-clause-mask c = marks_32

pub returns : goal.returns
returns c =
    λ j i hj hi.
    let row : i % 64 ≡ i = omega arith in
    let place : i / 64 * 64 + j ≡ j = omega arith in
    sides_whole 64 c.exchange_digits-6.new.rows c.args.rows.now (λ j h. (omega arith, omega arith))
    (sides_more 64 32 64 c.exchange_digits-6.new.rows c.exchange_digits-5.new.rows c.args.rows.now side_32 (λ j i h. omega arith) c.exchange_digits-6.ensures
    (sides_more 64 16 32 c.exchange_digits-5.new.rows c.exchange_digits-4.new.rows c.args.rows.now side_16 (λ j i h. omega arith) c.exchange_digits-5.ensures
    (sides_more 64 8 16 c.exchange_digits-4.new.rows c.exchange_digits-3.new.rows c.args.rows.now side_8 (λ j i h. omega arith) c.exchange_digits-4.ensures
    (sides_more 64 4 8 c.exchange_digits-3.new.rows c.exchange_digits-2.new.rows c.args.rows.now side_4 (λ j i h. omega arith) c.exchange_digits-3.ensures
    (sides_more 64 2 4 c.exchange_digits-2.new.rows c.exchange_digits.new.rows c.args.rows.now side_2 (λ j i h. omega arith) c.exchange_digits-2.ensures
    (sides_more 64 1 2 c.exchange_digits.new.rows c.args.rows.now c.args.rows.now side_1 (λ j i h. omega arith) c.exchange_digits.ensures (sides_none 64 c.args.rows.now))))))) j i hj hi
    ∙ ap (λ x. word_bit (get_or c.args.rows.now x 0) (i / 64 * 64 + j)) row
    ∙ ap (word_bit (get_or c.args.rows.now i 0)) place
