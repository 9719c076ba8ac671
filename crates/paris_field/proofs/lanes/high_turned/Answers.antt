use Rattle.paris_plane.proofs.Digits.{marks_8, marks_16, marks_32}
use Rattle.paris_field.specs.Square.{lane_bit}
use Rattle.paris_field.proofs.Eights.{high_all}
use Rattle.paris_field.proofs.lanes.high_turned.Goals as goal

pub near_exchanged-one-requires-clause-mask : goal.near_exchanged-one-requires-clause-mask
near_exchanged-one-requires-clause-mask c = marks_8

pub middle_exchanged-two-requires-clause-mask : goal.middle_exchanged-two-requires-clause-mask
middle_exchanged-two-requires-clause-mask c = marks_16

pub far_exchanged-requires-clause-mask : goal.far_exchanged-requires-clause-mask
far_exchanged-requires-clause-mask c = marks_32

pub returns-clause-bits : goal.returns-clause-bits
returns-clause-bits c =
    λ q j i hq hj hi.
    high_all (lane_bit c.args.rows q) (lane_bit c.near_exchanged-one.result q) (lane_bit c.middle_exchanged-two.result q) (lane_bit c.far_exchanged.result q)
    (λ j i hj hi. c.near_exchanged-one.ensures.bits q j i hq hj hi)
    (λ j i hj hi. c.middle_exchanged-two.ensures.bits q j i hq hj hi)
    (λ j i hj hi. c.far_exchanged.ensures.bits q j i hq hj hi) j i hj hi
