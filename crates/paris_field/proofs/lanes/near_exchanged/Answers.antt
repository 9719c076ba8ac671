use Rattle.std.proofs.Common.{◌≡◌, ℕ, ◌<◌, ◌∙◌, List, [], ◌∷◌, arith, refl}
use Rattle.paris_plane.specs.Digits.{digit}
use Rattle.paris_field.specs.Square.{lane_bit, replaced}
use Rattle.paris_field.proofs.Eights.{each_of_eight, first_placed, second_placed}
use Rattle.paris_field.proofs.lanes.near_exchanged.Goals as goal

pub returns-clause-bits : goal.returns-clause-bits
returns-clause-bits g c =
    λ q j i hq hj hi.
    let made : List (List ℕ) = c.exchange_lanes.result.0 ∷ c.exchange_lanes.result.1 ∷ c.exchange_lanes-2.result.0 ∷ c.exchange_lanes-2.result.1 ∷ c.exchange_lanes-3.result.0 ∷ c.exchange_lanes-3.result.1 ∷ c.exchange_lanes-4.result.0 ∷ c.exchange_lanes-4.result.1 ∷ [] in
    each_of_eight (λ j. (i : ℕ) → i < 64 → lane_bit made q j i ≡ lane_bit c.args.rows q (replaced 1 j (digit g.row.S i)) (replaced g.row.S i (digit 1 j)))
    (λ i hi. c.exchange_lanes.ensures.upper q i hq hi ∙ first_placed (lane_bit c.args.rows q) g.row.S 1 0 i refl)
    (λ i hi. c.exchange_lanes.ensures.lower q i hq hi ∙ second_placed (lane_bit c.args.rows q) g.row.S 1 0 i (omega arith) refl)
    (λ i hi. c.exchange_lanes-2.ensures.upper q i hq hi ∙ first_placed (lane_bit c.args.rows q) g.row.S 1 2 i refl)
    (λ i hi. c.exchange_lanes-2.ensures.lower q i hq hi ∙ second_placed (lane_bit c.args.rows q) g.row.S 1 2 i (omega arith) refl)
    (λ i hi. c.exchange_lanes-3.ensures.upper q i hq hi ∙ first_placed (lane_bit c.args.rows q) g.row.S 1 4 i refl)
    (λ i hi. c.exchange_lanes-3.ensures.lower q i hq hi ∙ second_placed (lane_bit c.args.rows q) g.row.S 1 4 i (omega arith) refl)
    (λ i hi. c.exchange_lanes-4.ensures.upper q i hq hi ∙ first_placed (lane_bit c.args.rows q) g.row.S 1 6 i refl)
    (λ i hi. c.exchange_lanes-4.ensures.lower q i hq hi ∙ second_placed (lane_bit c.args.rows q) g.row.S 1 6 i (omega arith) refl) j hj i hi
