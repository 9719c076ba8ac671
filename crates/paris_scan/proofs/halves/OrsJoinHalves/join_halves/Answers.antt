use Rattle.std.proofs.Common.{◌≡◌, arith, length, ℕ, sym, List, Bool, ◌||◌}
use Rattle.std.specs.Int.Bits.{bit_or}
use Rattle.paris_model.specs.declared.operators.Combiner.TheVariants.{BitOr}
use Rattle.paris_model.proofs.Combining.{combined_fit}
use Rattle.paris_field.specs.Numbers.{number_at}
use Rattle.paris_field.proofs.Lists.{below_of}
use Rattle.paris_plane.specs.Laws.{or_by_bit}
use Rattle.paris_scan.specs.Laws.{or_zero}
use Rattle.paris_scan.proofs.Joined.{all_zipped, combined_number, joined_by}
use Rattle.paris_scan.proofs.halves.OrsJoinHalves.join_halves.Goals as goal

pub returns-clause-long : goal.returns-clause-long
returns-clause-long c =
    all_zipped (λ a b. a || b) (length c.args._spare.now) c.args.lower.now c.args.upper.now c.put_planes.new.planes (sym c.requires.same) c.put_planes.auto.planes c.requires.lower c.requires.upper
    (λ k h. c.put_planes.ensures.at k (omega (arith, h, c.requires.same)))

pub returns-clause-joined : goal.returns-clause-joined
returns-clause-joined c =
    λ L v xs ys count below fx fy ex ey.
    let n : ℕ = length c.args._spare.now in
    let old : List (List Bool) = c.args.lower.now in
    let other : List (List Bool) = c.args.upper.now in
    let same : length other ≡ length old = sym c.requires.same in
    let few : length other ≡ L = omega (arith, count) in
    let many : length old ≡ L = omega (arith, few, c.requires.same) in
    joined_by BitOr L (or_zero L) (number_at other v) (number_at old v) (number_at c.put_planes.new.planes v) xs ys ex ey
    (combined_number bit_or (λ a b. a || b) or_by_bit n v old other c.put_planes.new.planes same c.put_planes.auto.planes c.requires.lower c.requires.upper below
    (λ k h. c.put_planes.ensures.at k (omega (arith, h, same)))
    (combined_fit BitOr (length old) (number_at old v) (number_at other v) (below_of old v (length old) (omega arith)) (below_of other v (length old) (omega (arith, few, many)))))
