use Rattle.std.proofs.Common.{◌≡◌, arith, length, ℕ, ◌∙◌, List, Bool}
use Rattle.std.specs.Int.Bits.{bit_xor}
use Rattle.paris_model.specs.declared.operators.Combiner.TheVariants.{BitXor}
use Rattle.paris_model.proofs.Combining.{combined_fit}
use Rattle.paris_field.specs.Numbers.{AllOf, number_at}
use Rattle.paris_field.proofs.Lists.{below_of}
use Rattle.paris_plane.specs.Bits.{differ}
use Rattle.paris_plane.specs.Laws.{xor_by_bit}
use Rattle.paris_scan.specs.Laws.{xor_zero}
use Rattle.paris_scan.proofs.Brought.{all_brought}
use Rattle.paris_scan.proofs.Joined.{all_zipped, combined_number, joined_by}
use Rattle.paris_scan.proofs.bitwise.XorsCombine.join.Goals as goal

pub returns-clause-long : goal.returns-clause-long
returns-clause-long c =
    let same : length c.bring_planes.new.out ≡ length c.args.state.now = c.bring_planes.auto.out ∙ c.requires.same in
    let all : AllOf (length c.args._spare.now) c.bring_planes.new.out = all_brought (length c.args._spare.now) c.args.state.now c.bring_planes.new.out same c.requires.state c.bring_planes.ensures.long in
    all_zipped differ (length c.args._spare.now) c.args.state.now c.bring_planes.new.out c.put_planes.new.planes same c.put_planes.auto.planes c.requires.state all
    (λ k h. c.put_planes.ensures.at k (omega (arith, h, same)))

pub returns-clause-joined : goal.returns-clause-joined
returns-clause-joined c =
    λ L v xs ys count below fx fy ex ey.
    let n : ℕ = length c.args._spare.now in
    let old : List (List Bool) = c.args.state.now in
    let brought : List (List Bool) = c.bring_planes.new.out in
    let same : length brought ≡ length old = c.bring_planes.auto.out ∙ c.requires.same in
    let all : AllOf n brought = all_brought n old brought same c.requires.state c.bring_planes.ensures.long in
    let many : length old ≡ L = omega (arith, count) in
    let few : length brought ≡ L = omega (arith, count, same) in
    joined_by BitXor L (xor_zero L) (number_at brought v) (number_at old v) (number_at c.put_planes.new.planes v) xs ys (ex (number_at brought v) (c.bring_planes.ensures.brought n v c.requires.state below)) ey
    (combined_number bit_xor differ xor_by_bit n v old brought c.put_planes.new.planes same c.put_planes.auto.planes c.requires.state all below
    (λ k h. c.put_planes.ensures.at k (omega (arith, h, same)))
    (combined_fit BitXor (length old) (number_at old v) (number_at brought v) (below_of old v (length old) (omega arith)) (below_of brought v (length old) (omega (arith, few, many)))))
