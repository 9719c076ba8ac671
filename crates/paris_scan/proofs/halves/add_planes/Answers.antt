use Rattle.std.proofs.Common.{◌≡◌, ◌∙◌, ℕ, ◌+◌, ◌*◌, ◌<◌, ap, sym, arith, length, get_or, List, Bool, [], refl}
use Rattle.std.proofs.lemmas.List.{get_or_read}
use Rattle.paris_plane.specs.Bits.{carry_bit, sum_bit}
use Rattle.paris_plane.proofs.Bits.{length-zip3}
use Rattle.paris_field.specs.Numbers.{number_at, plane_at}
use Rattle.paris_field.proofs.Numbers.{all_written, dropped_more, plane_of_drop, step_at}
use Rattle.paris_scan.proofs.Written.{added_step}
use Rattle.paris_scan.proofs.halves.add_planes.Goals as goal

pub loop-k-init : goal.loop-k-init
unfolding number_at
loop-k-init c = record {
  long = refl;
  planes = c.requires.sum;
  exact = λ v h none. ap (λ t. 0 + 1 * t) none;
  high = refl;
}

pub loop-k-preserved : goal.loop-k-preserved
loop-k-preserved c =
    let n : ℕ = length c.args.carry.now in
    let k : ℕ = c.loop-k.k in
    let other : List (List Bool) = c.args.x.now in
    let old : List (List Bool) = c.args.sum.now in
    let now : List (List Bool) = c.loop-k.sum in
    let x : List Bool = c.index-x-k.result in
    let y : List Bool = get_or now k c.index-sum-k.result in
    let z : List Bool = c.accumulate_step.new.sum in
    let d : List Bool = c.accumulate_step.new.carry in
    let inx : k < length other = omega (arith, c.requires.count, c.loop-k-test.true) in
    let ino : k < length old = omega (arith, inx, c.requires.same) in
    let ins : k < length now = omega (arith, ino, c.loop-k.auto.sum) in
    let ex : x ≡ plane_at other k = get_or_read other k x inx c.index-x-k.is [] in
    let ey : y ≡ plane_at now k = sym c.index-sum-k.is ∙ get_or_read now k c.index-sum-k.result ins c.index-sum-k.is [] in
    let eo : y ≡ plane_at old k = ey ∙ plane_of_drop k now old c.loop-k.invariant.high in
    let lx : length x ≡ n = ap length ex ∙ c.requires.x k inx in
    let ly : length y ≡ n = ap length ey ∙ c.loop-k.invariant.planes k ins in
    let xy : length x ≡ length y = lx ∙ sym ly in
    let xc : length x ≡ length c.loop-k.carry = lx ∙ sym c.loop-k.invariant.long in
    let lz : length z ≡ length x = ap length c.accumulate_step.ensures.sums ∙ length-zip3 sum_bit x y c.loop-k.carry xy xc in
    let ld : length d ≡ length x = ap length c.accumulate_step.ensures.carries ∙ length-zip3 carry_bit x y c.loop-k.carry xy xc in
    record {
      long = ld ∙ lx;
      planes = all_written n now k z ins (lz ∙ lx) c.loop-k.invariant.planes;
      exact = λ v h none.
          let bits = step_at x y c.loop-k.carry z d v c.accumulate_step.ensures.sums c.accumulate_step.ensures.carries xy xc (omega (arith, h, lx)) in
          added_step k v now old other x y c.loop-k.carry z d ins ino inx ex eo bits (c.loop-k.invariant.exact v h none);
      high = dropped_more k now old z c.loop-k.invariant.high;
    }
