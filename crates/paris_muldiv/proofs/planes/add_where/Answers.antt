use Rattle.std.proofs.Common.{◌≡◌, ℕ, ◌+◌, ◌*◌, ◌^◌, ◌<◌, ◌∙◌, sym, ap, length, take, get_or, arith, List, Bool, [], refl, subst}
use Rattle.std.proofs.lemmas.List.{get_or_read, take_all}
use Rattle.paris_plane.specs.Bits.{sum_bit, carry_bit}
use Rattle.paris_plane.proofs.Bits.{length-zip3}
use Rattle.paris_field.specs.Numbers.{bit_in, number_at, plane_at}
use Rattle.paris_field.proofs.Numbers.{step_at, all_written, plane_of_drop, dropped_more}
use Rattle.paris_muldiv.proofs.Rows.{where_more}
use Rattle.paris_muldiv.proofs.planes.add_where.Goals as goal

pub loop-j-init : goal.loop-j-init
unfolding number_at
loop-j-init c =
    record {
      sum = c.requires.sum;
      carry = c.requires.carry;
      masked = c.requires.masked;
      exact = λ v h. omega arith;
      left = refl;
    }

pub loop-j-preserved : goal.loop-j-preserved
loop-j-preserved c =
    let j : ℕ = c.loop-j.j in
    let m : List Bool = c.args.mask.now in
    let y : List Bool = c.plane.result.now in
    let x : List Bool = c.put_masked.new.masked in
    let o : List Bool = get_or c.loop-j.sum j c.index-sum-j.result in
    let s : List Bool = c.accumulate_step.new.sum in
    let d : List Bool = c.accumulate_step.new.carry in
    let ins : j < length c.loop-j.sum = omega arith in
    let ino : j < length c.args.sum.now = omega arith in
    let iny : j < length c.args.y.now = omega arith in
    let es : o ≡ plane_at c.loop-j.sum j = sym c.index-sum-j.is ∙ get_or_read c.loop-j.sum j c.index-sum-j.result ins c.index-sum-j.is [] in
    let eo : o ≡ plane_at c.args.sum.now j = es ∙ plane_of_drop j c.loop-j.sum c.args.sum.now c.loop-j.invariant.left in
    let ey : y ≡ plane_at c.args.y.now j = c.plane.ensures ∙ get_or_read c.args.y.now j c.index-y-j.result iny c.index-y-j.is [] in
    let lx : length x ≡ length m = c.put_masked.ensures.long in
    let lo : length o ≡ length m = ap length es ∙ c.loop-j.invariant.sum j ins in
    let xo : length x ≡ length o = lx ∙ sym lo in
    let xc : length x ≡ length c.loop-j.carry = lx ∙ sym c.loop-j.invariant.carry in
    let ls : length s ≡ length x = ap length c.accumulate_step.ensures.sums ∙ length-zip3 sum_bit x o c.loop-j.carry xo xc in
    let ld : length d ≡ length x = ap length c.accumulate_step.ensures.carries ∙ length-zip3 carry_bit x o c.loop-j.carry xo xc in
    record {
      sum = all_written (length m) c.loop-j.sum j s ins (ls ∙ lx) c.loop-j.invariant.sum;
      carry = ld ∙ lx;
      masked = lx;
      exact = λ v h.
          let step = step_at x o c.loop-j.carry s d v c.accumulate_step.ensures.sums c.accumulate_step.ensures.carries xo xc (subst (λ (n : ℕ). v < n) (sym lx) h) in
          where_more j v c.loop-j.sum c.args.sum.now c.args.y.now s d m y o c.loop-j.carry c.args.carry.now ins ino iny eo ey
          (step ∙ ap (λ t. t + bit_in o v + bit_in c.loop-j.carry v) (c.put_masked.ensures.bits v h))
          (c.loop-j.invariant.exact v h);
      left = dropped_more j c.loop-j.sum c.args.sum.now s c.loop-j.invariant.left;
    }

pub returns-clause-exact : goal.returns-clause-exact
returns-clause-exact c =
    λ v h.
    let n : ℕ = length c.args.y.now in
    let end : c.loop-j.j ≡ n = omega arith in
    let whole : take c.loop-j.j c.loop-j.sum ≡ c.loop-j.sum = take_all c.loop-j.j c.loop-j.sum (omega arith) in
    let before : take c.loop-j.j c.args.sum.now ≡ c.args.sum.now = take_all c.loop-j.j c.args.sum.now (omega arith) in
    let added : take c.loop-j.j c.args.y.now ≡ c.args.y.now = take_all c.loop-j.j c.args.y.now (omega arith) in
    ap (λ ps. number_at ps v + 2 ^ n * bit_in c.loop-j.carry v) (sym whole)
    ∙ ap (λ k. number_at (take c.loop-j.j c.loop-j.sum) v + 2 ^ k * bit_in c.loop-j.carry v) (sym end)
    ∙ c.loop-j.invariant.exact v h
    ∙ ap (λ ps. number_at ps v + bit_in c.args.mask.now v * number_at (take c.loop-j.j c.args.y.now) v + bit_in c.args.carry.now v) before
    ∙ ap (λ ps. number_at c.args.sum.now v + bit_in c.args.mask.now v * number_at ps v + bit_in c.args.carry.now v) added
