use Rattle.std.proofs.Common.{◌≡◌, ℕ, ◌<◌, ◌∙◌, sym, ap, length, get_or, arith, List, Bool, [], refl, subst, false}
use Rattle.std.proofs.lemmas.List.{get_or_read}
use Rattle.paris_plane.specs.Bits.{sum_bit, carry_bit}
use Rattle.paris_plane.proofs.Bits.{length-zip3}
use Rattle.paris_field.specs.Numbers.{has, plane_at}
use Rattle.paris_field.proofs.Numbers.{step_at, all_written, plane_of_drop, dropped_more}
use Rattle.paris_scan.specs.Brings.{Among, Brings}
use Rattle.paris_scan.proofs.Brought.{none_added, one_added}
use Rattle.paris_scan.proofs.sums.add_brought.Goals as goal

pub loop-k-init : goal.loop-k-init
loop-k-init c =
    record {
      long = refl;
      scratch_long = c.requires.scratch;
      planes = c.requires.state;
      exact = λ v h none. none_added c.args.partner.now (length c.args.carry.now) v _ c.args.state.now c.args.state.now none;
      high = refl;
    }

pub loop-k-preserved : goal.loop-k-preserved
loop-k-preserved c =
    let n : ℕ = length c.args.carry.now in
    let k : ℕ = c.loop-k.k in
    let source : List Bool = get_or c.loop-k.state k c.index-state-k.result in
    let x : List Bool = c.bring.new.out in
    let y : List Bool = get_or c.loop-k.state k c.index-state-k-in-loop-k.result in
    let z : List Bool = c.accumulate_step.new.sum in
    let d : List Bool = c.accumulate_step.new.carry in
    let ins : k < length c.loop-k.state = omega arith in
    let ino : k < length c.args.state.now = omega arith in
    let es : source ≡ plane_at c.loop-k.state k = sym c.index-state-k.is ∙ get_or_read c.loop-k.state k c.index-state-k.result ins c.index-state-k.is [] in
    let ey : y ≡ plane_at c.loop-k.state k = sym c.index-state-k-in-loop-k.is ∙ get_or_read c.loop-k.state k c.index-state-k-in-loop-k.result ins c.index-state-k-in-loop-k.is [] in
    let eo : y ≡ plane_at c.args.state.now k = ey ∙ plane_of_drop k c.loop-k.state c.args.state.now c.loop-k.invariant.high in
    let same : source ≡ y = es ∙ sym ey in
    let ln : length source ≡ n = ap length es ∙ c.loop-k.invariant.planes k ins in
    let lx : length x ≡ n = c.bring.ensures.long ∙ ln in
    let ly : length y ≡ n = ap length (sym same) ∙ ln in
    let xy : length x ≡ length y = lx ∙ sym ly in
    let xc : length x ≡ length c.loop-k.carry = lx ∙ sym c.loop-k.invariant.long in
    let lz : length z ≡ length x = ap length c.accumulate_step.ensures.sums ∙ length-zip3 sum_bit x y c.loop-k.carry xy xc in
    let ld : length d ≡ length x = ap length c.accumulate_step.ensures.carries ∙ length-zip3 carry_bit x y c.loop-k.carry xy xc in
    record {
      long = ld ∙ lx;
      scratch_long = lx;
      planes = all_written n c.loop-k.state k z ins (lz ∙ lx) c.loop-k.invariant.planes;
      exact = λ v h none.
          let bits = step_at x y c.loop-k.carry z d v c.accumulate_step.ensures.sums c.accumulate_step.ensures.carries xy xc (omega arith) in
          let comes : Brings false c.args.partner.now n (has y) v (get_or x v false) = subst (λ m. Brings false c.args.partner.now m (has y) v (get_or x v false)) ln (subst (λ (p : List Bool). Brings false c.args.partner.now (length source) (has p) v (get_or x v false)) same (c.bring.ensures.brought v (omega (arith, h, ln)))) in
          one_added c.args.partner.now n v k c.loop-k.state c.args.state.now x y c.loop-k.carry z d ins ino eo bits comes (c.loop-k.invariant.exact v h none);
      high = dropped_more k c.loop-k.state c.args.state.now z c.loop-k.invariant.high;
    }

pub bring-requires-clause-partner : goal.bring-requires-clause-partner
bring-requires-clause-partner c =
    let ins : c.loop-k.k < length c.loop-k.state = omega arith in
    let ln : length (get_or c.loop-k.state c.loop-k.k c.index-state-k.result) ≡ length c.args.carry.now = ap length (sym c.index-state-k.is ∙ get_or_read c.loop-k.state c.loop-k.k c.index-state-k.result ins c.index-state-k.is []) ∙ c.loop-k.invariant.planes c.loop-k.k ins in
    subst (λ m. Among m c.args.partner.now) (sym ln) c.requires.partner
