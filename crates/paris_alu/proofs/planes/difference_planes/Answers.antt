use Rattle.std.proofs.Common.{◌≡◌, ℕ, ◌+◌, ◌<◌, ◌∙◌, ap, arith, length, List, Bool, [], refl, subst, sym}
use Rattle.std.proofs.lemmas.List.{get_or_read, length_push}
use Rattle.paris_plane.specs.Bits.{borrow_bit, sum_bit}
use Rattle.paris_field.specs.Numbers.{AllOf, number_at, plane_at}
use Rattle.paris_field.proofs.Places.{all_none, all_pushed, length_triple, read_long}
use Rattle.paris_alu.proofs.Chains.{difference_more}
use Rattle.paris_alu.proofs.planes.difference_planes.Goals as goal

pub loop-k-init : goal.loop-k-init
unfolding number_at
loop-k-init c =
    let e : c.in_ok-planes.planes.items ≡ [] = c.in_ok-planes.ensures.items in
    record {
      long = refl;
      count = ap length e;
      planes = subst (λ (ps : List (List Bool)). AllOf (length c.args.borrow.now) ps) (sym e) (all_none (length c.args.borrow.now));
      exact = λ v h. omega (arith, ap (λ (ps : List (List Bool)). number_at ps v) e);
    }

pub difference-requires-clause-second : goal.difference-requires-clause-second
difference-requires-clause-second c =
    let iny : c.loop-k.k < length c.args.y.now = omega arith in
    read_long c.args.x.now c.loop-k.k c.index-x-k.result c.requires.x_planes c.loop-k-test.true c.index-x-k.is ∙ sym (read_long c.args.y.now c.loop-k.k c.index-y-k.result c.requires.y_planes iny c.index-y-k.is)

pub difference-requires-clause-borrows : goal.difference-requires-clause-borrows
difference-requires-clause-borrows c =
    read_long c.args.x.now c.loop-k.k c.index-x-k.result c.requires.x_planes c.loop-k-test.true c.index-x-k.is ∙ sym c.loop-k.invariant.long

pub loop-k-preserved : goal.loop-k-preserved
loop-k-preserved c =
    let n : ℕ = length c.args.borrow.now in
    let k : ℕ = c.loop-k.k in
    let x : List Bool = c.index-x-k.result in
    let y : List Bool = c.index-y-k.result in
    let b : List Bool = c.loop-k.borrow in
    let iny : k < length c.args.y.now = omega arith in
    let ex : x ≡ plane_at c.args.x.now k = get_or_read c.args.x.now k x c.loop-k-test.true c.index-x-k.is [] in
    let ey : y ≡ plane_at c.args.y.now k = get_or_read c.args.y.now k y iny c.index-y-k.is [] in
    let nx : length x ≡ n = ap length ex ∙ c.requires.x_planes k c.loop-k-test.true in
    let ny : length y ≡ n = ap length ey ∙ c.requires.y_planes k iny in
    let s : List Bool = c.in_ok-plane.plane in
    let b' : List Bool = c.difference.new.borrow in
    let es = c.in_ok-plane.ensures.differences in
    let eb = c.in_ok-plane.ensures.borrows in
    let ls : length s ≡ n = ap length es ∙ length_triple sum_bit x y b nx ny c.loop-k.invariant.long in
    let lb : length b' ≡ n = ap length eb ∙ length_triple borrow_bit b x y c.loop-k.invariant.long nx ny in
    record {
      long = lb;
      count = ap length c.in_ok-push.ensures.items ∙ length_push c.loop-k.planes.items s ∙ ap (λ j. j + 1) c.loop-k.invariant.count;
      planes = subst (λ (ps : List (List Bool)). AllOf n ps) (sym c.in_ok-push.ensures.items) (all_pushed n c.loop-k.planes.items s c.loop-k.invariant.planes ls);
      exact = λ v h. difference_more n k v c.args.x.now c.args.y.now c.loop-k.planes.items c.push.new.self.items x y s b b' c.args.borrow.now c.loop-k-test.true iny ex ey nx ny c.loop-k.invariant.long c.loop-k.invariant.count es eb c.in_ok-push.ensures.items h (c.loop-k.invariant.exact v h);
    }
