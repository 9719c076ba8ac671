use Rattle.std.proofs.Common.{◌≡◌, ℕ, ◌+◌, ◌<◌, ◌∙◌, ap, arith, length, List, Bool, [], refl, subst, sym}
use Rattle.std.proofs.lemmas.List.{get_or_read, length_push}
use Rattle.paris_plane.specs.Bits.{sum_bit}
use Rattle.paris_field.specs.Numbers.{AllOf, number_at, plane_at}
use Rattle.paris_field.proofs.Places.{all_none, all_pushed, length_triple, read_long}
use Rattle.paris_alu.proofs.Chains.{summed_more}
use Rattle.paris_alu.proofs.planes.sum_planes.Goals as goal

pub loop-k-init : goal.loop-k-init
unfolding number_at
loop-k-init c =
    let e : c.in_ok-planes.planes.items ≡ [] = c.in_ok-planes.ensures.items in
    record {
      long = refl;
      count = ap length e;
      planes = subst (λ (ps : List (List Bool)). AllOf (length c.args.carry.now) ps) (sym e) (all_none (length c.args.carry.now));
      exact = λ v h. omega (arith, ap (λ (ps : List (List Bool)). number_at ps v) e);
    }

pub summed-requires-clause-second : goal.summed-requires-clause-second
summed-requires-clause-second c =
    let iny : c.loop-k.k < length c.args.y.now = omega arith in
    read_long c.args.x.now c.loop-k.k c.index-x-k.result c.requires.x_planes c.loop-k-test.true c.index-x-k.is ∙ sym (read_long c.args.y.now c.loop-k.k c.index-y-k.result c.requires.y_planes iny c.index-y-k.is)

pub summed-requires-clause-carries : goal.summed-requires-clause-carries
summed-requires-clause-carries c =
    read_long c.args.x.now c.loop-k.k c.index-x-k.result c.requires.x_planes c.loop-k-test.true c.index-x-k.is ∙ sym c.loop-k.invariant.long

pub loop-k-preserved : goal.loop-k-preserved
loop-k-preserved c =
    let n : ℕ = length c.args.carry.now in
    let k : ℕ = c.loop-k.k in
    let x : List Bool = c.index-x-k.result in
    let y : List Bool = c.index-y-k.result in
    let b : List Bool = c.loop-k.carry in
    let iny : k < length c.args.y.now = omega arith in
    let ex : x ≡ plane_at c.args.x.now k = get_or_read c.args.x.now k x c.loop-k-test.true c.index-x-k.is [] in
    let ey : y ≡ plane_at c.args.y.now k = get_or_read c.args.y.now k y iny c.index-y-k.is [] in
    let nx : length x ≡ n = ap length ex ∙ c.requires.x_planes k c.loop-k-test.true in
    let ny : length y ≡ n = ap length ey ∙ c.requires.y_planes k iny in
    let s : List Bool = c.in_ok-plane.plane in
    let b' : List Bool = c.summed.new.carry in
    let es = c.in_ok-plane.ensures.sums in
    let eb = c.in_ok-plane.ensures.carries in
    let ls : length s ≡ n = ap length es ∙ length_triple sum_bit x y b nx ny c.loop-k.invariant.long in
    record {
      long = c.summed.ensures.long ∙ c.loop-k.invariant.long;
      count = ap length c.in_ok-push.ensures.items ∙ length_push c.loop-k.planes.items s ∙ ap (λ j. j + 1) c.loop-k.invariant.count;
      planes = subst (λ (ps : List (List Bool)). AllOf n ps) (sym c.in_ok-push.ensures.items) (all_pushed n c.loop-k.planes.items s c.loop-k.invariant.planes ls);
      exact = λ v h. summed_more n k v c.args.x.now c.args.y.now c.loop-k.planes.items c.push.new.self.items x y s b b' c.args.carry.now c.loop-k-test.true iny ex ey nx ny c.loop-k.invariant.long c.loop-k.invariant.count es eb c.in_ok-push.ensures.items h (c.loop-k.invariant.exact v h);
    }
