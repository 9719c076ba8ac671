use Rattle.std.proofs.Common.{◌≡◌, ℕ, ◌+◌, ◌||◌, ◌∙◌, ap, arith, length, List, Bool, [], refl, subst, sym}
use Rattle.std.specs.Simd.Lanes.{zip2}
use Rattle.std.proofs.lemmas.Simd.{length-zip2}
use Rattle.std.proofs.lemmas.List.{get_or_read, length_push}
use Rattle.paris_plane.specs.Bits.{differ}
use Rattle.paris_field.specs.Numbers.{AllOf, number_at, plane_at}
use Rattle.paris_field.proofs.Places.{all_none, all_pushed, read_long}
use Rattle.paris_alu.proofs.Chains.{opposite_more}
use Rattle.paris_alu.proofs.planes.opposite_planes.Goals as goal

pub loop-k-init : goal.loop-k-init
unfolding number_at
loop-k-init c =
    let e : c.in_ok-planes.planes.items ≡ [] = c.in_ok-planes.ensures.items in
    record {
      long = refl;
      count = ap length e;
      planes = subst (λ (ps : List (List Bool)). AllOf (length c.args.borrow.now) ps) (sym e) (all_none (length c.args.borrow.now));
      exact = λ v h. omega (arith, ap (λ (ps : List (List Bool)). number_at ps v) e);
    }

pub combined-requires : goal.combined-requires
combined-requires c =
    read_long c.args.x.now c.loop-k.k c.index-x-k.result c.requires c.loop-k-test.true c.index-x-k.is ∙ sym c.loop-k.invariant.long

pub put-requires : goal.put-requires
put-requires c =
    c.loop-k.invariant.long ∙ sym (read_long c.args.x.now c.loop-k.k c.index-x-k-in-loop-k.result c.requires c.loop-k-test.true c.index-x-k-in-loop-k.is)

pub returns-in_err-push-clause-long : goal.returns-in_err-push-clause-long
returns-in_err-push-clause-long c =
    let lx : length c.index-x-k-in-loop-k.result ≡ length c.args.borrow.now = read_long c.args.x.now c.loop-k.k c.index-x-k-in-loop-k.result c.requires c.loop-k-test.true c.index-x-k-in-loop-k.is in
    ap length c.in_ok-put.ensures.ok ∙ length-zip2 (λ p q. p || q) c.loop-k.borrow c.index-x-k-in-loop-k.result (c.loop-k.invariant.long ∙ sym lx) ∙ c.loop-k.invariant.long

pub loop-k-preserved : goal.loop-k-preserved
loop-k-preserved c =
    let n : ℕ = length c.args.borrow.now in
    let k : ℕ = c.loop-k.k in
    let x : List Bool = c.index-x-k.result in
    let x' : List Bool = c.index-x-k-in-loop-k.result in
    let b : List Bool = c.loop-k.borrow in
    let ex : x ≡ plane_at c.args.x.now k = get_or_read c.args.x.now k x c.loop-k-test.true c.index-x-k.is [] in
    let ex' : x' ≡ x = get_or_read c.args.x.now k x' c.loop-k-test.true c.index-x-k-in-loop-k.is [] ∙ sym ex in
    let nx : length x ≡ n = ap length ex ∙ c.requires k c.loop-k-test.true in
    let s : List Bool = c.in_ok-plane.plane in
    let b' : List Bool = c.put.new.self in
    let es : s ≡ zip2 differ x b = c.in_ok-plane.ensures in
    let eb : b' ≡ zip2 (λ p q. p || q) b x = c.in_ok-put.ensures.ok ∙ ap (λ (p : List Bool). zip2 (λ p q. p || q) b p) ex' in
    let ls : length s ≡ n = ap length es ∙ length-zip2 differ x b (nx ∙ sym c.loop-k.invariant.long) ∙ nx in
    let lb : length b' ≡ n = ap length eb ∙ length-zip2 (λ p q. p || q) b x (c.loop-k.invariant.long ∙ sym nx) ∙ c.loop-k.invariant.long in
    record {
      long = lb;
      count = ap length c.in_ok-push.ensures.items ∙ length_push c.loop-k.planes.items s ∙ ap (λ j. j + 1) c.loop-k.invariant.count;
      planes = subst (λ (ps : List (List Bool)). AllOf n ps) (sym c.in_ok-push.ensures.items) (all_pushed n c.loop-k.planes.items s c.loop-k.invariant.planes ls);
      exact = λ v h. opposite_more n k v c.args.x.now c.loop-k.planes.items c.push.new.self.items x s b b' c.args.borrow.now c.loop-k-test.true ex nx c.loop-k.invariant.long c.loop-k.invariant.count es eb c.in_ok-push.ensures.items h (c.loop-k.invariant.exact v h);
    }
