use Rattle.std.proofs.Common.{◌≡◌, ℕ, ◌<◌, ◌∙◌, ap, arith, length, get_or, false, List, Bool, [], sym}
use Rattle.std.proofs.lemmas.List.{get_or_read, get_or-replicate, length-replicate}
use Rattle.paris_field.specs.Numbers.{number_at, plane_at}
use Rattle.paris_plane.specs.Bits.{borrow_bit}
use Rattle.paris_field.proofs.Places.{get_triple, length_triple, read_long}
use Rattle.paris_scan.proofs.Joined.{below_more}
use Rattle.paris_scan.proofs.maxima.mark_below.Goals as goal

pub loop-k-init : goal.loop-k-init
unfolding number_at
loop-k-init c = record {
  long = ap length c.fill.ensures ∙ length-replicate (length c.args.below.now) false;
  at = λ v h. ap (λ (l : List Bool). get_or l v false) c.fill.ensures ∙ get_or-replicate (length c.args.below.now) v false false h;
}

pub put_triple-requires-clause-second : goal.put_triple-requires-clause-second
put_triple-requires-clause-second c =
    c.loop-k.invariant.long ∙ sym (read_long c.args.x.now c.loop-k.k c.index-x-k.result c.requires.x_planes c.loop-k-test.true c.index-x-k.is)

pub put_triple-requires-clause-third : goal.put_triple-requires-clause-third
put_triple-requires-clause-third c =
    c.loop-k.invariant.long ∙ sym (read_long c.args.y.now c.loop-k.k c.index-y-k.result c.requires.y_planes (omega arith) c.index-y-k.is)

pub loop-k-preserved : goal.loop-k-preserved
loop-k-preserved c =
    let n : ℕ = length c.args.below.now in
    let k : ℕ = c.loop-k.k in
    let x : List Bool = c.index-x-k.result in
    let y : List Bool = c.index-y-k.result in
    let b : List Bool = c.loop-k.below in
    let iny : k < length c.args.y.now = omega arith in
    let ex : x ≡ plane_at c.args.x.now k = get_or_read c.args.x.now k x c.loop-k-test.true c.index-x-k.is [] in
    let ey : y ≡ plane_at c.args.y.now k = get_or_read c.args.y.now k y iny c.index-y-k.is [] in
    let nx : length x ≡ n = ap length ex ∙ c.requires.x_planes k c.loop-k-test.true in
    let ny : length y ≡ n = ap length ey ∙ c.requires.y_planes k iny in
    record {
      long = ap length c.put_triple.ensures ∙ length_triple borrow_bit b x y c.loop-k.invariant.long nx ny;
      at = λ v h.
          below_more k v v c.args.x.now c.args.y.now x y (get_or b v false) (get_or c.put_triple.new.self v false) c.loop-k-test.true iny ex ey (c.loop-k.invariant.at v h)
          (ap (λ (l : List Bool). get_or l v false) c.put_triple.ensures ∙ get_triple borrow_bit b x y v c.loop-k.invariant.long nx ny h);
    }
