use Rattle.std.proofs.Common.{◌≡◌, ◌<◌, arith, length, List, Bool, []}
use Rattle.std.specs.Simd.Lanes.{zip2}
use Rattle.std.proofs.lemmas.List.{get_or_read}
use Rattle.paris_field.specs.Numbers.{plane_at}
use Rattle.paris_field.proofs.Places.{zip2_more}
use Rattle.paris_alu.proofs.planes.combined_planes.Goals as goal

pub loop-k-preserved : goal.loop-k-preserved
loop-k-preserved g c =
    let iny : c.loop-k.k < length c.args.y.now = omega arith in
    let x : List Bool = c.index-x-k.result in
    let y : List Bool = c.index-y-k.result in
    let ex : x ≡ plane_at c.args.x.now c.loop-k.k = get_or_read c.args.x.now c.loop-k.k x c.loop-k-test.true c.index-x-k.is [] in
    let ey : y ≡ plane_at c.args.y.now c.loop-k.k = get_or_read c.args.y.now c.loop-k.k y iny c.index-y-k.is [] in
    zip2_more (zip2 g.O.WordOp.bit) c.loop-k.k c.args.x.now c.args.y.now x y c.in_ok-plane.plane c.loop-k.planes.items c.push.new.self.items c.loop-k-test.true iny ex ey c.in_ok-plane.ensures c.loop-k.invariant c.in_ok-push.ensures.items
