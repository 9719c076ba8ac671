use Rattle.std.proofs.Common.{◌≡◌, ◌<◌, sym, List, Bool, [], arith, length, get_or, false, subst}
use Rattle.std.proofs.lemmas.List.{get_or_read}
use Rattle.paris_field.specs.Numbers.{has, plane_at}
use Rattle.paris_scan.specs.Brings.{Among, Brings}
use Rattle.paris_scan.proofs.Brought.{numbers_brought}
use Rattle.paris_scan.proofs.partner.bring_planes.Goals as goal

pub bring-requires-clause-partner : goal.bring-requires-clause-partner
bring-requires-clause-partner c =
    let is : c.index-source-k.result ≡ plane_at c.args.source.now c.loop-k.k = get_or_read c.args.source.now c.loop-k.k c.index-source-k.result c.loop-k-test.true c.index-source-k.is [] in
    subst (λ (p : List Bool). Among (length p) c.args.partner.now) (sym is) (c.requires.partner c.loop-k.k c.loop-k-test.true)

pub returns-clause-brought : goal.returns-clause-brought
returns-clause-brought c =
    λ n v all h.
    numbers_brought c.args.partner.now n v c.args.source.now c.loop-k.out (omega arith) (λ j below.
    let there : j < length c.args.source.now = omega (arith, below) in
    subst (λ m. Brings false c.args.partner.now m (has (plane_at c.args.source.now j)) v (get_or (plane_at c.loop-k.out j) v false)) (all j there) (c.loop-k.invariant.brought j (omega (arith, there)) v (omega (arith, h, all j there))))
