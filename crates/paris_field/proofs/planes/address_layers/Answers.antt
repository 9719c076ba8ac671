use Rattle.std.proofs.Common.{◌≡◌, ◌∙◌, ap, sym, subst, arith, length}
use Rattle.paris_field.specs.Numbers.{AllOf, number_at}
use Rattle.paris_field.proofs.Addresses.{list_more, low_plane, high_plane, length-address_list, list_long, list_number}
use Rattle.paris_field.proofs.planes.address_layers.Goals as goal

pub loop-k-preserved : goal.loop-k-preserved
loop-k-preserved c =
    c.in_ok-push.ensures.items
    ∙ list_more c.args.from c.args.count c.args.vps c.loop-k.k c.loop-k.layers.items c.from_plane.result c.loop-k.invariant
    (c.from_plane.ensures ∙ c.in_ok-stripes.ensures ∙ low_plane c.args.from c.args.count c.args.vps c.loop-k.k (omega arith))

pub loop-preserved : goal.loop-preserved
loop-preserved c =
    c.in_ok-push-2.ensures.items
    ∙ list_more c.args.from c.args.count c.args.vps c.loop.counter c.loop.layers.items c.filled.result c.loop.invariant
    (c.filled.ensures ∙ high_plane c.args.from c.args.count c.args.vps c.loop.counter (omega arith))

pub returns-clause-width : goal.returns-clause-width
returns-clause-width c =
    let whole : c.loop.counter ≡ c.args.width = omega arith in
    ap length c.loop.invariant ∙ length-address_list c.args.from c.args.count c.args.vps c.loop.counter ∙ whole

pub returns-clause-long : goal.returns-clause-long
returns-clause-long c = subst (AllOf c.args.vps) (sym c.loop.invariant) (list_long c.args.from c.args.count c.args.vps c.loop.counter)

pub returns-clause-numbers : goal.returns-clause-numbers
returns-clause-numbers c = λ v h.
    ap (λ ps. number_at ps v) c.loop.invariant
    ∙ list_number c.args.from c.args.count c.args.vps c.loop.counter v (omega arith) h
