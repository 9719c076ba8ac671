use Rattle.std.proofs.Common.{◌∙◌, ap, sym, length, map, not}
use Rattle.std.proofs.lemmas.List.{length-map}
use Rattle.paris_muldiv.proofs.Turned.{least_is, opposite_count, opposite_is, opposites_long}
use Rattle.paris_muldiv.proofs.signed_planes.opposite_where.Goals as goal

pub merge_in-requires-clause-mask : goal.merge_in-requires-clause-mask
merge_in-requires-clause-mask c =
    ap length c.not_in.ensures ∙ length-map c.in_ok-kept.kept not ∙ ap length c.in_ok-kept.ensures ∙ c.requires.mask
    ∙ sym (opposite_count c.args.bits c.args.x.now c.in_ok-opposite.opposite.value c.in_ok-opposite.ensures.value)

pub merge_in-requires-clause-others : goal.merge_in-requires-clause-others
merge_in-requires-clause-others c =
    λ k h. c.low.ensures.long k h ∙ sym (opposite_count c.args.bits c.args.x.now c.in_ok-opposite.opposite.value c.in_ok-opposite.ensures.value)

pub put-requires : goal.put-requires
put-requires c = opposites_long c.args.bits c.args.x.now c.in_ok-opposite.opposite.overflow c.in_ok-opposite.ensures.overflow ∙ sym c.requires.mask

pub returns-clause-value : goal.returns-clause-value
returns-clause-value c =
    opposite_is c.args.bits c.args.x.now c.in_ok-opposite.opposite.value c.merge_in.new.self c.args.mask.now c.not_in.new.self c.low.result.now
    c.requires.mask (c.not_in.ensures ∙ ap (map not) c.in_ok-kept.ensures) c.in_ok-opposite.ensures.value
    c.merge_in.ensures.width c.in_ok-merge_in.ensures.numbers c.low.ensures.at

pub returns-clause-overflow : goal.returns-clause-overflow
returns-clause-overflow c =
    least_is c.args.bits c.args.x.now c.args.mask.now c.in_ok-opposite.opposite.overflow c.put.new.self c.requires.mask c.in_ok-opposite.ensures.overflow c.in_ok-put.ensures.ok
