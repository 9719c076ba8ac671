use Rattle.std.proofs.Common.{◌∙◌, sym}
use Rattle.paris_muldiv.proofs.Turned.{least_long, product_long, signed_overflows, signed_values, unlike_long, wide_long}
use Rattle.paris_muldiv.proofs.signed_planes.signed_product_on_planes.Goals as goal

pub opposite_where-requires-clause-mask : goal.opposite_where-requires-clause-mask
opposite_where-requires-clause-mask c =
    unlike_long c.args.bits c.args.x.now c.args.y.now c.in_ok-unlike.unlike c.in_ok-unlike.ensures
    ∙ sym (product_long c.args.bits c.args.x.now c.in_ok-x_values.x_values c.in_ok-y_values.y_values c.in_ok-product.product.value c.in_ok-x_values.ensures c.in_ok-product.ensures.value)

pub put_overflow-requires-clause-wide : goal.put_overflow-requires-clause-wide
put_overflow-requires-clause-wide c =
    wide_long c.args.bits c.args.x.now c.in_ok-x_values.x_values c.in_ok-y_values.y_values c.in_ok-product.product.overflow c.in_ok-x_values.ensures c.in_ok-product.ensures.overflow
    ∙ sym (product_long c.args.bits c.args.x.now c.in_ok-x_values.x_values c.in_ok-y_values.y_values c.in_ok-product.product.value c.in_ok-x_values.ensures c.in_ok-product.ensures.value)
    ∙ sym (least_long c.args.bits c.in_ok-product.product.value c.in_ok-unlike.unlike c.in_ok-signed.signed.overflow c.in_ok-signed.ensures.overflow)

pub put_overflow-requires-clause-top : goal.put_overflow-requires-clause-top
put_overflow-requires-clause-top c =
    c.plane-top.ensures.long ∙ sym (least_long c.args.bits c.in_ok-product.product.value c.in_ok-unlike.unlike c.in_ok-signed.signed.overflow c.in_ok-signed.ensures.overflow)

pub returns-clause-value : goal.returns-clause-value
returns-clause-value c =
    c.in_ok-signed.ensures.value
    ∙ signed_values c.args.bits c.args.x.now c.args.y.now c.in_ok-x_values.x_values c.in_ok-y_values.y_values c.in_ok-product.product.value c.in_ok-unlike.unlike
    c.requires.same c.in_ok-unlike.ensures c.in_ok-x_values.ensures c.in_ok-y_values.ensures c.in_ok-product.ensures.value

pub returns-clause-overflow : goal.returns-clause-overflow
returns-clause-overflow c =
    c.in_ok-put_overflow.ensures
    ∙ signed_overflows c.args.bits c.args.x.now c.args.y.now c.in_ok-x_values.x_values c.in_ok-y_values.y_values c.in_ok-product.product.value c.in_ok-unlike.unlike
    c.in_ok-product.product.overflow c.plane-top.result.now c.in_ok-signed.signed.overflow c.requires.positive
    c.requires.same c.in_ok-unlike.ensures c.in_ok-x_values.ensures c.in_ok-y_values.ensures c.in_ok-product.ensures.value
    c.in_ok-product.ensures.overflow c.plane-top.ensures.at c.in_ok-signed.ensures.overflow
