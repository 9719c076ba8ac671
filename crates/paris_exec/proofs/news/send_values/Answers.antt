use Rattle.std.proofs.Common.{◌≤◌, ◌<◌, ◌∙◌, ◌++◌, ◌∷◌, [], List, ℕ, refl, sym, ap, subst, length}
use Rattle.paris_names.specs.declared.keys.Key.TheVariants.{Field}
use Rattle.paris_geometry.specs.Geometry.{processor_count}
use Rattle.paris_model.specs.declared.actions.News.TheVariants.{Send}
use Rattle.paris_model.specs.Instructions.{Plan, key_width}
use Rattle.paris_field.specs.Fields.{FieldNumbers}
use Rattle.paris_news.specs.News.{sent_field, sent_plane}
use Rattle.paris_exec.proofs.Operands.{value_wide, numbers_count, bits_count, narrow_length}
use Rattle.paris_exec.proofs.Neighbours.{source_read, context_read, target_read, axis_there, target_wide, source_wide, send_left}
use Rattle.paris_exec.proofs.news.send_values.Goals as goal

pub input-x-requires : goal.input-x-requires
input-x-requires c = source_read c.args.order.now (Send c.args.to.now c.args.from.now c.args.axis c.args.direction c.args.bits) c.requires.acts

pub flag_plane-selected-requires : goal.flag_plane-selected-requires
flag_plane-selected-requires c = context_read c.args.order.now (Send c.args.to.now c.args.from.now c.args.axis c.args.direction c.args.bits) c.requires.acts

pub send-requires-clause-axis : goal.send-requires-clause-axis
send-requires-clause-axis c =
    subst (λ (axes : List ℕ). c.args.axis < length axes) (sym (c.geometry-geometry.ensures ∙ ap (λ (p : Plan). p.axes) c.plan.ensures)) (axis_there c.args.order.now (Send c.args.to.now c.args.from.now c.args.axis c.args.direction c.args.bits) c.requires.acts c.requires.fit)

pub send-requires-clause-narrow : goal.send-requires-clause-narrow
send-requires-clause-narrow c = narrow_length c.args.order.now c.args.to.now.field c.args.bits c.requires.fit (target_wide c.args.order.now (Send c.args.to.now c.args.from.now c.args.axis c.args.direction c.args.bits) c.requires.acts c.requires.fit c.args.bits refl)

pub send-requires-clause-x_width : goal.send-requires-clause-x_width
send-requires-clause-x_width c =
    value_wide c.args.order.now (Field c.args.from.now.field) c.input-x.result.now c.args.bits c.input-x.ensures.value (source_wide c.args.order.now (Send c.args.to.now c.args.from.now c.args.axis c.args.direction c.args.bits) c.requires.acts c.requires.fit c.args.bits refl)

pub send-requires-clause-count : goal.send-requires-clause-count
send-requires-clause-count c = c.input-x.ensures.count ∙ ap processor_count (sym (c.geometry-geometry.ensures ∙ ap (λ (p : Plan). p.axes) c.plan.ensures))

pub send-requires-clause-selected : goal.send-requires-clause-selected
send-requires-clause-selected c = c.flag_plane-selected.ensures.count ∙ ap processor_count (sym (c.geometry-geometry.ensures ∙ ap (λ (p : Plan). p.axes) c.plan.ensures))

pub put_where-requires-clause-mask : goal.put_where-requires-clause-mask
put_where-requires-clause-mask c = bits_count c.in_ok-sent.sent.receivers (processor_count c.geometry-geometry.result) _ _ c.in_ok-sent.ensures.receivers (ap processor_count (c.geometry-geometry.ensures ∙ ap (λ (p : Plan). p.axes) c.plan.ensures))

pub put_where-requires-clause-read : goal.put_where-requires-clause-read
put_where-requires-clause-read c = target_read c.args.order.now (Send c.args.to.now c.args.from.now c.args.axis c.args.direction c.args.bits) c.requires.acts

pub put_where-requires-clause-fits_key : goal.put_where-requires-clause-fits_key
put_where-requires-clause-fits_key c =
    subst (λ (y : FieldNumbers). y.width ≤ key_width c.args.order.now.plan (Field c.args.to.now.field)) (sym c.in_ok-sent.ensures.value)
    (target_wide c.args.order.now (Send c.args.to.now c.args.from.now c.args.axis c.args.direction c.args.bits) c.requires.acts c.requires.fit c.args.bits refl)

pub put_where-requires-clause-count : goal.put_where-requires-clause-count
put_where-requires-clause-count c = numbers_count c.in_ok-sent.sent.value c.args.bits (processor_count c.geometry-geometry.result) _ _ c.in_ok-sent.ensures.value (ap processor_count (c.geometry-geometry.ensures ∙ ap (λ (p : Plan). p.axes) c.plan.ensures))

pub returns : goal.returns
returns c =
    c.in_ok-push.ensures.items
    ∙ ap (λ (ys : List FieldNumbers). ys ++ c.in_ok-put_where.field-0 ∷ []) c.in_ok-values.ensures.items
    ∙ ap (λ (y : FieldNumbers). y ∷ []) c.in_ok-put_where.ensures
    ∙ send_left c.args.order.now c.args.to.now c.args.from.now c.args.axis c.args.direction c.args.bits c.input-x.result.now c.input-x.ensures.value c.requires.acts c.in_ok-sent.sent.value c.flag_plane-selected.result.now c.in_ok-sent.sent.receivers
    (c.in_ok-sent.ensures.value ∙ ap (λ (axes : List ℕ). sent_field axes c.args.axis c.args.direction c.args.bits c.input-x.result.now) (c.geometry-geometry.ensures ∙ ap (λ (p : Plan). p.axes) c.plan.ensures))
    c.flag_plane-selected.ensures.bits
    (c.in_ok-sent.ensures.receivers ∙ ap (λ (axes : List ℕ). sent_plane axes c.args.axis c.args.direction c.flag_plane-selected.result.now) (c.geometry-geometry.ensures ∙ ap (λ (p : Plan). p.axes) c.plan.ensures))
