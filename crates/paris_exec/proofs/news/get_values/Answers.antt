use Rattle.std.proofs.Common.{◌≤◌, ◌<◌, ◌∙◌, List, ℕ, refl, sym, ap, subst, length}
use Rattle.paris_names.specs.declared.keys.Key.TheVariants.{Field}
use Rattle.paris_geometry.specs.Geometry.{processor_count}
use Rattle.paris_model.specs.declared.actions.News.TheVariants.{Get}
use Rattle.paris_model.specs.Instructions.{Plan, key_width}
use Rattle.paris_field.specs.Fields.{FieldNumbers}
use Rattle.paris_news.specs.News.{moved_field}
use Rattle.paris_exec.proofs.Operands.{ok_then, value_wide, numbers_count, narrow_length}
use Rattle.paris_exec.proofs.Neighbours.{source_read, both_read, axis_there, target_wide, source_wide, get_left}
use Rattle.paris_exec.proofs.news.get_values.Goals as goal

pub input-x-requires : goal.input-x-requires
input-x-requires c = source_read c.args.order.now (Get c.args.to.now c.args.from.now c.args.axis c.args.direction c.args.bits) c.requires.acts

pub shift-requires-clause-axis : goal.shift-requires-clause-axis
shift-requires-clause-axis c =
    subst (λ (axes : List ℕ). c.args.axis < length axes) (sym (c.geometry-geometry.ensures ∙ ap (λ (p : Plan). p.axes) c.plan.ensures)) (axis_there c.args.order.now (Get c.args.to.now c.args.from.now c.args.axis c.args.direction c.args.bits) c.requires.acts c.requires.fit)

pub shift-requires-clause-narrow : goal.shift-requires-clause-narrow
shift-requires-clause-narrow c = narrow_length c.args.order.now c.args.to.now.field c.args.bits c.requires.fit (target_wide c.args.order.now (Get c.args.to.now c.args.from.now c.args.axis c.args.direction c.args.bits) c.requires.acts c.requires.fit c.args.bits refl)

pub shift-requires-clause-x_width : goal.shift-requires-clause-x_width
shift-requires-clause-x_width c =
    value_wide c.args.order.now (Field c.args.from.now.field) c.input-x.result.now c.args.bits c.input-x.ensures.value (source_wide c.args.order.now (Get c.args.to.now c.args.from.now c.args.axis c.args.direction c.args.bits) c.requires.acts c.requires.fit c.args.bits refl)

pub shift-requires-clause-count : goal.shift-requires-clause-count
shift-requires-clause-count c = c.input-x.ensures.count ∙ ap processor_count (sym (c.geometry-geometry.ensures ∙ ap (λ (p : Plan). p.axes) c.plan.ensures))

pub put_field-requires-clause-read : goal.put_field-requires-clause-read
put_field-requires-clause-read c = both_read c.args.order.now (Get c.args.to.now c.args.from.now c.args.axis c.args.direction c.args.bits) c.requires.acts

pub put_field-requires-clause-fits_key : goal.put_field-requires-clause-fits_key
put_field-requires-clause-fits_key c =
    subst (λ (y : FieldNumbers). y.width ≤ key_width c.args.order.now.plan (Field c.args.to.now.field)) (sym c.in_ok-new.ensures) (target_wide c.args.order.now (Get c.args.to.now c.args.from.now c.args.axis c.args.direction c.args.bits) c.requires.acts c.requires.fit c.args.bits refl)

pub put_field-requires-clause-count : goal.put_field-requires-clause-count
put_field-requires-clause-count c = numbers_count c.in_ok-new.new c.args.bits (processor_count c.geometry-geometry.result) _ _ c.in_ok-new.ensures (ap processor_count (c.geometry-geometry.ensures ∙ ap (λ (p : Plan). p.axes) c.plan.ensures))

pub returns : goal.returns
returns c =
    ok_then _ _ c.put_field.result (λ values is.
    is
    ∙ get_left c.args.order.now c.args.to.now c.args.from.now c.args.axis c.args.direction c.args.bits c.input-x.result.now c.input-x.ensures.value c.requires.acts c.in_ok-new.new
    (c.in_ok-new.ensures ∙ ap (λ (axes : List ℕ). moved_field axes c.args.axis c.args.direction c.args.bits c.input-x.result.now) (c.geometry-geometry.ensures ∙ ap (λ (p : Plan). p.axes) c.plan.ensures)))
    c.put_field.ensures
