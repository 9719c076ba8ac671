use Rattle.std.proofs.Common.{◌≤◌, ◌∙◌, None, refl, sym, ap, subst}
use Rattle.paris_names.specs.declared.keys.Key.TheVariants.{Field}
use Rattle.paris_geometry.specs.Geometry.{processor_count}
use Rattle.paris_model.specs.declared.actions.Line.TheVariants.{Reduce}
use Rattle.paris_model.specs.Instructions.{Plan, key_width}
use Rattle.paris_field.specs.Fields.{FieldNumbers}
use Rattle.paris_scan.specs.Lines.{of_lines}
use Rattle.paris_exec.proofs.AlongLines.{line_context_read, line_flags_read, line_source_read, line_source_wide, line_target_read, line_target_wide, reduce_left, sum_flags}
use Rattle.paris_exec.proofs.Operands.{bits_count, numbers_count, ok_then, value_wide}
use Rattle.paris_exec.proofs.lines.reduce_values.Goals as goal

pub input-x-requires : goal.input-x-requires
input-x-requires c =
    line_source_read c.args.order.now (Reduce c.args.combiner c.args.to.now c.args.from.now c.args.axis c.args.bits c.args.place) c.requires.acts c.args.from.now None refl

pub flag_plane-selected-requires : goal.flag_plane-selected-requires
flag_plane-selected-requires c =
    line_context_read c.args.order.now (Reduce c.args.combiner c.args.to.now c.args.from.now c.args.axis c.args.bits c.args.place) c.requires.acts

pub reduce-requires-clause-x_width : goal.reduce-requires-clause-x_width
reduce-requires-clause-x_width c =
    value_wide c.args.order.now (Field c.args.from.now.field) c.input-x.result.now c.args.bits c.input-x.ensures.value (line_source_wide c.args.order.now (Reduce c.args.combiner c.args.to.now c.args.from.now c.args.axis c.args.bits c.args.place) c.requires.acts c.args.from.now None refl c.requires.fit refl)

pub put_combined-requires-clause-mask : goal.put_combined-requires-clause-mask
put_combined-requires-clause-mask c =
    bits_count c.in_ok-reduced.reduced.stores (processor_count c.geometry-geometry.result) _ _ c.in_ok-reduced.ensures.stores (ap processor_count (c.geometry-geometry.ensures ∙ ap (λ (p : Plan). p.axes) c.plan.ensures))

pub put_combined-requires-clause-read : goal.put_combined-requires-clause-read
put_combined-requires-clause-read c =
    line_target_read c.args.order.now (Reduce c.args.combiner c.args.to.now c.args.from.now c.args.axis c.args.bits c.args.place) c.requires.acts

pub put_combined-requires-clause-fits_key : goal.put_combined-requires-clause-fits_key
put_combined-requires-clause-fits_key c =
    subst (λ (y : FieldNumbers). y.width ≤ key_width c.args.order.now.plan (Field c.args.to.now.field)) (sym c.in_ok-reduced.ensures.value) (line_target_wide c.args.order.now (Reduce c.args.combiner c.args.to.now c.args.from.now c.args.axis c.args.bits c.args.place) c.requires.acts c.args.from.now None refl c.requires.fit refl)

pub put_combined-requires-clause-count : goal.put_combined-requires-clause-count
put_combined-requires-clause-count c =
    numbers_count c.in_ok-reduced.reduced.combined.value c.args.bits (processor_count c.geometry-geometry.result) _ _ c.in_ok-reduced.ensures.value (ap processor_count (c.geometry-geometry.ensures ∙ ap (λ (p : Plan). p.axes) c.plan.ensures))

pub put_combined-requires-clause-flags : goal.put_combined-requires-clause-flags
put_combined-requires-clause-flags c =
    line_flags_read c.args.order.now (Reduce c.args.combiner c.args.to.now c.args.from.now c.args.axis c.args.bits c.args.place) c.requires.acts c.in_ok-reduced.reduced.combined.overflow c.args.bits (processor_count c.geometry-geometry.result) (of_lines c.geometry-geometry.result c.args.axis c.flag_plane-selected.result.now c.args.bits c.input-x.result.now) (sum_flags c.args.combiner c.in_ok-reduced.reduced.combined.overflow c.in_ok-reduced.ensures.sums) c.in_ok-reduced.ensures.overflow (ap processor_count (c.geometry-geometry.ensures ∙ ap (λ (p : Plan). p.axes) c.plan.ensures))

pub returns : goal.returns
returns c =
    ok_then _ _ c.put_combined.result (λ values is.
    is ∙ reduce_left c.args.order.now c.args.from.now c.args.bits c.input-x.result.now c.input-x.ensures.value c.flag_plane-selected.result.now c.flag_plane-selected.ensures.bits c.args.to.now c.args.axis c.geometry-geometry.result (c.geometry-geometry.ensures ∙ ap (λ (p : Plan). p.axes) c.plan.ensures) c.in_ok-reduced.reduced.combined.value
    c.args.combiner c.args.place c.requires.acts c.in_ok-reduced.reduced.combined.overflow c.in_ok-reduced.reduced.stores c.in_ok-reduced.ensures.value c.in_ok-reduced.ensures.overflow c.in_ok-reduced.ensures.sums c.in_ok-reduced.ensures.stores)
    c.put_combined.ensures
