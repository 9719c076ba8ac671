use Rattle.std.proofs.Common.{◌≤◌, ◌∙◌, refl, sym, ap, subst}
use Rattle.paris_names.specs.declared.keys.Key.TheVariants.{Field}
use Rattle.paris_geometry.specs.Geometry.{processor_count}
use Rattle.paris_model.specs.declared.actions.Line.TheVariants.{CopyScan}
use Rattle.paris_model.specs.Instructions.{Plan, key_width}
use Rattle.paris_field.specs.Fields.{FieldNumbers}
use Rattle.paris_exec.proofs.AlongLines.{copy_scan_left, line_context_read, line_segments_read, line_source_read, line_source_wide, line_target_read, line_target_wide}
use Rattle.paris_exec.proofs.Operands.{numbers_count, ok_then, value_wide}
use Rattle.paris_exec.proofs.lines.copy_scan_values.Goals as goal

pub input-x-requires : goal.input-x-requires
input-x-requires c =
    line_source_read c.args.order.now (CopyScan c.args.to.now c.args.from.now c.args.axis c.args.bits c.args.direction c.args.segments.now) c.requires.acts c.args.from.now c.args.segments.now refl

pub flag_plane-selected-requires : goal.flag_plane-selected-requires
flag_plane-selected-requires c =
    line_context_read c.args.order.now (CopyScan c.args.to.now c.args.from.now c.args.axis c.args.bits c.args.direction c.args.segments.now) c.requires.acts

pub segments_plane-requires : goal.segments_plane-requires
segments_plane-requires c =
    line_segments_read c.args.order.now (CopyScan c.args.to.now c.args.from.now c.args.axis c.args.bits c.args.direction c.args.segments.now) c.requires.acts c.args.from.now c.args.segments.now refl c.requires.fit

pub copy_scan-requires-clause-x_width : goal.copy_scan-requires-clause-x_width
copy_scan-requires-clause-x_width c =
    value_wide c.args.order.now (Field c.args.from.now.field) c.input-x.result.now c.args.bits c.input-x.ensures.value (line_source_wide c.args.order.now (CopyScan c.args.to.now c.args.from.now c.args.axis c.args.bits c.args.direction c.args.segments.now) c.requires.acts c.args.from.now c.args.segments.now refl c.requires.fit refl)

pub put_combined-requires-clause-read : goal.put_combined-requires-clause-read
put_combined-requires-clause-read c =
    line_target_read c.args.order.now (CopyScan c.args.to.now c.args.from.now c.args.axis c.args.bits c.args.direction c.args.segments.now) c.requires.acts

pub put_combined-requires-clause-fits_key : goal.put_combined-requires-clause-fits_key
put_combined-requires-clause-fits_key c =
    subst (λ (y : FieldNumbers). y.width ≤ key_width c.args.order.now.plan (Field c.args.to.now.field)) (sym c.in_ok-value.ensures) (line_target_wide c.args.order.now (CopyScan c.args.to.now c.args.from.now c.args.axis c.args.bits c.args.direction c.args.segments.now) c.requires.acts c.args.from.now c.args.segments.now refl c.requires.fit refl)

pub put_combined-requires-clause-count : goal.put_combined-requires-clause-count
put_combined-requires-clause-count c =
    numbers_count c.in_ok-value.value c.args.bits (processor_count c.geometry-geometry.result) _ _ c.in_ok-value.ensures (ap processor_count (c.geometry-geometry.ensures ∙ ap (λ (p : Plan). p.axes) c.plan.ensures))

pub returns : goal.returns
returns c =
    ok_then _ _ c.put_combined.result (λ values is.
    is ∙ copy_scan_left c.args.order.now c.args.from.now c.args.bits c.input-x.result.now c.input-x.ensures.value c.flag_plane-selected.result.now c.flag_plane-selected.ensures.bits c.args.to.now c.args.axis c.geometry-geometry.result (c.geometry-geometry.ensures ∙ ap (λ (p : Plan). p.axes) c.plan.ensures) c.in_ok-value.value
    c.args.direction c.args.segments.now c.requires.acts c.in_ok-begins.begins c.in_ok-begins.ensures.begins c.in_ok-value.ensures)
    c.put_combined.ensures
