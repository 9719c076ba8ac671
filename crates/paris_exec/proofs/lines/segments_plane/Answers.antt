use Rattle.std.proofs.Common.{◌∙◌, ◌==◌, ap, sym, length, slice_index}
use Rattle.paris_model.specs.Lines.{begins_segment}
use Rattle.paris_field.specs.Fields.{FieldNumbers}
use Rattle.paris_field.proofs.Places.{length-bits_everywhere}
use Rattle.paris_exec.specs.Tasks.{frame_at}
use Rattle.paris_exec.proofs.AlongLines.{has_ones}
use Rattle.paris_exec.proofs.Operands.{ok_then}
use Rattle.paris_exec.proofs.lines.segments_plane.Goals as goal

pub returns-in-Some-clause-begins : goal.returns-in-Some-clause-begins
returns-in-Some-clause-begins c =
    ok_then _ _ c.where_one.result (λ plane is v.
    has_ones c.input.result.now.numbers plane v is
    ∙ ap (λ (y : FieldNumbers). slice_index y.numbers v == 1) c.input.ensures.value
    ∙ ap (λ o. begins_segment (frame_at c.args.order.now) o v) (sym c.in-Some.is))
    c.where_one.ensures

pub returns-in-Some-clause-count : goal.returns-in-Some-clause-count
returns-in-Some-clause-count c = ok_then _ _ c.where_one.result (λ plane is. ap length is ∙ length-bits_everywhere _ _ ∙ c.input.ensures.count) c.where_one.ensures
