use Rattle.std.proofs.Common.{ap, ◌∙◌}
use Rattle.paris_field.specs.Fields.{FieldNumbers}
use Rattle.paris_exec.proofs.Executed.{flag_width}
use Rattle.paris_exec.proofs.planes.flag_plane.Goals as goal

pub mask-requires : goal.mask-requires
mask-requires c = ap (λ (y : FieldNumbers). y.width) c.input.ensures.value ∙ flag_width c.args.order.now.plan c.set.result c.args.flag.now
