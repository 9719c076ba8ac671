use Rattle.std.proofs.Common.{◌∙◌, ap, ℕ, Bool}
use Rattle.paris_exec.specs.Tasks.{put_value_where}
use Rattle.paris_exec.proofs.Operands.{ok_then}
use Rattle.paris_exec.proofs.Puts.{mask_selects}
use Rattle.paris_exec.proofs.planes.put.Goals as goal

pub returns : goal.returns
returns c =
    ok_then _ _ c.put_where.result (λ value is.
    is ∙ ap (λ (who : ℕ → Bool). put_value_where c.args.order.now who c.args.key.now c.args.new) (mask_selects c.args.order.now c.flag_plane.result.now c.flag_plane.ensures.bits))
    c.put_where.ensures
