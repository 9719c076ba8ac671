use Rattle.std.proofs.Common.{◌∙◌, ap, length, slice_index, slice_index_or, replicate, true, false}
use Rattle.paris_model.specs.Store.{stored}
use Rattle.paris_field.specs.Numbers.{number_at}
use Rattle.paris_field.proofs.Values.{all_fit}
use Rattle.paris_exec.proofs.Puts.{widened_is}
use Rattle.paris_exec.proofs.planes.widened.Goals as goal

pub returns : goal.returns
returns c =
    widened_is c.args.x.now c.in_ok-value.value c.merge_in.new.self c.filled-all.result c.planes.result.now c.args.width
    (c.in_ok-value.ensures ∙ ap (λ n. record { width = c.args.width; numbers = replicate n 0 }) c.len-vps.ensures)
    (c.filled-all.ensures ∙ ap (λ n. replicate n true) c.len-vps.ensures)
    (all_fit (length c.args.x.now.numbers) c.planes.result.now c.planes.ensures.value)
    c.planes.ensures.at
    c.merge_in.ensures.width
    (c.in_ok-merge_in.ensures.numbers ∙ ap (λ w. stored (length c.in_ok-value.value.numbers) (λ v. slice_index_or c.filled-all.result v false) (slice_index c.in_ok-value.value.numbers) w (number_at c.planes.result.now)) c.width.ensures.value)
