use Rattle.std.proofs.Common.{◌∙◌, ◌^◌, ◌<◌, ap, sym, subst, length, replicate}
use Rattle.paris_model.specs.declared.operators.Comparison.TheVariants.{Equal}
use Rattle.paris_alu.specs.Alu.{comparison_plane}
use Rattle.paris_field.proofs.Values.{all_fit}
use Rattle.paris_exec.proofs.AlongLines.{one_below, ones_compared}
use Rattle.paris_exec.proofs.Operands.{ok_then}
use Rattle.paris_exec.proofs.lines.where_one.Goals as goal

pub constant-requires-clause-fits : goal.constant-requires-clause-fits
constant-requires-clause-fits c = subst (λ w. 1 < 2 ^ w) (sym c.width.ensures.value) (one_below c.args.x.now.width c.requires)

pub returns : goal.returns
returns c =
    ok_then _ _ c.compare.result (λ plane is.
    ones_compared c.args.x.now c.in_ok-one.one plane c.requires (all_fit (length c.args.x.now.numbers) c.planes.result.now c.planes.ensures.value)
    (c.in_ok-one.ensures ∙ ap (λ w. record { width = w; numbers = replicate c.len.result 1 }) c.width.ensures.value ∙ ap (λ n. record { width = c.args.x.now.width; numbers = replicate n 1 }) c.len.ensures)
    (is ∙ ap (λ w. comparison_plane Equal w c.args.x.now c.in_ok-one.one) c.planes.ensures.count))
    c.compare.ensures
