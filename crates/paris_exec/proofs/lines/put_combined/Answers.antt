use Rattle.std.proofs.Common.{◌≤◌, arith, sym, subst}
use Rattle.paris_names.specs.declared.keys.FlagName.TheVariants.{Overflow}
use Rattle.paris_field.specs.Fields.{FieldNumbers}
use Rattle.paris_exec.proofs.Executed.{flag_width}
use Rattle.paris_exec.proofs.lines.put_combined.Goals as goal

pub put_where-requires-in-Some-clause-fits_key : goal.put_where-requires-in-Some-clause-fits_key
put_where-requires-in-Some-clause-fits_key c =
    let one : 1 ≤ 1 = omega arith in
    subst (λ w. c.in_ok-bits-in-Some.bits.width ≤ w) (sym (flag_width c.args.order.now.plan c.set.result Overflow)) (subst (λ (y : FieldNumbers). y.width ≤ 1) (sym c.in_ok-bits-in-Some.ensures) one)
