use Rattle.std.proofs.Common.{sym}
use Rattle.paris_exec.proofs.Besides.{fits_apart}
use Rattle.paris_exec.proofs.orders.are_fit.Goals as goal

pub returns-then-keys-values : goal.returns-then-keys-values
returns-then-keys-values c = sym (fits_apart c.args.plan.now c.args.keys.now c.args.values.now c.if-keys-values.true)
