-- What is left decides.
use Rattle.std.proofs.Common.{◌≡◌, drop}
use Rattle.paris_exec.specs.Tasks.{fits_keys}
use Rattle.paris_exec.proofs.orders.are_fit.Given as goal

abbrev pub invariant-loop-i : goal.invariant-loop-i
invariant-loop-i l = fits_keys l.plan l.keys l.values ≡ fits_keys l.plan (drop l.i l.keys) (drop l.i l.values)
