-- What is left decides.
use Rattle.std.proofs.Common.{◌≡◌, drop}
use Rattle.paris_plain.specs.Plain.{flags_are_bits}
use Rattle.paris_plain.proofs.inputs.flags_are_bits.Given as goal

abbrev pub invariant-loop-i : goal.invariant-loop-i
invariant-loop-i l = flags_are_bits l.keys l.values ≡ flags_are_bits (drop l.i l.keys) (drop l.i l.values)
