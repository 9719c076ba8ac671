use Rattle.std.proofs.Common.{◌≡◌, ◌++◌, drop}
use Rattle.paris_session.specs.Hands.{faults_among}
use Rattle.paris_parts.proofs.texts.faults_among.Given as goal

abbrev pub invariant-loop-look : goal.invariant-loop-look
invariant-loop-look l = l.faults.items ++ faults_among (drop l.look-index l.looks) ≡ faults_among l.looks
