-- Where a row stands.
use Rattle.std.specs.Prelude.{Bool, true, false}
use Rattle.paris_edits.specs.declared.rows.Status.{Status}
use Rattle.paris_edits.specs.declared.rows.Status.TheVariants.{Waiting, Out, Settled}

abbrev pub is_settled : Status → Bool
is_settled Waiting = false
is_settled Out = false
is_settled Settled = true

abbrev pub is_waiting : Status → Bool
is_waiting Waiting = true
is_waiting Out = false
is_waiting Settled = false
