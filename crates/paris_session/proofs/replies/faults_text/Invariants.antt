use Rattle.std.proofs.Common.{◌≡◌, ◌++◌, codes, take, length}
use Rattle.std.specs.Prelude.{flat_map}
use Rattle.std.specs.Fmt.{decimal}
use Rattle.std.specs.String.{string_bytes}
use Rattle.paris_session.specs.Replies.{refused_row_line}
use Rattle.paris_session.proofs.replies.faults_text.Given as goal

abbrev pub invariant-loop-fault : goal.invariant-loop-fault
invariant-loop-fault l =
    string_bytes l.text ≡ (codes "faults " ++ (decimal (length l.faults) ++ codes "\n")) ++ flat_map refused_row_line (take l.fault-index l.faults)
