use Rattle.std.proofs.Common.{◌≡◌, ◌++◌, codes, take, length}
use Rattle.std.specs.Prelude.{flat_map}
use Rattle.std.specs.Fmt.{decimal}
use Rattle.paris_session.specs.Replies.{row_line}
use Rattle.paris_session.proofs.replies.list_text.Given as goal

abbrev pub invariant-loop-look : goal.invariant-loop-look
invariant-loop-look l =
    l.text.items ≡ (codes "rows " ++ (decimal (length l.looks) ++ codes "\n")) ++ flat_map row_line (take l.look-index l.looks)
