use Rattle.std.proofs.Common.{◌≡◌, ◌++◌, codes, take}
use Rattle.paris_session.specs.Replies.{spaced}
use Rattle.paris_session.proofs.replies.values_text.Given as goal

abbrev pub invariant-loop-number : goal.invariant-loop-number
invariant-loop-number l = l.text.items ≡ codes "values" ++ spaced (take l.number-index l.numbers)
