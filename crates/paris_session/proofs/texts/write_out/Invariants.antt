use Rattle.std.proofs.Common.{◌≡◌, ℕ, List, ◌++◌}
use Rattle.std.specs.Io.KnownBytes.{Appends}
use Rattle.paris_session.proofs.texts.write_out.Given as goal

-- what was written, and what is left
abbrev pub invariant-loop : goal.invariant-loop
invariant-loop g l =
    (goal.iterator-loop g).can_next l.iterator' × (goal.iterator-loop g).is_finite l.iterator'
    × ((written : List ℕ) × Appends (g.W.Write.contents l.fn.writer) (g.W.Write.contents l.writer) written × (l.fn.text ≡ written ++ l.rest))
    × (l.tally ≡ l.fn.tally)
