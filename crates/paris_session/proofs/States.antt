-- The state of a session's book is one that a book can have.
use Rattle.std.proofs.Common.{ℕ, List, [], ◌∷◌, Option, Some, None, false, refl}
use Rattle.paris_names.specs.declared.profiles.Profile.TheVariants.{One}
use Rattle.paris_book.specs.Laws.{IsBookState}
use Rattle.paris_book.proofs.Lawful.{settled_goes_on, state_goes_on}
use Rattle.paris_session.specs.declared.asked.Asked.{Asked}
use Rattle.paris_session.specs.declared.asked.Asked.TheVariants as asks
use Rattle.paris_session.specs.Hands.{asked}
use Rattle.paris_session.specs.Transcript.{Sitting, start, answer_to, answer_if, answer, after_lines}

asked_goes_on : (s : Sitting) (a : Asked) → IsBookState s.state → IsBookState (answer_to s a).0.state
asked_goes_on s (asks.Call e) is = state_goes_on s.state (e ∷ []) is
asked_goes_on s (asks.Look key spot) is = is
asked_goes_on s asks.Faults is = is
asked_goes_on s asks.Settle is = settled_goes_on s.state is
asked_goes_on s (asks.Chosen profile) is = (profile, 0, [], refl)
asked_goes_on s (asks.Refused fault) is = is

answer_goes_on : (s : Sitting) (line : List ℕ) → IsBookState s.state → IsBookState (answer s line).0.state
unfolding answer
answer_goes_on s line is = by_asked (asked false s.hand line)
  where
    by_asked : (o : Option Asked) → IsBookState (answer_if s o).0.state
    by_asked None = is
    by_asked (Some a) = asked_goes_on s a is

-- whatever lines a session answers that is at such a state
pub lines_from : (s : Sitting) (ls : List (List ℕ)) → IsBookState s.state → IsBookState (after_lines s ls).state
lines_from s [] is = is
lines_from s (line ∷ ls) is = lines_from (answer s line).0 ls (answer_goes_on s line is)

-- whatever lines a session has answered
pub lines_go_on : (ls : List (List ℕ)) → IsBookState (after_lines start ls).state
lines_go_on ls = lines_from start ls (One, 0, [], refl)
