-- What is answered to each line of a script, and what is written for a whole script.
use Rattle.std.specs.Prelude.{ℕ, true, false, nat_eq, List, [], ◌∷◌, ◌++◌, Option, Some, None}
use Rattle.std.specs.List.{slice_split}
use Rattle.paris_exec.specs.Tasks.{Task}
use Rattle.paris_events.specs.State.{State, empty_state, empty_state_of}
use Rattle.paris_events.specs.Events.{reply_to, after}
use Rattle.paris_events.specs.Settling.{all_settled, due}
use Rattle.paris_events.specs.Lists.{list_of}
use Rattle.paris_events.specs.declared.events.Event.TheVariants as event
use Rattle.paris_session.specs.Hands.{Hand, hand, empty_hand, asked, faults_told, plainly, refused, told}
use Rattle.paris_session.specs.Replies.{ok_text, settled_text}
use Rattle.paris_session.specs.declared.asked.Asked.{Asked}
use Rattle.paris_session.specs.declared.asked.Asked.TheVariants as asks

-- a session: the state of its book, and what it has in hand
pub record Sitting : Type 0 where
  pub state : State
  pub hand : Hand

-- it begins with an empty book, and its first command may choose the profile
abbrev pub start : Sitting
start = record { state = empty_state 0; hand = empty_hand true }

-- a session with its book in this state and with this tray
abbrev pub with_book : Sitting → State → List Task → Sitting
with_book s state tray = record { state = state; hand = hand false tray s.hand.commands s.hand.refusals }

-- a session whose book is in a state, and what it tells
abbrev pub tells : State → Hand × List ℕ → Sitting × List ℕ
tells state t = (record { state = state; hand = t.0 }, t.1)

-- the session after what a command asks for, and its reply. Every row is settled by one order for each that was due, and a profile is
-- chosen of a book that is empty
abbrev pub answer_to : Sitting → Asked → Sitting × List ℕ
answer_to s (asks.Call e) = tells (after s.state e) (told s.hand (reply_to s.state e))
answer_to s (asks.Look key spot) = tells s.state (told s.hand (reply_to s.state (event.Show key spot)))
answer_to s asks.Faults = tells s.state (faults_told s.hand (list_of s.state))
answer_to s asks.Settle = tells (all_settled s.state) (plainly s.hand (settled_text (due s.state)))
answer_to s (asks.Chosen profile) = tells (empty_state_of profile 0) (plainly s.hand ok_text)
answer_to s (asks.Refused fault) = tells s.state (refused s.hand fault)

-- the session after a line, and what is written for it, which is nothing where the line asks for nothing
abbrev pub answer_if : Sitting → Option Asked → Sitting × List ℕ
answer_if s None = (s, [])
answer_if s (Some a) = answer_to s a

unfoldable pub answer : Sitting → List ℕ → Sitting × List ℕ
answer s line = answer_if s (asked false s.hand line)

-- the session after some lines
abbrev pub after_lines : Sitting → List (List ℕ) → Sitting
after_lines s [] = s
after_lines s (line ∷ lines) = after_lines (answer s line).0 lines

-- what is written for some lines
abbrev pub replies : Sitting → List (List ℕ) → List ℕ
replies s [] = []
replies s (line ∷ lines) = (answer s line).1 ++ replies (answer s line).0 lines

-- a script is cut at each line feed. What stands behind the last one is a line too, and is skipped where it is empty
abbrev pub lines : List ℕ → List (List ℕ)
lines bytes = slice_split (λ b. nat_eq b 10) bytes

-- the lines that a line feed ends: all but the last
abbrev pub all_but_last : List (List ℕ) → List (List ℕ)
all_but_last [] = []
all_but_last (line ∷ []) = []
all_but_last (line ∷ next ∷ rest) = line ∷ all_but_last (next ∷ rest)

-- what is written for a whole script
unfoldable pub transcript : List ℕ → List ℕ
transcript bytes = replies start (lines bytes)

-- what is written for its ended lines
unfoldable pub transcript_of_ended : List ℕ → List ℕ
transcript_of_ended bytes = replies start (all_but_last (lines bytes))

-- the session after a whole script
unfoldable pub sitting_after : List ℕ → Sitting
sitting_after bytes = after_lines start (lines bytes)
