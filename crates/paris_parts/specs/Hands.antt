-- What is answered to the lines of a part by a session that has a seat: its orders are its own, and of the book it knows the replies to
-- its calls and what it looks at.
use Rattle.std.specs.Prelude.{◌≡◌, ℕ, true, Option, None, Some, List, [], ◌∷◌, ◌++◌}
use mathlib.Core.List.{IsPrefix}
use Rattle.paris_names.specs.declared.faults.Fault.TheVariants.{Syntax}
use Rattle.paris_names.specs.declared.profiles.Profile.{Profile}
use Rattle.paris_edits.specs.declared.rows.RowLook.{RowLook}
use Rattle.paris_events.specs.Show.{show_reply}
use Rattle.paris_events.specs.declared.events.Event.TheVariants as event
use Rattle.paris_events.specs.declared.events.Reply.TheVariants as reply
use Rattle.paris_session.specs.Hands.{Hand, asked, faults_told, plainly, refused, told}
use Rattle.paris_session.specs.Replies.{ok_text}
use Rattle.paris_session.specs.declared.asked.Asked.{Asked}
use Rattle.paris_session.specs.declared.asked.Asked.TheVariants as asks
use Rattle.paris_records.specs.History.{state_of}
use Rattle.paris_records.specs.declared.records.Entry.{Entry}
use Rattle.paris_records.specs.declared.records.Receipt.{Receipt}

-- what is asked for is answered by at most one call of the seat, of which this is the receipt, or by a look, at the book of a profile after
-- the history that is seen: the hand after it, and the text. A profile that is chosen is the desk's already, and no line settles
abbrev pub AnswersAsked : Profile → List Entry → Hand → Asked → List Receipt → Hand → List ℕ → Type 0
AnswersAsked p seen h (asks.Call e) rs h' text = (r : Receipt) × (rs ≡ r ∷ []) × (r.event ≡ e) × ((h', text) ≡ told h r.reply)
AnswersAsked p seen h (asks.Look key spot) rs h' text = (rs ≡ []) × ((h', text) ≡ told h (reply.Show (show_reply (state_of p seen) key spot)))
AnswersAsked p seen h asks.Faults rs h' text =
    (r : Receipt) × (looks : List RowLook) × (rs ≡ r ∷ []) × (r.event ≡ event.List) × (r.reply ≡ reply.List looks) × ((h', text) ≡ faults_told h looks)
AnswersAsked p seen h asks.Settle rs h' text = (rs ≡ []) × ((h', text) ≡ refused h (Syntax 1))
AnswersAsked p seen h (asks.Chosen chosen) rs h' text = (rs ≡ []) × ((h', text) ≡ plainly h ok_text)
AnswersAsked p seen h (asks.Refused fault) rs h' text = (rs ≡ []) × ((h', text) ≡ refused h fault)

-- a line that asks for nothing is answered by nothing
abbrev pub AnswersIf : Profile → List Entry → Hand → Option Asked → List Receipt → Hand → List ℕ → Type 0
AnswersIf p seen h None rs h' text = (rs ≡ []) × (h' ≡ h) × (text ≡ [])
AnswersIf p seen h (Some a) rs h' text = AnswersAsked p seen h a rs h' text

-- a line is answered
abbrev pub Answers : Profile → List Entry → Hand → List ℕ → List Receipt → Hand → List ℕ → Type 0
Answers p seen h line rs h' text = AnswersIf p seen h (asked true h line) rs h' text

-- lines are answered one after another, by the calls of these receipts. At each line a history is seen, which begins with the one that was
-- seen at the line before. What is seen depends on the calls before the line, of which those before the first line are given
abbrev pub HandPlays : Profile → (List Receipt → List Entry → Type 0) → List Receipt → List Entry → Hand → List (List ℕ) → List Receipt → Hand → List ℕ → Type 0
HandPlays p Sees made before h [] rs h' text = (rs ≡ []) × (h' ≡ h) × (text ≡ [])
HandPlays p Sees made before h (line ∷ lines) rs h' text =
    (seen : List Entry) × (m : Hand) × (first : List Receipt) × (rest : List Receipt) × (begun : List ℕ) × (more : List ℕ)
    × IsPrefix before seen × Sees made seen × Answers p seen h line first m begun
    × HandPlays p Sees (made ++ first) seen m lines rest h' more × (rs ≡ first ++ rest) × (text ≡ begun ++ more)
