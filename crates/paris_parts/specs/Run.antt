-- What a script in parts does at a desk, and what is written for it.
use Rattle.std.specs.Prelude.{◌≡◌, ◌<◌, ◌≤◌, ℕ, ◌+◌, true, false, List, Option, [], ◌∷◌, ◌++◌, length, map}
use Rattle.std.specs.List.{All}
use Rattle.std.specs.Io.KnownBytes.{Consumes, IsAtEnd}
use mathlib.Core.List.{IsPrefix}
use Rattle.paris_names.specs.Faults.{is_no_memory}
use Rattle.paris_names.specs.declared.profiles.Profile.{Profile}
use Rattle.paris_events.specs.Settling.{all_settled}
use Rattle.paris_session.specs.Calls.{Marks}
use Rattle.paris_session.specs.Texts.{WritesFront}
use Rattle.paris_session.specs.Run.{HasCause, HasEnded, most_reads}
use Rattle.paris_session.specs.declared.run.RunFault.TheVariants.{NoMemory}
use Rattle.paris_parts.specs.declared.run.DeskRunFault.{DeskRunFault}
use Rattle.paris_parts.specs.declared.run.DeskRunFault.TheVariants.{Run, Parts, Desk}
use Rattle.paris_session.specs.Transcript.{start, with_book, replies, after_lines}
use Rattle.paris_session.specs.Transcript.{Sitting as Session}
use Rattle.paris_session.specs.declared.answers.Summary.{Summary}
use Rattle.paris_records.specs.declared.limits.TheConstants.{MAX_HISTORY, MAX_SEATS}
use Rattle.paris_records.specs.declared.records.Entry.{Entry}
use Rattle.paris_records.specs.Agreement.{Agree, receipts_of_seat}
use Rattle.paris_records.specs.History.{state_of}
use Rattle.paris_records.specs.Receipts.{receipts_in}
use Rattle.paris_desk.specs.Closing.{by_number, past_of}
use Rattle.paris_desk.specs.Seats.{SeatState, sitting}
use Rattle.paris_parts.specs.Beginning.{profile_of_run}
use Rattle.paris_parts.specs.Faults.{StopsRun}
use Rattle.paris_parts.specs.Jobs.{Doing, IsDone}
use Rattle.paris_parts.specs.Parts.{parts}
use Rattle.paris_parts.specs.Seeing.{SeesWhenClosed}
use Rattle.paris_parts.specs.Texts.{at_seat, parts_text, commands_in, refusals_in, edits_in, closed_text}

-- the session that plays the last part: its book is the history's, settled
abbrev pub last_session : Profile → List Entry → Session
last_session p history = with_book start (all_settled (state_of p history)) []

-- the seats that are left, what the first so many parts wrote, and the counts of their commands
abbrev pub LeftBy : List Doing → ℕ → List SeatState → List ℕ → Summary → Type 0
LeftBy ds played seats text summary =
    (seats ≡ map (λ (d : Doing). d.seat) ds) × (text ≡ parts_text ds played) × (summary.commands ≡ commands_in ds played) × (summary.refusals ≡ refusals_in ds played)

-- a desk of a profile is closed whose seats have these receipts, which are those of its history and agree with it, and it begins with the
-- past of each seat; and the last part is played: what is written behind a text, and the counts
pub record Concludes (profile : Profile) (seats : ℕ) (sat : List SeatState) (last : List (List ℕ)) (text text' : List ℕ) (summary summary' : Summary) : Type 0 where
  pub history : List Entry
  pub agree : Agree profile history (by_number seats sat)
  pub begins : (n : ℕ) → n < seats → IsPrefix (past_of n sat) history
  pub each : (n : ℕ) → receipts_of_seat (by_number seats sat) n ≡ receipts_in n 0 history
  pub written : text' ≡ text ++ (closed_text (edits_in history) true ++ replies (last_session profile history) last)
  pub commands : summary'.commands ≡ summary.commands + (after_lines (last_session profile history) last).hand.commands
  pub refusals : summary'.refusals ≡ summary.refusals + (after_lines (last_session profile history) last).hand.refusals

-- what is done at each of so many seats: it has played the part of its number, with looks at beginnings of a history, each no shorter than
-- the one before, and where there is none it has worked
abbrev pub EachDone : Profile → List Entry → List (List (List ℕ)) → ℕ → List Doing → Type 0
EachDone p history played seats done = (length done ≡ seats) × ((n : ℕ) → n < seats → IsDone p (SeesWhenClosed history n) played (sitting n [] 0 []) (at_seat done n))

-- the history is the first seat's entries, and then those of the others
abbrev pub FirstBeforeOthers : List Entry → Type 0
FirstBeforeOthers history =
    (first : List Entry) × (others : List Entry) × (history ≡ first ++ others) × All (λ (e : Entry). e.seat ≡ 0) first × All (λ (e : Entry). 1 ≤ e.seat) others

-- what parts come to at a desk with so many seats: each part but the last is played at the seat of its number, the first of them before
-- the others, the seats behind them work, and the last part is played on the book that they leave, settled. The history is legal in a
-- profile, and agrees with the receipts of the seats
pub record PartsPlay (profile : Profile) (seats : ℕ) (played : List (List (List ℕ))) (last : List (List ℕ)) (text : List ℕ) (summary : Summary) : Type 0 where
  pub done : List Doing
  pub history : List Entry
  pub each : EachDone profile history played seats done
  pub order : FirstBeforeOthers history
  pub agree : Agree profile history (by_number seats (map (λ (d : Doing). d.seat) done))
  pub written : text ≡ parts_text done (length played) ++ (closed_text (edits_in history) true ++ replies (last_session profile history) last)
  pub commands : summary.commands ≡ commands_in done (length played) + (after_lines (last_session profile history) last).hand.commands
  pub refusals : summary.refusals ≡ refusals_in done (length played) + (after_lines (last_session profile history) last).hand.refusals

-- whether there are parts enough, and seats enough for all but the last and for the workers
abbrev pub HasSeats : ℕ → ℕ → Type 0
HasSeats played workers = (2 ≤ played) × (played + workers ≤ MAX_SEATS)

-- a last part and others before it are the parts of this script, with seats enough
abbrev pub IsPlayable : ℕ → List ℕ → Type 0
IsPlayable workers script = (played : List (List (List ℕ))) × (last : List (List ℕ)) × (parts script ≡ played ++ last ∷ []) × HasSeats (length played) workers

-- why a run of a script that was read is stopped, at a desk whose history has room for so many entries: for want of memory, by parts that
-- don't fit, or, where they do, by what the desk answers, which is no want of memory
abbrev pub StoppedBy : ℕ → ℕ → List ℕ → DeskRunFault → Type 0
StoppedBy limit workers script (Run fault) = fault ≡ NoMemory
StoppedBy limit workers script Parts = IsPlayable workers script → ⊥
StoppedBy limit workers script (Desk fault) = IsPlayable workers script × StopsRun limit fault × (is_no_memory fault ≡ false)

-- each fault of a run has its cause: a reader, a writer or memory has it as in a run without a desk; parts are wrong, and a desk stops a run,
-- only where the script was read to its end and no call has failed
abbrev pub HasDeskCause : ℕ → Option (List ℕ) → Option (List ℕ) → DeskRunFault → Marks → Type 0
HasDeskCause workers reader_old reader_new (Run fault) marks = HasCause fault marks most_reads
HasDeskCause workers reader_old reader_new fault marks =
    HasEnded marks × (script : List ℕ) × Consumes reader_old reader_new script × IsAtEnd reader_new × StoppedBy MAX_HISTORY workers script fault

-- what a script comes to at a desk with so many workers, in the profile that its first part chooses
pub record ScriptRuns (workers : ℕ) (script text : List ℕ) (summary : Summary) : Type 0 where
  pub played : List (List (List ℕ))
  pub last : List (List ℕ)
  pub parts_are : parts script ≡ played ++ last ∷ []
  pub fits : HasSeats (length played) workers
  pub plays : PartsPlay (profile_of_run played) (length played + workers) played last text summary

-- a front was written of what a script comes to, which was read to its end
pub record IsCutShort (workers : ℕ) (reader_old reader_new writer_old writer_new : Option (List ℕ)) : Type 0 where
  pub script : List ℕ
  pub text : List ℕ
  pub summary : Summary
  pub consumed : Consumes reader_old reader_new script
  pub at_end : IsAtEnd reader_new
  pub runs : ScriptRuns workers script text summary
  pub front : WritesFront writer_old writer_new text
