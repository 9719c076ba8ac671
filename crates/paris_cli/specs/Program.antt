-- What the program does on its reader and its writers, by its exit status.
use Rattle.std.specs.Prelude.{◌≡◌, ◌⊎◌, ℕ, ◌==◌, List, Option, codes, false, if◌then◌else◌}
use Rattle.std.specs.Io.KnownBytes.{Appends, Consumes, Keeps, IsAtEnd}
use Rattle.paris_session.specs.Transcript.{transcript, sitting_after}
use Rattle.paris_session.specs.Calls.{Marks, no_marks}
use Rattle.paris_session.specs.Texts.{WritesFront}
use Rattle.paris_session.specs.Run.{StopsShort, HasCause, HasEnded, most_reads}
use Rattle.paris_session.specs.declared.answers.Summary.{Summary}
use Rattle.paris_names.specs.declared.faults.Fault.TheVariants.{NoEntry}
use Rattle.paris_parts.specs.declared.run.DeskRunFault.{DeskRunFault}
use Rattle.paris_parts.specs.declared.run.DeskRunFault.TheVariants as desk
use Rattle.paris_parts.specs.Run.{HasDeskCause, IsCutShort, ScriptRuns}
use Rattle.paris_cli.specs.Words.{AreTaken, AskFor, refusal_line, refusal_status}
use Rattle.paris_cli.specs.declared.words.WordsFault.{WordsFault}
use Rattle.paris_cli.specs.declared.words.WordsFault.TheVariants as words_fault
use Rattle.paris_session.specs.declared.run.RunFault.{RunFault}
use Rattle.paris_session.specs.declared.run.RunFault.TheVariants.{Read, Write, TooLong, NoMemory}

abbrev pub run_fault_line : RunFault → List ℕ
run_fault_line Read = codes "read fault\n"
run_fault_line Write = codes "write fault\n"
run_fault_line TooLong = codes "too long\n"
run_fault_line NoMemory = codes "no memory\n"

abbrev pub run_fault_status : RunFault → ℕ
run_fault_status Read = 3
run_fault_status Write = 3
run_fault_status TooLong = 3
run_fault_status NoMemory = 4

-- whether some command was refused
abbrev pub exit_status : ℕ → ℕ
exit_status refusals = if refusals == 0 then 0 else 1

-- all bytes were read, their transcript was written, and the status says whether it has refused a command; the reader has ended, no
-- call has failed, and no line names a fault
pub record Finishes (reader_old reader_new writer_old writer_new errors_old errors_new : Option (List ℕ)) (run : Marks) (status : ℕ) : Type 0 where
  pub read : List ℕ
  pub consumed : Consumes reader_old reader_new read
  pub at_end : IsAtEnd reader_new
  pub written : Appends writer_old writer_new (transcript read)
  pub status_is : status ≡ exit_status (sitting_after read).hand.refusals
  pub silent : Keeps errors_old errors_new
  pub ended : HasEnded run

-- the words were refused: nothing was read and nothing was written, but for what is said of them
pub record Refuses (reader_old reader_new writer_old writer_new errors_old errors_new : Option (List ℕ)) (run : Marks) : Type 0 where
  pub said : List ℕ
  pub unread : Keeps reader_old reader_new
  pub unwritten : Keeps writer_old writer_new
  pub told : Appends errors_old errors_new said
  pub uncalled : run ≡ no_marks

-- a fault stopped the run, it has its cause, the status says which it is, and a front of the line that names it was written: all of
-- the line, unless that writer has failed
pub record Stops (reader_old reader_new writer_old writer_new errors_old errors_new : Option (List ℕ)) (run errors : Marks) (status : ℕ) : Type 0 where
  pub fault : RunFault
  pub status_is : status ≡ run_fault_status fault
  pub short : StopsShort reader_old reader_new writer_old writer_new fault
  pub cause : HasCause fault run most_reads
  pub named : WritesFront errors_old errors_new (run_fault_line fault)
  pub whole : errors.write_failed ≡ false → Appends errors_old errors_new (run_fault_line fault)

abbrev pub desk_fault_line : DeskRunFault → List ℕ
desk_fault_line (desk.Run fault) = run_fault_line fault
desk_fault_line desk.Parts = codes "wrong parts\n"
desk_fault_line (desk.Desk NoEntry) = codes "no entry\n"
desk_fault_line (desk.Desk fault) = codes "history full\n"

abbrev pub desk_fault_status : DeskRunFault → ℕ
desk_fault_status (desk.Run fault) = run_fault_status fault
desk_fault_status desk.Parts = 2
desk_fault_status (desk.Desk fault) = 4

-- all bytes were read, they were run at a desk with so many workers, what they come to was written, and the status says whether some
-- command was refused; the reader has ended, no call has failed, and no line names a fault
pub record FinishesAtDesk (workers : ℕ) (reader_old reader_new writer_old writer_new errors_old errors_new : Option (List ℕ)) (run : Marks) (status : ℕ) : Type 0 where
  pub read : List ℕ
  pub text : List ℕ
  pub summary : Summary
  pub consumed : Consumes reader_old reader_new read
  pub at_end : IsAtEnd reader_new
  pub written : Appends writer_old writer_new text
  pub runs : ScriptRuns workers read text summary
  pub status_is : status ≡ exit_status summary.refusals
  pub silent : Keeps errors_old errors_new
  pub ended : HasEnded run

-- with as many workers as the words ask for
abbrev pub Sits : List (List ℕ) → Option (List ℕ) → Option (List ℕ) → Option (List ℕ) → Option (List ℕ) → Option (List ℕ) → Option (List ℕ) → Marks → ℕ → Type 0
Sits words reader_old reader_new writer_old writer_new errors_old errors_new run status =
    (workers : ℕ) × ((k : ℕ) → AskFor words k → workers ≡ k) × FinishesAtDesk workers reader_old reader_new writer_old writer_new errors_old errors_new run status

-- a fault stopped a run at a desk with so many workers, it has its cause, and the status says which it is: nothing was written, unless the
-- writer has failed, and then a front of what the script comes to. A front of the line that names the fault was written: all of the line,
-- unless that writer has failed
pub record StopsAtDesk (workers : ℕ) (reader_old reader_new writer_old writer_new errors_old errors_new : Option (List ℕ)) (run errors : Marks) (status : ℕ) : Type 0 where
  pub fault : DeskRunFault
  pub status_is : status ≡ desk_fault_status fault
  pub cause : HasDeskCause workers reader_old reader_new fault run
  pub unwritten : (fault ≡ desk.Run Write → ⊥) → Keeps writer_old writer_new
  pub front : Keeps writer_old writer_new ⊎ IsCutShort workers reader_old reader_new writer_old writer_new
  pub named : WritesFront errors_old errors_new (desk_fault_line fault)
  pub whole : errors.write_failed ≡ false → Appends errors_old errors_new (desk_fault_line fault)

-- the words were refused, since they aren't taken or there is no memory, and the status says which; that they are no text isn't said. Nothing
-- was read and nothing was written, and a front of what is said of them was: all of it, unless that writer has failed
pub record TellsOfWords (words : List (List ℕ)) (reader_old reader_new writer_old writer_new errors_old errors_new : Option (List ℕ)) (run errors : Marks) (status : ℕ) : Type 0 where
  pub fault : WordsFault
  pub untaken : (fault ≡ words_fault.NoMemory) ⊎ (AreTaken words → ⊥)
  pub in_text : fault ≡ words_fault.NotText → ⊥
  pub status_is : status ≡ refusal_status fault
  pub unread : Keeps reader_old reader_new
  pub unwritten : Keeps writer_old writer_new
  pub named : WritesFront errors_old errors_new (refusal_line fault)
  pub whole : errors.write_failed ≡ false → Appends errors_old errors_new (refusal_line fault)
  pub uncalled : run ≡ no_marks

-- a run at a desk, with as many workers as the words ask for, was stopped, or its words were refused
abbrev pub Halts : List (List ℕ) → Option (List ℕ) → Option (List ℕ) → Option (List ℕ) → Option (List ℕ) → Option (List ℕ) → Option (List ℕ) → Marks → Marks → ℕ → Type 0
Halts words reader_old reader_new writer_old writer_new errors_old errors_new run errors status =
    ((workers : ℕ) × ((k : ℕ) → AskFor words k → workers ≡ k) × StopsAtDesk workers reader_old reader_new writer_old writer_new errors_old errors_new run errors status)
    ⊎ TellsOfWords words reader_old reader_new writer_old writer_new errors_old errors_new run errors status
