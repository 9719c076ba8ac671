-- What a run has read and written.
use Rattle.std.specs.Prelude.{◌≡◌, ℕ, List, Option, true, false}
use Rattle.std.specs.Io.KnownBytes.{Appends, Consumes, IsAtEnd}
use Rattle.paris_session.specs.Transcript.{transcript, transcript_of_ended, sitting_after}
use Rattle.paris_names.specs.declared.limits.TheConstants.{MAX_READS}
use Rattle.paris_session.specs.Calls.{Marks}
use Rattle.paris_session.specs.Texts.{BeginsWith}
use Rattle.paris_session.specs.declared.answers.Summary.{Summary}
use Rattle.paris_session.specs.declared.run.RunFault.{RunFault}
use Rattle.paris_session.specs.declared.run.RunFault.TheVariants.{Read, Write, TooLong, NoMemory}

-- how often a run may ask its reader
abbrev pub most_reads : ℕ
most_reads = MAX_READS

-- no call has failed
abbrev pub NoneFailed : Marks → Type 0
NoneFailed marks = (marks.read_failed ≡ false) × (marks.write_failed ≡ false)

-- the reader has ended, and no call has failed
abbrev pub HasEnded : Marks → Type 0
HasEnded marks = (marks.ended ≡ true) × NoneFailed marks

-- while it answered, the run has seen that its writer failed, or it wants memory, with no mark
abbrev pub IsWriteFault : RunFault → Marks → Marks → Type 0
IsWriteFault Read old new = ⊥
IsWriteFault Write old new = new.write_failed ≡ true
IsWriteFault TooLong old new = ⊥
IsWriteFault NoMemory old new = new ≡ old

-- each fault has its cause, and no other: a call that failed, as many reads as the bound with no end, or want of memory alone
abbrev pub HasCause : RunFault → Marks → ℕ → Type 0
HasCause Read marks bound = (marks.read_failed ≡ true) × (marks.write_failed ≡ false) × (marks.ended ≡ false)
HasCause Write marks bound = (marks.write_failed ≡ true) × (marks.read_failed ≡ false)
HasCause TooLong marks bound = (marks.reads ≡ bound) × (marks.ended ≡ false) × NoneFailed marks
HasCause NoMemory marks bound = NoneFailed marks

-- all bytes were read, and their transcript was written
pub record EndsWell (reader_old reader_new writer_old writer_new : Option (List ℕ)) (summary : Summary) : Type 0 where
  pub read : List ℕ
  pub consumed : Consumes reader_old reader_new read
  pub at_end : IsAtEnd reader_new
  pub written : Appends writer_old writer_new (transcript read)
  pub counted : summary ≡ record { commands = (sitting_after read).hand.commands; refusals = (sitting_after read).hand.refusals }

abbrev pub AnswersEnded : RunFault → List ℕ → List ℕ → Type 0
AnswersEnded Read read text = text ≡ transcript_of_ended read
AnswersEnded Write read text = Unit {0}
AnswersEnded TooLong read text = text ≡ transcript_of_ended read
AnswersEnded NoMemory read text = Unit {0}

-- what was written is a front of the transcript of the bytes that were read, and where reading stopped it, all of what their ended lines say
pub record StopsShort (reader_old reader_new writer_old writer_new : Option (List ℕ)) (fault : RunFault) : Type 0 where
  pub read : List ℕ
  pub text : List ℕ
  pub consumed : Consumes reader_old reader_new read
  pub written : Appends writer_old writer_new text
  pub front : BeginsWith (transcript read) text
  pub answered : AnswersEnded fault read text
