-- What one call of a reader or a writer does, and what a run keeps of it.
use Rattle.std.specs.Prelude.{◌≡◌, ◌≢◌, ℕ, ◌+◌, ◌<◌, ◌≤◌, List, length, take, Option, Result, Ok, IsErrAnd, MatchResult, Bool, true, false}
use Rattle.std.specs.IoError.{error_kind}
use Rattle.std.specs.declared.io.Error.{Error}
use Rattle.std.specs.declared.io.ErrorKind.TheVariants as kind
use Rattle.std.specs.Io.KnownBytes.{Appends, Consumes, Keeps, IsAtEnd}
use Rattle.paris_session.specs.declared.tally.Given.{Given}
use Rattle.paris_session.specs.declared.tally.Given.TheVariants.{Bytes as GivenBytes, End as GivenEnd, Interrupted as GivenInterrupted, Failed as GivenFailed}
use Rattle.paris_session.specs.declared.tally.Sent.{Sent}
use Rattle.paris_session.specs.declared.tally.Sent.TheVariants.{Bytes as SentBytes, Interrupted as SentInterrupted, Failed as SentFailed}

-- what a run keeps of its calls: how often it has asked its reader, whether the reader has ended, and whether reader and writer have failed
pub record Marks : Type 0 where
  pub reads : ℕ
  pub ended : Bool
  pub read_failed : Bool
  pub write_failed : Bool

-- nothing has been called yet
abbrev pub no_marks : Marks
no_marks = record { reads = 0; ended = false; read_failed = false; write_failed = false }

-- what a read gives by the reader's answer
abbrev pub IsGivenBy : Result ℕ Error → Given → Type 0
IsGivenBy answer (GivenBytes n) = (answer ≡ Ok n) × (0 < n)
IsGivenBy answer GivenEnd = answer ≡ Ok 0
IsGivenBy answer GivenInterrupted = IsErrAnd answer (λ e. error_kind e ≡ kind.Interrupted)
IsGivenBy answer GivenFailed = IsErrAnd answer (λ e. error_kind e ≢ kind.Interrupted)

-- what a write takes by the writer's answer; that no byte was taken is a failure
abbrev pub IsSentBy : Result ℕ Error → Sent → Type 0
IsSentBy answer (SentBytes n) = (answer ≡ Ok n) × (0 < n)
IsSentBy answer SentInterrupted = IsErrAnd answer (λ e. error_kind e ≡ kind.Interrupted)
IsSentBy answer SentFailed = MatchResult answer (λ n. n ≡ 0) (λ e. error_kind e ≢ kind.Interrupted)

-- what one read into `room` does to the known bytes
abbrev pub ReadGives : Option (List ℕ) → Option (List ℕ) → List ℕ → Given → Type 0
ReadGives old new room (GivenBytes n) = (0 < n) × (n ≤ length room) × Consumes old new (take n room)
ReadGives old new room GivenEnd = Keeps old new × IsAtEnd new
ReadGives old new room GivenInterrupted = Keeps old new
ReadGives old new room GivenFailed = Keeps old new

-- what one write of a text does to the known bytes
abbrev pub WriteTakes : Option (List ℕ) → Option (List ℕ) → List ℕ → Sent → Type 0
WriteTakes old new text (SentBytes n) = (0 < n) × (n ≤ length text) × Appends old new (take n text)
WriteTakes old new text SentInterrupted = Keeps old new
WriteTakes old new text SentFailed = Keeps old new

-- what one read marks and nothing else
abbrev pub ReadMarks : Marks → Marks → Given → Type 0
ReadMarks old new (GivenBytes n) = new ≡ record old { reads = old.reads + 1 }
ReadMarks old new GivenEnd = new ≡ record old { reads = old.reads + 1; ended = true }
ReadMarks old new GivenInterrupted = new ≡ record old { reads = old.reads + 1 }
ReadMarks old new GivenFailed = new ≡ record old { reads = old.reads + 1; read_failed = true }

-- what one write marks, and nothing else
abbrev pub WriteMarks : Marks → Marks → Sent → Type 0
WriteMarks old new (SentBytes n) = new ≡ old
WriteMarks old new SentInterrupted = new ≡ old
WriteMarks old new SentFailed = new ≡ record old { write_failed = true }

-- what is kept of the reader stays
abbrev pub SameReads : Marks → Marks → Type 0
SameReads old new = (new.reads ≡ old.reads) × (new.ended ≡ old.ended) × (new.read_failed ≡ old.read_failed)
