-- What a run has read and written so far.
use Rattle.std.proofs.Common.{◌≡◌, ℕ, ◌+◌, ◌<◌, ◌≤◌, arith, List, [], ◌∷◌, ◌++◌, Option, refl, sym, ap, ◌∙◌, append_assoc, append-nil, true}
use Rattle.std.specs.Io.KnownBytes.{Appends, Consumes, Keeps, IsAtEnd}
use Rattle.std.proofs.KnownBytes.{Consumes-nil, Appends-nil, Appends-trans, Consumes-trans, Consumes-kept}
use Rattle.paris_session.specs.Transcript.{Sitting}
use Rattle.paris_session.specs.declared.answers.Summary.{Summary}
use Rattle.paris_session.specs.declared.run.RunFault.{RunFault}
use Rattle.paris_session.specs.declared.run.RunFault.TheVariants as faults
use Rattle.paris_session.specs.Calls.{Marks, no_marks, SameReads}
use Rattle.paris_session.specs.Texts.{WritesFront}
use Rattle.paris_session.specs.Transcript.{answer, start, transcript, sitting_after}
use Rattle.paris_session.specs.Progress.{ended_lines, open_line, said, sitting_at}
use Rattle.paris_session.specs.Run.{EndsWell, StopsShort, AnswersEnded, IsWriteFault, NoneFailed, HasEnded, HasCause}
use Rattle.paris_session.proofs.LineLemmas.{transcript_lines, sitting_lines}
use Rattle.paris_session.proofs.ScriptLemmas.{more_said, more_session, more_line, said-append, replies-append, after-append}

pub record Reading (reader_old reader_new writer_old writer_new : Option (List ℕ)) (session : Sitting) (line : List ℕ) : Type 0 where
  pub read : List ℕ
  pub consumed : Consumes reader_old reader_new read
  pub written : Appends writer_old writer_new (said start [] read)
  pub session_is : session ≡ sitting_at start [] read
  pub line_is : line ≡ open_line [] read

pub reading_nothing : (r w : Option (List ℕ)) (session : Sitting) (line : List ℕ) → session ≡ start → line ≡ [] → Reading r r w w session line
reading_nothing r w session line same none = record { read = []; consumed = Consumes-nil r; written = Appends-nil w; session_is = same; line_is = none }

pub reading_kept : (reader0 reader1 reader2 writer0 writer1 : Option (List ℕ)) (s : Sitting) (line : List ℕ) → Keeps reader1 reader2 → Reading reader0 reader1 writer0 writer1 s line → Reading reader0 reader2 writer0 writer1 s line
reading_kept reader0 reader1 reader2 writer0 writer1 s line same old =
    record { read = old.read; consumed = Consumes-kept reader0 reader1 reader2 old.read old.consumed same; written = old.written; session_is = old.session_is; line_is = old.line_is }

pub reading_more : (reader0 reader1 reader2 writer0 writer1 writer2 : Option (List ℕ)) (s t : Sitting) (line going bytes : List ℕ) → Reading reader0 reader1 writer0 writer1 s line
    → Consumes reader1 reader2 bytes → Appends writer1 writer2 (said s line bytes) → t ≡ sitting_at s line bytes → going ≡ open_line line bytes
    → Reading reader0 reader2 writer0 writer2 t going
reading_more reader0 reader1 reader2 writer0 writer1 writer2 s t line going bytes old consumed written session_is line_is = record {
  read = old.read ++ bytes;
  consumed = Consumes-trans reader0 reader1 reader2 old.read bytes old.consumed consumed;
  written = more_said start s [] line old.read bytes writer0 writer1 writer2 old.session_is old.line_is old.written written;
  session_is = more_session start s t [] line old.read bytes old.session_is old.line_is session_is;
  line_is = more_line [] line going old.read bytes old.line_is line_is;
}

-- the transcript is what the ended lines say, and the reply to the last line
pub transcript-is : (bytes : List ℕ) → transcript bytes ≡ said start [] bytes ++ (answer (sitting_at start [] bytes) (open_line [] bytes)).1
transcript-is bytes =
    transcript_lines bytes
    ∙ replies-append start (ended_lines [] bytes) (open_line [] bytes ∷ [])
    ∙ ap (λ (l : List ℕ). said start [] bytes ++ l) (append-nil (answer (sitting_at start [] bytes) (open_line [] bytes)).1)

pub sitting_after-is : (bytes : List ℕ) → sitting_after bytes ≡ (answer (sitting_at start [] bytes) (open_line [] bytes)).0
sitting_after-is bytes = sitting_lines bytes ∙ after-append start (ended_lines [] bytes) (open_line [] bytes ∷ [])

-- the run stops while it reads
pub stops_reading : (reader0 reader1 writer0 writer1 : Option (List ℕ)) (s : Sitting) (line : List ℕ) (fault : RunFault)
    → ((read : List ℕ) → AnswersEnded fault read (said start [] read)) → Reading reader0 reader1 writer0 writer1 s line → StopsShort reader0 reader1 writer0 writer1 fault
stops_reading reader0 reader1 writer0 writer1 s line fault answers old = record {
  read = old.read;
  text = said start [] old.read;
  consumed = old.consumed;
  written = old.written;
  front = ((answer (sitting_at start [] old.read) (open_line [] old.read)).1, transcript-is old.read);
  answered = answers old.read;
}

-- the run stops while it answers
pub stops_answering : (reader0 reader1 reader2 writer0 writer1 writer2 : Option (List ℕ)) (s : Sitting) (line bytes : List ℕ) (fault : RunFault)
    → ((read text : List ℕ) → AnswersEnded fault read text) → Reading reader0 reader1 writer0 writer1 s line → Consumes reader1 reader2 bytes → WritesFront writer1 writer2 (said s line bytes)
    → StopsShort reader0 reader2 writer0 writer2 fault
stops_answering reader0 reader1 reader2 writer0 writer1 writer2 s line bytes fault answers old consumed (front, appended, (more, split)) =
    let read = old.read ++ bytes in
    let last = (answer (sitting_at start [] read) (open_line [] read)).1 in
    let whole : said start [] read ≡ said start [] old.read ++ (front ++ more) =
    said-append start [] old.read bytes ∙ rw (← old.session_is, ← old.line_is, split) refl in
    record {
      read = read;
      text = said start [] old.read ++ front;
      consumed = Consumes-trans reader0 reader1 reader2 old.read bytes old.consumed consumed;
      written = Appends-trans writer0 writer1 writer2 (said start [] old.read) front old.written appended;
      front = (
        more ++ last,
        transcript-is read
            ∙ ap (λ (l : List ℕ). l ++ last) whole
            ∙ ap (λ (l : List ℕ). l ++ last) (sym (append_assoc (said start [] old.read) front more))
            ∙ append_assoc (said start [] old.read ++ front) more last,
      );
      answered = answers read (said start [] old.read ++ front);
    }

-- the run ends
pub ends_well : (reader0 reader1 reader2 writer0 writer1 writer2 : Option (List ℕ)) (s : Sitting) (line : List ℕ) (summary : Summary) → Reading reader0 reader1 writer0 writer1 s line
    → Keeps reader1 reader2 → IsAtEnd reader2 → Appends writer1 writer2 (answer s line).1
    → summary ≡ record { commands = (answer s line).0.hand.commands; refusals = (answer s line).0.hand.refusals }
    → EndsWell reader0 reader2 writer0 writer2 summary
ends_well reader0 reader1 reader2 writer0 writer1 writer2 s line summary old same end appended counted = record {
  read = old.read;
  consumed = Consumes-kept reader0 reader1 reader2 old.read old.consumed same;
  at_end = end;
  written = rw (transcript-is, ← old.session_is, ← old.line_is) (Appends-trans writer0 writer1 writer2 (said start [] old.read) (answer s line).1 old.written appended);
  counted = rw (sitting_after-is, ← old.session_is, ← old.line_is) counted;
}

-- the last reply was cut short
pub stops_at_last : (reader0 reader1 reader2 writer0 writer1 writer2 : Option (List ℕ)) (s : Sitting) (line : List ℕ) (fault : RunFault)
    → ((read text : List ℕ) → AnswersEnded fault read text) → Reading reader0 reader1 writer0 writer1 s line → Keeps reader1 reader2 → WritesFront writer1 writer2 (answer s line).1
    → StopsShort reader0 reader2 writer0 writer2 fault
stops_at_last reader0 reader1 reader2 writer0 writer1 writer2 s line fault answers old same (front, appended, (more, split)) = record {
  read = old.read;
  text = said start [] old.read ++ front;
  consumed = Consumes-kept reader0 reader1 reader2 old.read old.consumed same;
  written = Appends-trans writer0 writer1 writer2 (said start [] old.read) front old.written appended;
  front = (more, rw (transcript-is, ← old.session_is, ← old.line_is, split) (sym (append_assoc (said start [] old.read) front more)));
  answered = answers old.read (said start [] old.read ++ front);
}

pub answers_nothing : (fault : RunFault) (old new : Marks) → IsWriteFault fault old new → (read text : List ℕ) → AnswersEnded fault read text
answers_nothing faults.Read old new h read text = absurd h
answers_nothing faults.Write old new h read text = tt
answers_nothing faults.TooLong old new h read text = absurd h
answers_nothing faults.NoMemory old new h read text = tt

-- the marks after some reads, none of which ended or failed
abbrev pub asked : ℕ → Marks
asked n = record no_marks { reads = n }

-- a read that is marked and nothing else
pub asked_again : (old new : Marks) (n : ℕ) → old ≡ asked n → new ≡ record old { reads = old.reads + 1 } → new ≡ asked (n + 1)
asked_again old new n kept marked = marked ∙ ap (λ (m : Marks). record m { reads = m.reads + 1 }) kept

-- one read more than so many is within a bound above them
pub few_reads : (old new : Marks) (n bound : ℕ) → old ≡ asked n → n < bound → new.reads ≡ old.reads + 1 → new.reads ≤ bound
few_reads old new n bound is lt more = let r : old.reads ≡ n = ap (λ (m : Marks). m.reads) is in omega (arith, r, lt, more)

-- and so it is where no read comes behind them
pub kept_reads : (before after bound : ℕ) → before ≤ bound → after ≡ before → after ≤ bound
kept_reads before after bound few same = omega (arith, same, few)

-- as many reads as the bound are within it
pub all_reads : (marks : Marks) (n bound : ℕ) → marks ≡ asked n → n ≡ bound → marks.reads ≤ bound
all_reads marks n bound is all = let r : marks.reads ≡ n = ap (λ (m : Marks). m.reads) is in omega (arith, r, all)

-- a read that fails is the cause of a read fault
pub read_cause : (old new : Marks) (n bound : ℕ) → old ≡ asked n → new ≡ record old { reads = old.reads + 1; read_failed = true } → HasCause faults.Read new bound
read_cause old new n bound kept marked =
    let is = marked ∙ ap (λ (m : Marks). record m { reads = m.reads + 1; read_failed = true }) kept in
    (ap (λ (m : Marks). m.read_failed) is, ap (λ (m : Marks). m.write_failed) is, ap (λ (m : Marks). m.ended) is)

-- as many reads as the bound are the cause of a run that is too long
pub long_cause : (marks : Marks) (n bound : ℕ) → marks ≡ asked n → n ≡ bound → HasCause faults.TooLong marks bound
long_cause marks n bound is all =
    (ap (λ (m : Marks). m.reads) is ∙ all, ap (λ (m : Marks). m.ended) is, (ap (λ (m : Marks). m.read_failed) is, ap (λ (m : Marks). m.write_failed) is))

-- the cause of a fault while the run answers, before which no call has failed
pub answer_cause : (fault : RunFault) (old new : Marks) (bound : ℕ) → NoneFailed old → IsWriteFault fault old new → SameReads old new → HasCause fault new bound
answer_cause faults.Read old new bound none h same = absurd h
answer_cause faults.Write old new bound none h same = (h, same.2 ∙ none.0)
answer_cause faults.TooLong old new bound none h same = absurd h
answer_cause faults.NoMemory old new bound none h same = (ap (λ (m : Marks). m.read_failed) h ∙ none.0, ap (λ (m : Marks). m.write_failed) h ∙ none.1)

pub none_failed : (marks : Marks) (n : ℕ) → marks ≡ asked n → NoneFailed marks
none_failed marks n is = (ap (λ (m : Marks). m.read_failed) is, ap (λ (m : Marks). m.write_failed) is)

-- a read that ends
pub ended_is : (old new : Marks) (n : ℕ) → old ≡ asked n → new ≡ record old { reads = old.reads + 1; ended = true } → HasEnded new
ended_is old new n kept marked =
    let is = marked ∙ ap (λ (m : Marks). record m { reads = m.reads + 1; ended = true }) kept in
    (ap (λ (m : Marks). m.ended) is, (ap (λ (m : Marks). m.read_failed) is, ap (λ (m : Marks). m.write_failed) is))

pub ended_still : (old new : Marks) → HasEnded old → new ≡ old → HasEnded new
ended_still old new was same = rw same was
