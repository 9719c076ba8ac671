-- Words that are refused stop the program before it reads.
use Rattle.std.proofs.Common.{◌≡◌, ℕ, ◌<◌, ◌⊎◌, List, [], Option, None, Some, refl, arith, ap, false}
use Rattle.std.proofs.KnownBytes.{Consumes-nil, Appends-nil}
use Rattle.paris_session.specs.Transcript.{transcript}
use Rattle.std.specs.Io.KnownBytes.{Appends, Keeps}
use Rattle.paris_session.specs.Calls.{Marks, no_marks}
use Rattle.paris_session.specs.Texts.{WritesFront}
use Rattle.paris_session.specs.declared.run.RunFault.TheVariants as run_fault
use Rattle.paris_cli.specs.declared.words.WordsFault.{WordsFault}
use Rattle.paris_cli.specs.declared.words.WordsFault.TheVariants.{Usage, Untold, NotText, NoMemory}
use Rattle.paris_cli.specs.Words.{AreTaken, refusal_line, refusal_status}
use Rattle.paris_cli.specs.Program.{Stops, TellsOfWords}

pub stops_at_words : (reader writer errors_old errors_new : Option (List ℕ)) (run errors : Marks) (fault : WordsFault) (status : ℕ) → run ≡ no_marks
    → status ≡ refusal_status fault → WritesFront errors_old errors_new (refusal_line fault)
    → (errors.write_failed ≡ false → Appends errors_old errors_new (refusal_line fault)) → 2 < status
    → Stops reader reader writer writer errors_old errors_new run errors status
stops_at_words reader writer errors_old errors_new run errors (Usage text) status fresh is said whole more = absurd (omega (arith, is))
stops_at_words reader writer errors_old errors_new run errors Untold status fresh is said whole more = absurd (omega (arith, is))
stops_at_words reader writer errors_old errors_new run errors NotText status fresh is said whole more = absurd (omega (arith, is))
stops_at_words reader writer errors_old errors_new run errors NoMemory status fresh is said whole more = record {
  fault = run_fault.NoMemory;
  status_is = is;
  short = record {
    read = [];
    text = [];
    consumed = Consumes-nil reader;
    written = Appends-nil writer;
    front = (transcript [], refl);
    answered = tt;
  };
  cause = (ap (λ (m : Marks). m.read_failed) fresh, ap (λ (m : Marks). m.write_failed) fresh);
  named = said;
  whole = whole;
}

keeps_all : (o : Option (List ℕ)) → Keeps o o
keeps_all None = tt
keeps_all (Some xs) = refl

-- words that ask for a desk, and are refused
pub tells_of_words : (words : List (List ℕ)) (reader writer errors_old errors_new : Option (List ℕ)) (run errors : Marks) (fault : WordsFault) (status : ℕ)
    → run ≡ no_marks → (fault ≡ NoMemory) ⊎ (AreTaken words → ⊥) → (fault ≡ NotText → ⊥) → status ≡ refusal_status fault
    → WritesFront errors_old errors_new (refusal_line fault) → (errors.write_failed ≡ false → Appends errors_old errors_new (refusal_line fault))
    → TellsOfWords words reader reader writer writer errors_old errors_new run errors status
tells_of_words words reader writer errors_old errors_new run errors fault status fresh untaken in_text is said whole = record {
  fault = fault;
  untaken = untaken;
  in_text = in_text;
  status_is = is;
  unread = keeps_all reader;
  unwritten = keeps_all writer;
  named = said;
  whole = whole;
  uncalled = fresh;
}
