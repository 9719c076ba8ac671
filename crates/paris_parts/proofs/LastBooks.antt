-- The state of the last part's book is one that a book can have.
use Rattle.std.proofs.Common.{ℕ, List}
use Rattle.paris_names.specs.declared.profiles.Profile.{Profile}
use Rattle.paris_book.specs.Laws.{IsBookState}
use Rattle.paris_book.proofs.Lawful.{settled_goes_on}
use Rattle.paris_session.specs.Transcript.{after_lines}
use Rattle.paris_session.proofs.States.{lines_from}
use Rattle.paris_records.specs.History.{state_of}
use Rattle.paris_records.specs.declared.records.Entry.{Entry}
use Rattle.paris_desk.proofs.Books.{history_book}
use Rattle.paris_parts.specs.Run.{last_session}

pub last_book : (p : Profile) (h : List Entry) (ls : List (List ℕ)) → IsBookState (after_lines (last_session p h) ls).state
last_book p h ls = lines_from (last_session p h) ls (settled_goes_on (state_of p h) (history_book p h))
