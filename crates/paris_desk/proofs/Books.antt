-- The events of a history lead to the state that it leaves.
use Rattle.std.proofs.Common.{List, map, refl}
use Rattle.paris_names.specs.declared.profiles.Profile.{Profile}
use Rattle.paris_book.specs.Laws.{IsBookState}
use Rattle.paris_records.specs.declared.records.Entry.{Entry}
use Rattle.paris_records.specs.History.{state_of}

pub history_book : (p : Profile) (h : List Entry) → IsBookState (state_of p h)
history_book p h = (p, 0, map (λ (e : Entry). e.event) h, refl)
