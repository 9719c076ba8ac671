-- The ids of the rows of a book, and how many rows there are.
use Rattle.std.proofs.Common.{◌≡◌, ℕ, List, [], ◌∷◌, refl, sym, ap, ◌∙◌, subst, map, length}
use Rattle.std.proofs.lemmas.List.{length-map}
use Rattle.paris_board.specs.Board.{Board}
use Rattle.paris_events.specs.State.{Inputs, State, IdsApart, row_ids}
use Rattle.paris_program.specs.Program.{ids_of}
use Rattle.paris_book.specs.Whole.{IsWhole}
use Rattle.paris_book.specs.Entries.{Entry, machine_row}
use Rattle.paris_book.proofs.Inserts.{state_of}

-- the ids of the rows of a book
pub ids_seen : (es : List Entry) → row_ids (map machine_row es) ≡ ids_of es
ids_seen [] = refl
ids_seen (e ∷ es) = ap (λ is. e.0 ∷ is) (ids_seen es)

pub rows_apart : (b : Board) (n m : ℕ) (inputs : Inputs) (es : List Entry) (s : State) → state_of b n m inputs es ≡ s → IsWhole b n m inputs es → IdsApart (row_ids s.rows)
rows_apart b n m inputs es s y w = subst (λ (z : State). IdsApart (row_ids z.rows)) y (subst IdsApart (sym (ids_seen es)) w.ids_apart)

-- and how many they are
pub rows_many : (b : Board) (n m : ℕ) (inputs : Inputs) (es : List Entry) (s : State) → state_of b n m inputs es ≡ s → length s.rows ≡ length es
rows_many b n m inputs es s y = ap (λ (z : State). length z.rows) (sym y) ∙ length-map es machine_row
