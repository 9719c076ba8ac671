-- The rows as a book lists them are those of the run.
use Rattle.std.proofs.Common.{◌≡◌, ℕ, ◌+◌, List, [], ◌∷◌, ◌++◌, true, Bool, Option, Some, refl, ap, ◌∙◌, map, take, slice_get}
use Rattle.std.proofs.Math.Path.{ap₂}
use Rattle.std.proofs.lemmas.List.{map_more}
use Rattle.std.proofs.lemmas.Option.{slice_get_within, get_or_from_slice_get}
use Rattle.paris_names.specs.declared.keys.Key.{Key}
use Rattle.paris_board.specs.Board.{Board}
use Rattle.paris_model.specs.declared.actions.Refusal.{Refusal}
use Rattle.paris_model.specs.Frame.{World}
use Rattle.paris_model.specs.Instructions.{one}
use Rattle.paris_events.specs.State.{Inputs, State, start_world}
use Rattle.paris_events.specs.Lists.{listed_in, list_of}
use Rattle.paris_book.specs.Kept.{ripen, Sound}
use Rattle.paris_book.specs.Whole.{IsWhole}
use Rattle.paris_book.specs.Among.{listed_entry, looks_kept}
use Rattle.paris_book.specs.Entries.{Entry, id_of, machine_row}
use Rattle.paris_edits.specs.declared.rows.RowLook.{RowLook}
use Rattle.paris_book.proofs.Inserts.{state_of}
use Rattle.paris_book.proofs.RefusedRows.{cause_is}

-- a row with a cause, as it is listed
abbrev look_with : Entry → Option Refusal → RowLook
look_with e o = record { id = id_of e; edition = e.1.edition; status = e.1.status; instr = e.1.plan.instr; cause = o }

looks_are : (w : World) (h : Key → Bool) (es : List Entry) → Sound w h es → looks_kept es ≡ listed_in w (map machine_row es)
looks_are w h [] s = refl
looks_are w h (e ∷ es) s = ap₂ (λ o looks. look_with e o ∷ looks) (cause_is w h e s.0) (looks_are (one e.1.plan w) (ripen h e) es s.1)

-- one row further
pub looks_more : (es : List Entry) (i : ℕ) (e : Entry) → slice_get es i ≡ Some e → looks_kept (take (i + 1) es) ≡ looks_kept (take i es) ++ listed_entry e ∷ []
looks_more es i e at =
    map_more listed_entry es i e (slice_get_within es i e at)
    ∙ ap (λ x. looks_kept (take i es) ++ listed_entry x ∷ []) (get_or_from_slice_get es i e e at)

-- those of a book
pub looks_seen : (b : Board) (n m : ℕ) (inputs : Inputs) (es : List Entry) (s : State) → state_of b n m inputs es ≡ s → IsWhole b n m inputs es → looks_kept es ≡ list_of s
looks_seen b n m inputs es s y w = looks_are (start_world inputs) (λ _. true) es w.sound ∙ ap list_of y
