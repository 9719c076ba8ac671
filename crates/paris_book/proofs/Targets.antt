-- The row that an edit names by its id.
use Rattle.std.proofs.Common.{◌≡◌, ℕ, ◌<◌, ◌≤◌, ◌+◌, List, [], ◌∷◌, Option, Some, None, refl, sym, ap, ◌∙◌, map, drop, length, zero, suc, add-one, arith, slice_get}
use Rattle.std.proofs.lemmas.Option.{slice_get_within}
use Rattle.std.specs.Prelude.{IsSome}
use Rattle.std.specs.Option.{option_map, unwrap_or}
use Rattle.paris_board.specs.Board.{Board}
use Rattle.paris_program.specs.Program.{place_of, place_in, row_of}
use Rattle.paris_program.proofs.CallerLemmas.{row_there}
use Rattle.paris_events.specs.State.{Row, Inputs, State, find_id}
use Rattle.paris_book.specs.Entries.{Entry, machine_row}
use Rattle.paris_book.specs.Rows.{RowData}
use Rattle.paris_book.proofs.Finds.{found_some}
use Rattle.paris_book.proofs.Entering.{entry_same, find_is}
use Rattle.paris_book.proofs.Inserts.{state_of}

-- a row of a program with an id, at a place, as the machine finds it
pub record Target (rows : List Entry) (found : Option (ℕ × Row)) (id below : ℕ) : Type 0 where
  pub place : ℕ
  pub row : RowData
  pub just_below : below ≡ place + 1
  pub there : place_of rows id ≡ Some place
  pub at : slice_get rows place ≡ Some (id, row)
  pub by_id : row_of rows id ≡ Some row
  pub seen : found ≡ Some (place, machine_row (id, row))

-- the row just before a place that a spot names
pub target_of : (b : Board) (n m : ℕ) (inputs : Inputs) (rows : List Entry) (s : State) (id below : ℕ) → state_of b n m inputs rows ≡ s → option_map (λ e. e.0 + 1) (find_id id s.rows) ≡ Some below → Target rows (find_id id s.rows) id below
target_of b n m inputs rows s id below view named = by_found (find_id id (map machine_row rows)) refl (ap (λ (z : State). option_map (λ e. e.0 + 1) (find_id id z.rows)) view ∙ named)
  where
    by_found : (o : Option (ℕ × Row)) → find_id id (map machine_row rows) ≡ o → option_map (λ e. e.0 + 1) o ≡ Some below → Target rows (find_id id s.rows) id below
    by_found None is h = absurd (cc)
    by_found (Some e) is h =
        let found = found_some id rows e.0 (sym (ap (option_map (λ e. e.0)) is)) in
        let there : place_of rows id ≡ Some e.0 = sym (find_is id rows) ∙ ap (option_map (λ e. e.0)) is in
        let row = row_there rows id e.0 there in
        let same : (id, row.0) ≡ found.0 = entry_same rows e.0 (id, row.0) found.0 row.1 found.2 in
        record {
          place = e.0;
          row = row.0;
          just_below = (let is_below : e.0 + 1 ≡ below = cc in sym is_below);
          there = there;
          at = row.1;
          by_id = row.2;
          seen = ap (λ (z : State). find_id id z.rows) (sym view) ∙ found.1 ∙ ap (λ (u : Entry). Some (e.0, machine_row u)) (sym same);
        }

-- its data, where it was found by its id
pub target_row : (rows : List Entry) (found : Option (ℕ × Row)) (id below : ℕ) (x : RowData) (t : Target rows found id below) → Some x ≡ row_of rows id → x ≡ t.row
target_row rows found id below x t here = ap (λ o. unwrap_or o x) (here ∙ t.by_id)

pub target_there : (rows : List Entry) (found : Option (ℕ × Row)) (id below : ℕ) → Target rows found id below → None ≡ row_of rows id → ⊥
target_there rows found id below t none =
    let nothing : Option RowData = None in
    let wrong : nothing ≡ Some t.row = none ∙ t.by_id in
    absurd (cc)

pub target_some : (rows : List Entry) (found : Option (ℕ × Row)) (id below : ℕ) → Target rows found id below → IsSome (place_of rows id)
target_some rows found id below t = rw t.there refl

pub target_within : (rows : List Entry) (found : Option (ℕ × Row)) (id below : ℕ) → Target rows found id below → below ≤ length rows
target_within rows found id below t =
    let within : t.place < length rows = slice_get_within rows t.place (id, t.row) t.at in
    omega (arith, within, t.just_below)

pub target_place : (rows : List Entry) (found : Option (ℕ × Row)) (id below : ℕ) (t : Target rows found id below) → place_in rows id ≡ t.place
target_place rows found id below t = ap (λ o. unwrap_or o 0) t.there

drop_at : (es : List Entry) (p : ℕ) (e : Entry) → slice_get es p ≡ Some e → drop p es ≡ e ∷ drop (suc p) es
drop_at [] p e at = absurd (cc)
drop_at (x ∷ es) zero e at = let same : x ≡ e = cc in ap (λ y. y ∷ es) same
drop_at (x ∷ es) (suc p) e at = drop_at es p e at

-- the rows from it on
pub target_drop : (rows : List Entry) (found : Option (ℕ × Row)) (id below : ℕ) (t : Target rows found id below) → drop t.place rows ≡ (id, t.row) ∷ drop (t.place + 1) rows
target_drop rows found id below t =
    drop_at rows t.place (id, t.row) t.at
    ∙ ap (λ k. (id, t.row) ∷ drop k rows) (sym (add-one t.place))
