-- A delete keeps what is always true of a book.
use Rattle.std.proofs.Common.{◌≡◌, ℕ, ◌<◌, ◌+◌, List, [], ◌∷◌, ◌++◌, Bool, true, false, refl, sym, ap, ◌∙◌, arith, eqb, map, take, drop, zero, suc}
use Rattle.std.proofs.lemmas.List.{take-map, drop-map, map-append}
use Rattle.std.specs.List.{list_any}
use Rattle.paris_names.specs.declared.keys.Key.{Key}
use Rattle.paris_names.specs.Keys.{has_key}
use Rattle.paris_names.specs.declared.limits.TheConstants.{MAX_EDITS}
use Rattle.paris_board.specs.Board.{Board}
use Rattle.paris_model.specs.Frame.{World}
use Rattle.paris_model.specs.Instructions.{writes, one}
use Rattle.paris_model.specs.Run.{run}
use Rattle.paris_events.specs.State.{Row, Inputs, State, start_world, start_recipe}
use Rattle.paris_events.specs.Edits.{row_deleted}
use Rattle.paris_book.specs.Kept.{ripen, Sound}
use Rattle.paris_book.proofs.Swept.{swept, swept_entries}
use Rattle.paris_program.specs.Program.{ids_of}
use Rattle.paris_book.specs.Whole.{RowsBelow, AllFitted, IsWhole}
use Rattle.paris_events.specs.State.{IdsApart}
use Rattle.paris_book.specs.Entries.{Entry, entry_plan, machine_row}
use Rattle.paris_book.proofs.Values.{sound_swept, swept_rows}
use Rattle.paris_book.proofs.Origins.{ripe, sound-take}
use Rattle.paris_book.proofs.Recipes.{past_all}
use Rattle.paris_book.proofs.EditLemmas.{eqb_flip, judged_delete, NotOf, not_of_all}
use Rattle.paris_events.proofs.Tests.{or_first, or_second}
use Rattle.paris_book.proofs.Sourced.{Comes, Every, Stands, all_stand, every_drop, every_join, every_stays, every_swept, every_take, no_news, sourced_from}
use Rattle.paris_book.proofs.Inserts.{rows_up, rows_swept, rows-take, rows-drop, rows-join, inputs_up, ids_swept, sound-drop, sound-join, agree_one_back, agree_ripen, fitted_swept, fitted-take, fitted-drop, fitted-join, state_of}

-- an id that no row has is not that of this row, nor of the others
none_left : (es : List Entry) (p i : ℕ) (e : Entry) (back : List Entry) → drop p es ≡ e ∷ back → list_any (λ j. eqb j i) (ids_of es) ≡ false → (eqb e.0 i ≡ false) × (list_any (λ j. eqb j i) (ids_of (take p es) ++ ids_of back) ≡ false)
none_left [] zero i e back x h = absurd (cc)
none_left [] (suc p) i e back x h = absurd (cc)
none_left (y ∷ es) zero i e back x h =
    let a : y ≡ e = cc in
    let b : es ≡ back = cc in
    (rw (← a) (or_first (eqb y.0 i) (list_any (λ j. eqb j i) (ids_of es)) h), rw (← b) (or_second (eqb y.0 i) (list_any (λ j. eqb j i) (ids_of es)) h))
none_left (y ∷ es) (suc p) i e back x h =
    let rest = none_left es p i e back x (or_second (eqb y.0 i) (list_any (λ j. eqb j i) (ids_of es)) h) in
    (rest.0, rw (or_first (eqb y.0 i) (list_any (λ j. eqb j i) (ids_of es)) h) rest.1)

-- the rows round a row
pub apart_without : (es : List Entry) (p : ℕ) (e : Entry) (back : List Entry) → drop p es ≡ e ∷ back → IdsApart (ids_of es) → (list_any (λ j. eqb j e.0) (ids_of (take p es)) ≡ false) × IdsApart (ids_of (take p es) ++ ids_of back)
apart_without [] zero e back x a = absurd (cc)
apart_without [] (suc p) e back x a = absurd (cc)
apart_without (y ∷ es) zero e back x a = let b : es ≡ back = cc in (refl, rw (← b) a.1)
apart_without (y ∷ es) (suc p) e back x a =
    let rest = apart_without es p e back x a.1 in
    let left = none_left es p y.0 e back x a.0 in
    (rw (eqb_flip y.0 e.0 left.0) rest.0, (left.1, rest.1))

sound_delete : (n : ℕ) (w : World) (h : Key → Bool) (es : List Entry) (p : ℕ) (e : Entry) (back : List Entry) → drop p es ≡ e ∷ back → Sound w h es → Sound w h (take p es ++ swept_entries n (has_key (writes e.1.plan)) back)
sound_delete n w h es p e back x s =
    let w' = run w (map entry_plan (take p es)) in
    let h' = ripe h (take p es) in
    let rest : Sound w' h' (e ∷ back) = rw x at (sound-drop w h es p s) in
    sound-join w h (take p es) (swept_entries n (has_key (writes e.1.plan)) back) (sound-take w h es p s)
    (sound_swept n (has_key (writes e.1.plan)) (one e.1.plan w') w' (ripen h' e) h' (agree_one_back e.1.plan w') (λ f t. sym (agree_ripen h' e f t)) back rest.1)

pub delete_whole : (b : Board) (n m : ℕ) (inputs : Inputs) (es zs : List Entry) (p : ℕ) (e : Entry) (back : List Entry) → n < MAX_EDITS → drop p es ≡ e ∷ back → IsWhole b n m inputs es → zs ≡ take p es ++ swept_entries (n + 1) (has_key (writes e.1.plan)) back
    → IsWhole b (n + 1) m inputs zs
delete_whole b n m inputs es zs p e back few x w z =
    let d : Key → Bool = has_key (writes e.1.plan) in
    let rows : RowsBelow (n + 1) m es = rows_up n m (n + 1) m es (omega arith) (omega arith) w.rows_below in
    let behind : RowsBelow (n + 1) m (e ∷ back) = rw x at (rows-drop (n + 1) m es p rows) in
    let fits : AllFitted inputs (e ∷ back) = rw x at (fitted-drop inputs es p w.fitted) in
    let stand : Every (Stands es) (e ∷ back) = rw x at (every_drop (Stands es) es p (all_stand es)) in
    let less = w.next_few in
    rw z (record {
      next_few = omega (arith, less);
      edits_few = omega arith;
      as_many_fields = w.as_many_fields;
      as_many_flags = w.as_many_flags;
      shaped = w.shaped;
      inputs_below = inputs_up n (n + 1) inputs (omega arith) w.inputs_below;
      rows_below = rows-join (n + 1) m (take p es) (swept_entries (n + 1) d back) (rows-take (n + 1) m es p rows) (rows_swept (n + 1) m (n + 1) d back behind.2);
      ids_apart = rw (map-append (λ (y : Entry). y.0) (take p es) (swept_entries (n + 1) d back), ids_swept (n + 1) d back) (apart_without es p e back x w.ids_apart).1;
      fitted = fitted-join inputs (take p es) (swept_entries (n + 1) d back) (fitted-take inputs es p w.fitted) (fitted_swept inputs (n + 1) d back fits.1);
      sound = sound_delete (n + 1) (start_world inputs) (λ _. true) es p e back x w.sound;
      sourced = sourced_from n (n + 1) inputs inputs es (take p es ++ swept_entries (n + 1) d back) (omega arith)
          (every_join (Comes n (n + 1) es) (take p es) (swept_entries (n + 1) d back) (every_stays n (n + 1) es (take p es) (every_take (Stands es) es p (all_stand es))) (every_swept n d es back stand.1))
          (no_news n inputs) w.sourced;
    })

pub delete_view : (b : Board) (n m : ℕ) (inputs : Inputs) (es zs : List Entry) (s : State) (p : ℕ) (e : Entry) (back : List Entry) → drop p es ≡ e ∷ back → IsWhole b n m inputs es → zs ≡ take p es ++ swept_entries (n + 1) (has_key (writes e.1.plan)) back → state_of b n m inputs es ≡ s
    → state_of b (n + 1) m inputs zs ≡ row_deleted s p
delete_view b n m inputs es zs s p e back x w z y =
    let d : Key → Bool = has_key (writes e.1.plan) in
    let rows : List Row = map machine_row es in
    let behind : drop p rows ≡ machine_row e ∷ map machine_row back = drop-map machine_row p es ∙ ap (map machine_row) x in
    let not_of : NotOf e.0 (past_all (start_recipe inputs) (take p rows)) = rw (take-map machine_row p es) (not_of_all e.0 (start_recipe inputs) (take p es) (λ f. refl) (apart_without es p e back x w.ids_apart).0) in
    ap (λ (ys : List Entry). state_of b (n + 1) m inputs ys) z
    ∙ ap (λ (rs : List Row). record { board = b; edits = n + 1; inputs = inputs; next = m; rows = rs })
    (map-append machine_row (take p es) (swept_entries (n + 1) d back)
    ∙ ap (λ ys. map machine_row (take p es) ++ ys) (swept_rows (n + 1) d back)
    ∙ ap (λ ys. ys ++ swept (n + 1) d (map machine_row back)) (sym (take-map machine_row p es))
    ∙ sym (judged_delete (n + 1) (start_recipe inputs) rows p (machine_row e) (map machine_row back) behind not_of))
    ∙ ap (λ (t : State). row_deleted t p) y
