-- A replace keeps what is always true of a book.
use Rattle.std.proofs.Common.{◌≡◌, ℕ, ◌<◌, ◌≤◌, ◌+◌, inl, inr, List, ◌∷◌, ◌++◌, Bool, true, refl, sym, ap, ◌∙◌, arith, map, take, drop}
use Rattle.std.proofs.lemmas.List.{take-map, drop-map, map-append, take-append-drop}
use Rattle.paris_names.specs.declared.keys.Key.{Key}
use Rattle.paris_names.specs.Keys.{has_key}
use Rattle.paris_names.specs.declared.limits.TheConstants.{MAX_EDITS}
use Rattle.paris_board.specs.Board.{Board}
use Rattle.paris_model.specs.Frame.{World}
use Rattle.paris_model.specs.Instructions.{Plan, writes, one}
use Rattle.paris_model.specs.Run.{run}
use Rattle.paris_events.specs.State.{Row, Inputs, State, start_world, start_recipe}
use Rattle.paris_events.specs.Edits.{row_replaced}
use Rattle.paris_book.specs.Kept.{ripen, Sound}
use Rattle.paris_book.proofs.Swept.{swept, swept_entries}
use Rattle.paris_program.specs.Program.{ids_of}
use Rattle.paris_book.specs.Whole.{RowsBelow, Fitted, AllFitted, IsWhole}
use Rattle.paris_book.specs.Marks.{replaced_data, writes_either}
use Rattle.paris_book.specs.Entries.{Entry, entry_plan, machine_row}
use Rattle.paris_book.proofs.Values.{Agree, sound_swept, swept_rows}
use Rattle.paris_book.proofs.Origins.{ripe, sound-take}
use Rattle.paris_book.proofs.Recipes.{past_all}
use Rattle.paris_book.proofs.EditLemmas.{judged_replace, Below, below_all, NotOf, not_of_all}
use Rattle.paris_events.proofs.Tests.{or_first, or_second}
use Rattle.paris_book.proofs.Sourced.{Comes, Every, Stands, all_stand, every_drop, every_join, every_stays, every_swept, every_take, no_news, sourced_from}
use Rattle.paris_book.proofs.Inserts.{rows_up, rows_swept, rows-take, rows-drop, rows-join, inputs_up, ids_swept, start_below, sound-drop, sound-join, agree_one, agree_one_back, agree_ripen, right_unsettled, fitted_swept, fitted-take, fitted-drop, fitted-join, state_of}
use Rattle.paris_book.proofs.Deletes.{apart_without}

agree_either_one : (p x : Plan) (w : World) → Agree (writes_either p x) (one p w) (one x w)
agree_either_one p x w f t = agree_one_back p w f (or_first (has_key (writes p) f) (has_key (writes x) f) t) ∙ agree_one x w f (or_second (has_key (writes p) f) (has_key (writes x) f) t)

agree_either_ripen : (h : Key → Bool) (e u : Entry) → Agree (writes_either e.1.plan u.1.plan) (ripen h e) (ripen h u)
agree_either_ripen h e u f t = sym (agree_ripen h e f (or_first (has_key (writes e.1.plan) f) (has_key (writes u.1.plan) f) t)) ∙ agree_ripen h u f (or_second (has_key (writes e.1.plan) f) (has_key (writes u.1.plan) f) t)

sound_replace : (n : ℕ) (w : World) (h : Key → Bool) (es : List Entry) (p : ℕ) (e : Entry) (back : List Entry) (x : Plan) → drop p es ≡ e ∷ back → Sound w h es → Sound w h (take p es ++ (e.0, replaced_data x (n + 1) e.1) ∷ swept_entries (n + 1) (writes_either e.1.plan x) back)
sound_replace n w h es p e back x y s =
    let w' = run w (map entry_plan (take p es)) in
    let h' = ripe h (take p es) in
    let u : Entry = (e.0, replaced_data x (n + 1) e.1) in
    let rest : Sound w' h' (e ∷ back) = rw y at (sound-drop w h es p s) in
    sound-join w h (take p es) (u ∷ swept_entries (n + 1) (writes_either e.1.plan x) back) (sound-take w h es p s)
    (right_unsettled w' h' u refl, sound_swept (n + 1) (writes_either e.1.plan x) (one e.1.plan w') (one x w') (ripen h' e) (ripen h' u) (agree_either_one e.1.plan x w') (agree_either_ripen h' e u) back rest.1)

pub replace_whole : (b : Board) (n m : ℕ) (inputs : Inputs) (es zs : List Entry) (p : ℕ) (e : Entry) (back : List Entry) (x : Plan) → n < MAX_EDITS → Fitted inputs x → drop p es ≡ e ∷ back → IsWhole b n m inputs es
    → zs ≡ take p es ++ (e.0, replaced_data x (n + 1) e.1) ∷ swept_entries (n + 1) (writes_either e.1.plan x) back → IsWhole b (n + 1) m inputs zs
replace_whole b n m inputs es zs p e back x few fit y w z =
    let d : Key → Bool = writes_either e.1.plan x in
    let u : Entry = (e.0, replaced_data x (n + 1) e.1) in
    let rows : RowsBelow (n + 1) m es = rows_up n m (n + 1) m es (omega arith) (omega arith) w.rows_below in
    let behind : RowsBelow (n + 1) m (e ∷ back) = rw y at (rows-drop (n + 1) m es p rows) in
    let fits : AllFitted inputs (e ∷ back) = rw y at (fitted-drop inputs es p w.fitted) in
    let ids : ids_of (take p es) ++ e.0 ∷ ids_of back ≡ ids_of es = sym (map-append (λ (v : Entry). v.0) (take p es) (e ∷ back)) ∙ ap (λ vs. ids_of (take p es ++ vs)) (sym y) ∙ ap ids_of (take-append-drop p es) in
    let stand : Every (Stands es) (e ∷ back) = rw y at (every_drop (Stands es) es p (all_stand es)) in
    let less = w.next_few in
    rw z (record {
      next_few = omega (arith, less);
      edits_few = omega arith;
      as_many_fields = w.as_many_fields;
      as_many_flags = w.as_many_flags;
      shaped = w.shaped;
      inputs_below = inputs_up n (n + 1) inputs (omega arith) w.inputs_below;
      rows_below = rows-join (n + 1) m (take p es) (u ∷ swept_entries (n + 1) d back) (rows-take (n + 1) m es p rows) (omega arith, behind.1, rows_swept (n + 1) m (n + 1) d back behind.2);
      ids_apart = rw (map-append (λ (v : Entry). v.0) (take p es) (u ∷ swept_entries (n + 1) d back), ids_swept (n + 1) d back, ids) w.ids_apart;
      fitted = fitted-join inputs (take p es) (u ∷ swept_entries (n + 1) d back) (fitted-take inputs es p w.fitted) (fit, fitted_swept inputs (n + 1) d back fits.1);
      sound = sound_replace n (start_world inputs) (λ _. true) es p e back x y w.sound;
      sourced = sourced_from n (n + 1) inputs inputs es (take p es ++ u ∷ swept_entries (n + 1) d back) (omega arith)
          (every_join (Comes n (n + 1) es) (take p es) (u ∷ swept_entries (n + 1) d back) (every_stays n (n + 1) es (take p es) (every_take (Stands es) es p (all_stand es)))
          (inl (record { place = stand.0.place; e = e; at = stand.0.at; id = refl; done = refl; sources = refl; edition = inr (refl, omega arith) }), every_swept n d es back stand.1))
          (no_news n inputs) w.sourced;
    })

pub replace_view : (b : Board) (n m : ℕ) (inputs : Inputs) (es zs : List Entry) (s : State) (p : ℕ) (e : Entry) (back : List Entry) (x : Plan) → drop p es ≡ e ∷ back → IsWhole b n m inputs es
    → zs ≡ take p es ++ (e.0, replaced_data x (n + 1) e.1) ∷ swept_entries (n + 1) (writes_either e.1.plan x) back → state_of b n m inputs es ≡ s → state_of b (n + 1) m inputs zs ≡ row_replaced s p x
replace_view b n m inputs es zs s p e back x y w z v =
    let d : Key → Bool = writes_either e.1.plan x in
    let u : Entry = (e.0, replaced_data x (n + 1) e.1) in
    let rows : List Row = map machine_row es in
    let behind : drop p rows ≡ machine_row e ∷ map machine_row back = drop-map machine_row p es ∙ ap (map machine_row) y in
    let own : RowsBelow n m (e ∷ back) = rw y at (rows-drop n m es p w.rows_below) in
    let low : e.1.set_by ≤ n = own.0 in
    let not_of : NotOf e.0 (past_all (start_recipe inputs) (take p rows)) = rw (take-map machine_row p es) (not_of_all e.0 (start_recipe inputs) (take p es) (λ f. refl) (apart_without es p e back y w.ids_apart).0) in
    let below : Below (n + 1) (past_all (start_recipe inputs) (take p rows)) = rw (take-map machine_row p es) (below_all n m (start_recipe inputs) (take p es) (λ k. start_below n inputs k w.inputs_below) (rows-take n m es p w.rows_below)) in
    ap (λ (ys : List Entry). state_of b (n + 1) m inputs ys) z
    ∙ ap (λ (rs : List Row). record { board = b; edits = n + 1; inputs = inputs; next = m; rows = rs })
    (map-append machine_row (take p es) (u ∷ swept_entries (n + 1) d back)
    ∙ ap (λ ys. map machine_row (take p es) ++ machine_row u ∷ ys) (swept_rows (n + 1) d back)
    ∙ ap (λ ys. ys ++ machine_row u ∷ swept (n + 1) d (map machine_row back)) (sym (take-map machine_row p es))
    ∙ sym (judged_replace (n + 1) (start_recipe inputs) rows p (machine_row e) (map machine_row back) x behind below not_of (omega arith)))
    ∙ ap (λ (t : State). row_replaced t p x) v
