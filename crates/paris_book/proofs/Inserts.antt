-- An insert keeps what is always true of a book.
use Rattle.std.proofs.Common.{◌≡◌, ℕ, ◌<◌, ◌≤◌, ◌+◌, inr, List, [], ◌∷◌, ◌++◌, Bool, true, false, cond, Some, refl, sym, ap, ◌∙◌, subst, arith, eqb, map, take, drop, zero, suc}
use Rattle.std.proofs.lemmas.Bool.Decides.{Decides-eqb}
use Rattle.std.proofs.lemmas.List.{take-map, drop-map, map-append}
use Rattle.std.specs.List.{list_any}
use Rattle.paris_names.specs.declared.keys.Key.{Key}
use Rattle.paris_names.specs.Keys.{has_key}
use Rattle.paris_names.specs.declared.limits.TheConstants.{MAX_EDITS}
use Rattle.paris_geometry.specs.Geometry.{processor_count}
use Rattle.paris_board.specs.Board.{Board}
use Rattle.paris_model.specs.Frame.{World}
use Rattle.paris_model.specs.Instructions.{Plan, writes, one, key_width}
use Rattle.paris_model.specs.Run.{run}
use Rattle.paris_model.proofs.Worlds.{one_is}
use Rattle.paris_edits.specs.Rows.{is_settled}
use Rattle.paris_events.specs.State.{Row, Inputs, State, input_of, number_in, start_world, start_recipe}
use Rattle.paris_events.specs.Edits.{new_row, row_inserted}
use Rattle.paris_book.specs.Kept.{ripen, Right, Sound}
use Rattle.paris_depends.specs.Sweeps.{touches, spread}
use Rattle.paris_book.proofs.Swept.{swept, swept_entries}
use Rattle.paris_program.specs.Program.{ids_of}
use Rattle.paris_book.specs.Whole.{shape_in, InputsBelow, RowsBelow, Fitted, AllFitted, IsWhole}
use Rattle.paris_book.specs.Entries.{Entry, entry_plan, machine_row, with_data}
use Rattle.paris_book.specs.Marks.{fresh_data, stale_data}
use Rattle.paris_book.proofs.Values.{Agree, sound_swept, swept_rows}
use Rattle.paris_book.proofs.Origins.{ripe, sound-take}
use Rattle.paris_book.proofs.Recipes.{past_all}
use Rattle.paris_book.proofs.EditLemmas.{judged_insert, below_all, Below}
use Rattle.paris_events.proofs.Tests.{or_first, or_second}
use Rattle.paris_events.specs.State.{IdsApart}
use Rattle.paris_book.proofs.Sourced.{Comes, Stands, all_stand, every_drop, every_join, every_stays, every_swept, every_take, no_news, none_told, sourced_from}

pub sound-drop : (w : World) (h : Key → Bool) (es : List Entry) (p : ℕ) → Sound w h es → Sound (run w (map entry_plan (take p es))) (ripe h (take p es)) (drop p es)
sound-drop w h [] zero s = tt
sound-drop w h [] (suc p) s = tt
sound-drop w h (e ∷ es) zero s = s
sound-drop w h (e ∷ es) (suc p) s = sound-drop (one e.1.plan w) (ripen h e) es p s.1

pub sound-join : (w : World) (h : Key → Bool) (xs ys : List Entry) → Sound w h xs → Sound (run w (map entry_plan xs)) (ripe h xs) ys → Sound w h (xs ++ ys)
sound-join w h [] ys s t = t
sound-join w h (e ∷ es) ys s t = (s.0, sound-join (one e.1.plan w) (ripen h e) es ys s.1 t)

pub right_unsettled : (w : World) (h : Key → Bool) (e : Entry) → is_settled e.1.status ≡ false → Right w h e
right_unsettled w h e u = record { kept = λ s. absurd (let x : true ≡ false = sym s ∙ u in cc); origins = λ s. absurd (let x : true ≡ false = sym s ∙ u in cc) }

pub agree_one : (p : Plan) (w : World) → Agree (has_key (writes p)) w (one p w)
agree_one p w f t = sym (one_is p w f ∙ rw t refl)

pub agree_one_back : (p : Plan) (w : World) → Agree (has_key (writes p)) (one p w) w
agree_one_back p w f t = one_is p w f ∙ rw t refl

pub agree_ripen : (h : Key → Bool) (e : Entry) → Agree (has_key (writes e.1.plan)) h (ripen h e)
unfolding ripen
agree_ripen h e f t = rw t refl

pub sound_insert : (n : ℕ) (w : World) (h : Key → Bool) (es : List Entry) (p : ℕ) (e : Entry) → Sound w h es → is_settled e.1.status ≡ false → Sound w h (take p es ++ e ∷ swept_entries n (has_key (writes e.1.plan)) (drop p es))
sound_insert n w h es p e s u =
    let w' = run w (map entry_plan (take p es)) in
    let h' = ripe h (take p es) in
    sound-join w h (take p es) (e ∷ swept_entries n (has_key (writes e.1.plan)) (drop p es)) (sound-take w h es p s)
    (right_unsettled w' h' e u, sound_swept n (has_key (writes e.1.plan)) w' (one e.1.plan w') h' (ripen h' e) (agree_one e.1.plan w') (agree_ripen h' e) (drop p es) (sound-drop w h es p s))

pub rows_up : (n m n' m' : ℕ) (es : List Entry) → n ≤ n' → m ≤ m' → RowsBelow n m es → RowsBelow n' m' es
rows_up n m n' m' [] a b h = tt
rows_up n m n' m' (e ∷ es) a b h = (let x : e.1.set_by ≤ n = h.0 in omega arith, let x : e.0 < m = h.1 in omega arith, rows_up n m n' m' es a b h.2)

pub rows-take : (n m : ℕ) (es : List Entry) (p : ℕ) → RowsBelow n m es → RowsBelow n m (take p es)
rows-take n m [] zero h = tt
rows-take n m [] (suc p) h = tt
rows-take n m (e ∷ es) zero h = tt
rows-take n m (e ∷ es) (suc p) h = (h.0, h.1, rows-take n m es p h.2)

pub rows-drop : (n m : ℕ) (es : List Entry) (p : ℕ) → RowsBelow n m es → RowsBelow n m (drop p es)
rows-drop n m [] zero h = tt
rows-drop n m [] (suc p) h = tt
rows-drop n m (e ∷ es) zero h = h
rows-drop n m (e ∷ es) (suc p) h = rows-drop n m es p h.2

pub rows-join : (n m : ℕ) (xs ys : List Entry) → RowsBelow n m xs → RowsBelow n m ys → RowsBelow n m (xs ++ ys)
rows-join n m [] ys h k = k
rows-join n m (e ∷ es) ys h k = (h.0, h.1, rows-join n m es ys h.2 k)

pub rows_swept : (n m x : ℕ) (d : Key → Bool) (es : List Entry) → RowsBelow n m es → RowsBelow n m (swept_entries x d es)
rows_swept n m x d [] h = tt
rows_swept n m x d (e ∷ es) h = by_touch (rows_swept n m x (spread d e.1.plan) es h.2) (touches d e.1.plan)
  where
    by_touch : RowsBelow n m (swept_entries x (spread d e.1.plan) es) → (b : Bool) → RowsBelow n m (cond b (with_data (stale_data x) e) e ∷ swept_entries x (spread d e.1.plan) es)
    by_touch r true = (h.0, h.1, r)
    by_touch r false = (h.0, h.1, r)

pub inputs_up : (n n' : ℕ) (inputs : Inputs) → n ≤ n' → InputsBelow n inputs → InputsBelow n' inputs
inputs_up n n' inputs a h k = let y : number_in (input_of inputs k) ≤ n = h k in omega arith

pub ids_swept : (x : ℕ) (d : Key → Bool) (es : List Entry) → ids_of (swept_entries x d es) ≡ ids_of es
ids_swept x d [] = refl
ids_swept x d (e ∷ es) = rw (ids_swept x (spread d e.1.plan) es) (by_touch (touches d e.1.plan))
  where
    by_touch : (b : Bool) → ((cond b (with_data (stale_data x) e) e).0 ∷ ids_of es) ≡ (e.0 ∷ ids_of es)
    by_touch true = refl
    by_touch false = refl

-- an id that no row has, put at a place
pub has_insert : (i j : ℕ) (xs : List Entry) (p : ℕ) (ys : List ℕ) → list_any (λ j. eqb j i) (ids_of xs) ≡ false → eqb j i ≡ false → ys ≡ ids_of (drop p xs) → list_any (λ k. eqb k i) (ids_of (take p xs) ++ j ∷ ys) ≡ false
has_insert i j [] zero ys h ne e = rw (e, ne) refl
has_insert i j [] (suc p) ys h ne e = rw (e, ne) refl
has_insert i j (x ∷ xs) zero ys h ne e = rw (e, ne) h
has_insert i j (x ∷ xs) (suc p) ys h ne e = rw (or_first (eqb x.0 i) (list_any (λ j. eqb j i) (ids_of xs)) h) (has_insert i j xs p ys (or_second (eqb x.0 i) (list_any (λ j. eqb j i) (ids_of xs)) h) ne e)

eqb_below : (i j : ℕ) → i < j → eqb i j ≡ false
eqb_below i j h = by_test (eqb i j) refl
  where
    by_test : (b : Bool) → eqb i j ≡ b → b ≡ false
    by_test true e = absurd (let x : i ≡ j = (Decides-eqb i j).0 e in omega arith)
    by_test false e = refl

eqb_above : (i j : ℕ) → i < j → eqb j i ≡ false
eqb_above i j h = by_test (eqb j i) refl
  where
    by_test : (b : Bool) → eqb j i ≡ b → b ≡ false
    by_test true e = absurd (let x : j ≡ i = (Decides-eqb j i).0 e in omega arith)
    by_test false e = refl

-- no row has the next id
pub next_new : (n j : ℕ) (xs : List Entry) → RowsBelow n j xs → list_any (λ k. eqb k j) (ids_of xs) ≡ false
next_new n j [] b = refl
next_new n j (x ∷ xs) b = rw (eqb_below x.0 j b.1) (next_new n j xs b.2)

pub apart_insert : (j n : ℕ) (xs : List Entry) (p : ℕ) (ys : List ℕ) → IdsApart (ids_of xs) → RowsBelow n j xs → ys ≡ ids_of (drop p xs) → IdsApart (ids_of (take p xs) ++ j ∷ ys)
apart_insert j n [] zero ys a b e = rw e (refl, tt)
apart_insert j n [] (suc p) ys a b e = rw e (refl, tt)
apart_insert j n (x ∷ xs) zero ys a b e = rw e (next_new n j (x ∷ xs) b, a)
apart_insert j n (x ∷ xs) (suc p) ys a b e = (has_insert x.0 j xs p ys a.0 (eqb_above x.0 j b.1) e, apart_insert j n xs p ys a.1 b.2 e)

-- the numbers that the start recipes name are not above the count of edits
pub start_below : (n : ℕ) (inputs : Inputs) (k : Key) → InputsBelow n inputs → number_in (input_of inputs k) < n + 1
start_below n inputs k h = let y : number_in (input_of inputs k) ≤ n = h k in omega arith

pub fitted_up : (b b' : Inputs) (es : List Entry) → ((k : Key) (s : ℕ × ℕ) → shape_in b k ≡ Some s → shape_in b' k ≡ Some s) → AllFitted b es → AllFitted b' es
fitted_up b b' [] up h = tt
fitted_up b b' (e ∷ es) up h = (λ k t. up k (key_width e.1.plan k, processor_count e.1.plan.axes) (h.0 k t), fitted_up b b' es up h.1)

pub fitted-take : (b : Inputs) (es : List Entry) (p : ℕ) → AllFitted b es → AllFitted b (take p es)
fitted-take b [] zero h = tt
fitted-take b [] (suc p) h = tt
fitted-take b (e ∷ es) zero h = tt
fitted-take b (e ∷ es) (suc p) h = (h.0, fitted-take b es p h.1)

pub fitted-drop : (b : Inputs) (es : List Entry) (p : ℕ) → AllFitted b es → AllFitted b (drop p es)
fitted-drop b [] zero h = tt
fitted-drop b [] (suc p) h = tt
fitted-drop b (e ∷ es) zero h = h
fitted-drop b (e ∷ es) (suc p) h = fitted-drop b es p h.1

pub fitted-join : (b : Inputs) (xs ys : List Entry) → AllFitted b xs → AllFitted b ys → AllFitted b (xs ++ ys)
fitted-join b [] ys h k = k
fitted-join b (e ∷ es) ys h k = (h.0, fitted-join b es ys h.1 k)

pub fitted_swept : (b : Inputs) (x : ℕ) (d : Key → Bool) (es : List Entry) → AllFitted b es → AllFitted b (swept_entries x d es)
fitted_swept b x d [] h = tt
fitted_swept b x d (e ∷ es) h = by_touch (fitted_swept b x (spread d e.1.plan) es h.1) (touches d e.1.plan)
  where
    by_touch : AllFitted b (swept_entries x (spread d e.1.plan) es) → (c : Bool) → AllFitted b (cond c (with_data (stale_data x) e) e ∷ swept_entries x (spread d e.1.plan) es)
    by_touch r true = (h.0, r)
    by_touch r false = (h.0, r)

-- the rows after an insert
abbrev pub inserted_rows : ℕ → ℕ → List Entry → ℕ → Plan → List Entry
inserted_rows n m es p x = take p es ++ (m, fresh_data x (n + 1)) ∷ swept_entries (n + 1) (has_key (writes x)) (drop p es)

-- the state of a book
abbrev pub state_of : Board → ℕ → ℕ → Inputs → List Entry → State
state_of board edits next inputs es = record { board = board; edits = edits; inputs = inputs; next = next; rows = map machine_row es }

pub insert_whole : (b : Board) (n m : ℕ) (inputs : Inputs) (es zs : List Entry) (p : ℕ) (x : Plan) → n < MAX_EDITS → Fitted inputs x → IsWhole b n m inputs es → zs ≡ inserted_rows n m es p x → IsWhole b (n + 1) (m + 1) inputs zs
insert_whole b n m inputs es zs p x few fit w z =
    let d : Key → Bool = has_key (writes x) in
    let e : Entry = (m, fresh_data x (n + 1)) in
    let back : List Entry = swept_entries (n + 1) d (drop p es) in
    let rows : RowsBelow (n + 1) (m + 1) es = rows_up n m (n + 1) (m + 1) es (omega arith) (omega arith) w.rows_below in
    let less : m ≤ n + 1 = w.next_few in
    rw z (record {
      next_few = omega arith;
      edits_few = omega arith;
      as_many_fields = w.as_many_fields;
      as_many_flags = w.as_many_flags;
      shaped = w.shaped;
      inputs_below = inputs_up n (n + 1) inputs (omega arith) w.inputs_below;
      rows_below = rows-join (n + 1) (m + 1) (take p es) (e ∷ back) (rows-take (n + 1) (m + 1) es p rows) (omega arith, omega arith, rows_swept (n + 1) (m + 1) (n + 1) d (drop p es) (rows-drop (n + 1) (m + 1) es p rows));
      ids_apart = rw (map-append (λ (y : Entry). y.0) (take p es) (e ∷ back)) (apart_insert m n es p (ids_of back) w.ids_apart w.rows_below (ids_swept (n + 1) d (drop p es)));
      fitted = fitted-join inputs (take p es) (e ∷ back) (fitted-take inputs es p w.fitted) (fit, fitted_swept inputs (n + 1) d (drop p es) (fitted-drop inputs es p w.fitted));
      sound = sound_insert (n + 1) (start_world inputs) (λ _. true) es p e w.sound refl;
      sourced = sourced_from n (n + 1) inputs inputs es (take p es ++ e ∷ back) (omega arith)
          (every_join (Comes n (n + 1) es) (take p es) (e ∷ back) (every_stays n (n + 1) es (take p es) (every_take (Stands es) es p (all_stand es)))
          (inr (record { done = refl; sources = none_told; edition = refl; above = omega arith }), every_swept n d es (drop p es) (every_drop (Stands es) es p (all_stand es))))
          (no_news n inputs) w.sourced;
    })

pub insert_view : (b : Board) (n m : ℕ) (inputs : Inputs) (es zs : List Entry) (s : State) (p : ℕ) (x : Plan) → IsWhole b n m inputs es → zs ≡ inserted_rows n m es p x → state_of b n m inputs es ≡ s → state_of b (n + 1) (m + 1) inputs zs ≡ row_inserted s p x
insert_view b n m inputs es zs s p x w z v =
    let d : Key → Bool = has_key (writes x) in
    let rows : List Row = map machine_row es in
    let r : Row = new_row (state_of b n m inputs es) x in
    let below = below_all n m (start_recipe inputs) (take p es) (λ k. start_below n inputs k w.inputs_below) (rows-take n m es p w.rows_below) in
    ap (λ (ys : List Entry). state_of b (n + 1) (m + 1) inputs ys) z
    ∙ ap (λ (rs : List Row). record { board = b; edits = n + 1; inputs = inputs; next = m + 1; rows = rs })
    (map-append machine_row (take p es) ((m, fresh_data x (n + 1)) ∷ swept_entries (n + 1) d (drop p es))
    ∙ ap (λ ys. map machine_row (take p es) ++ r ∷ ys) (swept_rows (n + 1) d (drop p es))
    ∙ ap (λ ys. ys ++ r ∷ swept (n + 1) d (map machine_row (drop p es))) (sym (take-map machine_row p es))
    ∙ ap (λ ys. take p rows ++ r ∷ swept (n + 1) d ys) (sym (drop-map machine_row p es))
    ∙ sym (judged_insert (n + 1) (start_recipe inputs) rows p r (subst (λ ys. Below (n + 1) (past_all (start_recipe inputs) ys)) (sym (take-map machine_row p es)) below) refl))
    ∙ ap (λ (t : State). row_inserted t p x) v
