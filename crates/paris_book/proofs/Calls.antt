-- What the calls of a book find is what the machine names.
use Rattle.std.proofs.Common.{◌≡◌, ℕ, ◌<◌, ◌≤◌, ◌+◌, List, [], ◌∷◌, ◌++◌, Bool, true, false, cond, Option, Some, None, Ok, Err, refl, sym, ap, ◌∙◌, subst, arith, map, length, take, drop, suc, add-zero, get_or, length-append}
use Rattle.std.proofs.Math.Path.{ap₂}
use Rattle.std.proofs.lemmas.List.{map-append, take_more}
use Rattle.std.specs.Prelude.{Result, IfErr}
use Rattle.std.specs.Option.{option_map}
use Rattle.paris_names.specs.declared.keys.Key.{Key}
use Rattle.paris_board.specs.Board.{Board, is_declared, width_of, count_of}
use Rattle.paris_model.specs.Instructions.{Plan}
use Rattle.paris_edits.specs.Rows.{is_settled}
use Rattle.paris_events.specs.State.{Row, Inputs, State, find_id}
use Rattle.paris_events.specs.Show.{show_at, show_from}
use Rattle.paris_events.specs.Edits.{known}
use Rattle.paris_book.specs.Whole.{Shaped, Fitted}
use Rattle.paris_program.specs.Program.{place_of}
use Rattle.paris_book.specs.Entries.{Entry, machine_row}
use Rattle.paris_book.proofs.Entering.{find_is}
use Rattle.paris_events.specs.declared.inputs.Input.{Input}
use Rattle.paris_book.specs.Among.{shown_at}
use Rattle.std.proofs.lemmas.List.{length-drop, length-take-le}
use Rattle.std.specs.Option.{ok_or}
use Rattle.paris_names.specs.declared.ids.RowId.{RowId}
use Rattle.paris_names.specs.declared.ids.Spot.{Spot}
use Rattle.paris_names.specs.declared.ids.Spot.TheVariants.{After}
use Rattle.paris_names.specs.declared.names.KeyName.{KeyName}
use Rattle.paris_names.specs.declared.faults.Fault.{Fault}
use Rattle.paris_names.specs.declared.faults.Fault.TheVariants.{NoField, NoRow}
use Rattle.paris_names.specs.declared.limits.TheConstants.{MAX_EDITS}
use Rattle.paris_board.specs.Board.{key_named}
use Rattle.paris_instr.specs.Resolve.{IsFittedTo}
use Rattle.paris_field.specs.Fields.{overwritten}
use Rattle.paris_events.specs.declared.events.Shown.{Shown as AnyShown}
use Rattle.paris_events.specs.State.{place_of_spot}
use Rattle.paris_events.specs.Show.{show_reply, show_key}
use Rattle.paris_events.specs.Settling.{unsettled_rows}
use Rattle.paris_book.proofs.Inserts.{state_of}
use Rattle.paris_book.proofs.Shows.{show_is, look_seen}

-- a plan that fits the board fits the input data
pub fitted_plan : (b : Board) (inputs : Inputs) (p : Plan) → Shaped b inputs → IsFittedTo b p → Fitted inputs p
fitted_plan b inputs p s f k h =
    let x = f k h in
    s k ∙ ap (λ t. cond t (Some (width_of b k, count_of b k)) None) x.0 ∙ ap₂ (λ w c. Some (w, c)) x.1 x.2

-- what is found is what has a name
pub found_named : {A : Type 0} (o : Option A) (x : A) (fault : Fault) → Ok x ≡ ok_or o fault → o ≡ Some x
found_named None x fault h = absurd (cc)
found_named (Some y) x fault h = let same : x ≡ y = cc in ap Some (sym same)

-- the place of an id's row among the rows, and just after it
pub spot_after : (rows : List Entry) (id : ℕ) → option_map (λ e. e.0 + 1) (find_id id (map machine_row rows)) ≡ option_map (λ k. k + 1) (place_of rows id)
spot_after rows id = by_found (find_id id (map machine_row rows)) ∙ ap (option_map (λ k. k + 1)) (find_is id rows)
  where
    by_found : (o : Option (ℕ × Row)) → option_map (λ e. e.0 + 1) o ≡ option_map (λ k. k + 1) (option_map (λ e. e.0) o)
    by_found None = refl
    by_found (Some e) = refl

-- the place that a spot after a row names
pub spot_is : (b : Board) (n m : ℕ) (inputs : Inputs) (rows : List Entry) (s : State) (spot : Spot) (id : RowId) → state_of b n m inputs rows ≡ s → spot ≡ After id
    → place_of_spot s spot ≡ option_map (λ k. k + 1) (place_of rows id.0)
spot_is b n m inputs rows s spot id y after = ap (place_of_spot s) after ∙ ap (λ (z : State). place_of_spot z (After id)) (sym y) ∙ spot_after rows id.0

-- a spot after an id that no row has names no place
pub spot_none : (r : Result ℕ Fault) (spot row : Option ℕ) → spot ≡ option_map (λ k. k + 1) row → IfErr r (λ fault. (fault ≡ NoRow) × (row ≡ None)) → IfErr r (λ fault. (fault ≡ NoRow) × (spot ≡ None))
spot_none (Ok place) spot row is h = tt
spot_none (Err fault) spot row is h = (h.0, is ∙ ap (option_map (λ k. k + 1)) h.1)

pub shown_is : (b : Board) (n m : ℕ) (inputs : Inputs) (es : List Entry) (s : State) (name : KeyName) (spot : Spot) (k : Key) (place : ℕ) (look : AnyShown)
    → state_of b n m inputs es ≡ s → Shaped b inputs → is_declared b k ≡ true → Ok k ≡ ok_or (key_named b name) NoField → place_of_spot s spot ≡ Some place → look ≡ shown_at inputs es place k
    → Ok look ≡ show_reply s name spot
shown_is b n m inputs es s name spot k place look y shaped known named at is =
    ap Ok (is ∙ look_seen inputs es k place ∙ sym (show_is b n m inputs es k place shaped known) ∙ ap (λ (z : State). show_at z place k) y)
    ∙ ap (show_from s k) (sym at)
    ∙ ap (show_key s spot) (sym (found_named (key_named b name) k NoField named))
    ∙ ap (λ (z : State). show_key s spot (key_named z.board name)) y

pub width_given : (i : Input) (from : ℕ) (values : List ℕ) → from + length values ≤ length i.value.numbers → length i.value.numbers ≡ length (overwritten i.value.numbers from values)
width_given i from values h =
    let all = length-append (take from i.value.numbers) (values ++ drop (from + length values) i.value.numbers) in
    let first : length (take from i.value.numbers) ≡ from = length-take-le from i.value.numbers (omega (arith, h)) in
    let rest = length-append values (drop (from + length values) i.value.numbers) in
    let last = length-drop (from + length values) i.value.numbers in
    omega (arith, all, first, rest, last, h)

unsettled-append : (xs ys : List Row) → unsettled_rows (xs ++ ys) ≡ unsettled_rows xs + unsettled_rows ys
unsettled-append [] ys = omega arith
unsettled-append (x ∷ xs) ys = let rest = unsettled-append xs ys in rw rest (omega arith)

pub unsettled_few : (rs : List Row) → unsettled_rows rs ≤ length rs
unsettled_few [] = omega arith
unsettled_few (r ∷ rs) = let rest = unsettled_few rs in by_status (is_settled r.status) rest
  where
    by_status : (b : Bool) → unsettled_rows rs ≤ length rs → cond b 0 1 + unsettled_rows rs ≤ suc (length rs)
    by_status true h = omega arith
    by_status false h = omega arith

pub unsettled_more : (es : List Entry) (i : ℕ) (e : Entry) → i < length es → e ≡ get_or es i e → unsettled_rows (map machine_row (take (i + 1) es)) ≡ unsettled_rows (map machine_row (take i es)) + cond (is_settled e.1.status) 0 1
unsettled_more es i e h at =
    let more : take (i + 1) es ≡ take i es ++ e ∷ [] = take_more es i e h ∙ ap (λ j. take i es ++ j ∷ []) (sym at) in
    ap (λ xs. unsettled_rows (map machine_row xs)) more
    ∙ ap unsettled_rows (map-append machine_row (take i es) (e ∷ []))
    ∙ unsettled-append (map machine_row (take i es)) (machine_row e ∷ [])
    ∙ ap (λ x. unsettled_rows (map machine_row (take i es)) + x) (add-zero (cond (is_settled e.1.status) 0 1))

pub few_edits : (b : Board) (n m : ℕ) (inputs : Inputs) (es : List Entry) (s : State) → state_of b n m inputs es ≡ s → s.edits < MAX_EDITS → n < MAX_EDITS
few_edits b n m inputs es s y h = subst (λ (z : State). z.edits < MAX_EDITS) (sym y) h
