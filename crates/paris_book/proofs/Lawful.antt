-- What events lead to: its run is the direct one, and its orders settle it.
use Rattle.std.proofs.Common.{◌≡◌, ℕ, ◌+◌, ◌^◌, ◌<◌, ◌≤◌, List, [], ◌∷◌, ◌++◌, Bool, true, false, cond, Option, Some, None, Result, Ok, Err, All, zero, suc, refl, sym, ap, ◌∙◌, subst, arith, eqb, map, length, take, drop, set, slice_get, nat_lt, nat_le, zero-add}
use Rattle.std.specs.Prelude.{◌||◌, ◌==◌, not, is_none, IfOk, option_map, insert, remove}
use Rattle.std.specs.List.{list_any, position_or_len, find, enumerate_from}
use Rattle.std.proofs.Math.Path.{ap₂}
use Rattle.std.proofs.lemmas.Bool.Decides.{nat_tests}
use Rattle.std.proofs.lemmas.Nat.{pow_pos}
use Rattle.std.proofs.lemmas.List.{take-map, drop-map, map-append, take-append-drop}
use Rattle.std.proofs.lemmas.List.Elements.{All-append, All-cons, All-drop, All-head, All-map, All-nil, All-push, All-replicate, All-set, All-tail, All-take, All-weaker}
use Rattle.paris_names.specs.declared.faults.Fault.{Fault}
use Rattle.paris_names.specs.declared.faults.Fault.TheVariants.{NoSet, NameTaken, FieldsFull, BadWidth, WrongCount, TooWide, EditionsSpent}
use Rattle.paris_names.specs.declared.keys.FlagName.{FlagName}
use Rattle.paris_names.specs.declared.keys.FlagName.TheVariants.{Context, Test, Carry, Overflow}
use Rattle.paris_names.specs.declared.keys.Key.{Key}
use Rattle.paris_names.specs.declared.keys.Key.TheVariants.{Field, Flag}
use Rattle.paris_names.specs.declared.limits.TheConstants.{MAX_EDITS, MAX_FIELDS}
use Rattle.paris_names.specs.declared.profiles.Profile.{Profile}
use Rattle.paris_names.specs.Profiles.{max_width}
use Rattle.paris_geometry.specs.Geometry.{processor_count}
use Rattle.paris_board.specs.Board.{Board, DeclaredField, set_named, is_taken, is_declared, width_of, count_of, key_named, with_set, with_field, field_fault, AreFields, IsBoard}
use Rattle.paris_model.specs.Fits.{IsFit}
use Rattle.paris_model.specs.Frame.{World}
use Rattle.paris_model.specs.Instructions.{Plan, one}
use Rattle.paris_model.specs.Laws.{PlansFit, RunIsDirect}
use Rattle.paris_field.specs.Fields.{AllFit}
use Rattle.paris_field.proofs.Values.{length-overwritten}
use Rattle.paris_exec.specs.Tasks.{Task}
use Rattle.paris_instr.specs.Resolve.{resolution}
use Rattle.paris_edits.specs.declared.edits.Edit.{Edit}
use Rattle.paris_edits.specs.declared.edits.Edit.TheVariants.{AddSet, AddField, Input as SetInput, Insert, Delete, Replace}
use Rattle.paris_edits.specs.declared.rows.Status.TheVariants.{Out, Settled}
use Rattle.paris_edits.specs.declared.verdicts.Verdict.{Verdict}
use Rattle.paris_edits.specs.declared.verdicts.Verdict.TheVariants.{Gone, Stale, Repeated, Foreign, Kept}
use Rattle.paris_events.specs.declared.inputs.Input.{Input}
use Rattle.paris_events.specs.declared.inputs.FlagInputs.{FlagInputs}
use Rattle.paris_events.specs.declared.events.Event.{Event}
use Rattle.paris_events.specs.declared.events.Event.TheVariants as EventCase
use Rattle.paris_events.specs.CutOff.{cut_off}
use Rattle.paris_events.specs.Edits.{Known, had_recipe, row_recipe, past_row, known, known_rows, judged, unsettled, edited, set_added, field_added, changed_input, input_changed, input_set, new_row, row_inserted, inserted_from, row_deleted, deleted_from, set_first, row_replaced, replaced_from, edited_by, fault_of_values, values_fault, input_fault, content_fault, edit_fault, after_edit_by, after_edit}
use Rattle.paris_events.specs.Events.{after, after_all}
use Rattle.paris_events.specs.Orders.{is_ready, next_ready, taken, take_reply, after_take, recalled_row, after_release}
use Rattle.paris_events.specs.Results.{verdict_of, kept_at, brought_on, after_bring}
use Rattle.paris_events.specs.Settling.{due, settled_row, all_settled, brought_back, after_run, ran_orders}
use Rattle.paris_events.specs.State.{Row, Inputs, State, empty_state_of, flag_input, with_flag_input, input_of, start_world, set_flags, with_input, declared_input, declared_flags, row_plan, row_ids, find_row, place_of_spot, work_of, IdsApart}
use Rattle.paris_events.proofs.AtRests.{plan_stays}
use Rattle.paris_events.proofs.Ends.{ids_cut, ids_recalled, ids_run, order_left, ran_ends}
use Rattle.paris_events.proofs.Finds.{find_at_place}
use Rattle.paris_events.proofs.Histories.{all_rest}
use Rattle.paris_events.proofs.Passes.{AtRest, cut, cut_row, is_cut_in, firm_after, from_start}
use Rattle.paris_events.proofs.Passing.{cut_off_is}
use Rattle.paris_events.proofs.Tests.{or_first, or_second}
use Rattle.paris_model.specs.Recipe.{Recipe}
use Rattle.paris_book.specs.Among.{width_in_shape}
use Rattle.paris_book.specs.Laws.{InputFits, FlagsFit, InputsFit, NowIsDirect, OrdersSettle, IsBookState}
use Rattle.paris_book.specs.Whole.{input_shape, shape_in, Shaped, Fitted}
use Rattle.paris_book.proofs.Calls.{fitted_plan}
use Rattle.paris_book.proofs.Declares.{News, field_news, field_shaped, is_new_field, is_new_flag, length-push, set_news, set_shaped, with_declared, with_flags}
use Rattle.paris_book.proofs.Directly.{all_at, each_flag_fits, start_fits, width_at}
use Rattle.paris_book.proofs.Founds.{IsPlanOn, resolution_fits}
use Rattle.paris_book.proofs.InputEdits.{fields_stay, flags_stay, shape_stays}

-- a row's plan is fit, its keys have input data of its widths, and its id was given
abbrev pub RowStands : Inputs → ℕ → Row → Type 0
RowStands inputs next r = IsFit r.plan.axes r.plan.action × Fitted inputs r.plan × (r.id.0 < next)

-- what all events keep
pub record IsLawful (s : State) : Type 0 where
  pub board : IsBoard s.board
  pub as_many_fields : length s.inputs.fields ≡ length s.board.fields
  pub as_many_flags : length s.inputs.flags ≡ length s.board.sets
  pub shaped : Shaped s.board s.inputs
  pub inputs : InputsFit s.inputs
  pub rows : All (RowStands s.inputs s.next) s.rows
  pub apart : IdsApart (row_ids s.rows)

empty_lawful : (p : Profile) (n : ℕ) → IsLawful (empty_state_of p n)
empty_lawful p n = record {
  board = tt;
  as_many_fields = refl;
  as_many_flags = refl;
  shaped = shaped;
  inputs = record { fields = All-nil InputFits; flags = All-nil FlagsFit };
  rows = All-nil (RowStands (empty_state_of p n).inputs 1);
  apart = tt;
}
  where
    none : (i : ℕ) → nat_lt i 0 ≡ false
    none i = grind (arith, nat_tests)

    shaped : Shaped (empty_state_of p n).board (empty_state_of p n).inputs
    shaped (Field f) = rw (none f) refl
    shaped (Flag s flag) = rw (none s) refl

-- ---- rows that are settled, taken, recalled and cut off

stands_like : (inputs : Inputs) (next : ℕ) (r x : Row) → x.plan ≡ r.plan → x.id.0 ≡ r.id.0 → RowStands inputs next r → RowStands inputs next x
stands_like inputs next r x plan id stands =
    (subst (λ (p : Plan). IsFit p.axes p.action) (sym plan) stands.0, subst (Fitted inputs) (sym plan) stands.1, subst (λ i. i < next) (sym id) stands.2)

with_rows : (s : State) (rows : List Row) → IsLawful s → row_ids rows ≡ row_ids s.rows → All (RowStands s.inputs s.next) rows → IsLawful (record s { rows = rows })
with_rows s rows l ids stand = record {
  board = l.board;
  as_many_fields = l.as_many_fields;
  as_many_flags = l.as_many_flags;
  shaped = l.shaped;
  inputs = l.inputs;
  rows = stand;
  apart = subst IdsApart (sym ids) l.apart;
}

put_row : (s : State) (k : ℕ) (r x : Row) → IsLawful s → slice_get s.rows k ≡ Some r → x.plan ≡ r.plan → x.id.0 ≡ r.id.0 → IsLawful (record s { rows = set s.rows k x })
put_row s k r x l at plan id =
    let P : Row → Type 0 = RowStands s.inputs s.next in
    with_rows s (set s.rows k x) l (ids_run s.rows k r x at id) (All-set P s.rows k x (stands_like s.inputs s.next r x plan id (all_at P s.rows k r l.rows at)) l.rows)

cut_stand : (inputs : Inputs) (next : ℕ) (w : World) (h : Key → Bool) (rs : List Row) → All (RowStands inputs next) rs → All (RowStands inputs next) (cut w h rs)
cut_stand inputs next w h [] a = a
cut_stand inputs next w h (r ∷ rs) a =
    let P : Row → Type 0 = RowStands inputs next in
    All-cons P (cut_row w h r) (cut (one r.plan w) (firm_after h (cut_row w h r)) rs) (stands_like inputs next r (cut_row w h r) (plan_stays w h r) (by_test (is_cut_in w h r)) (All-head P r rs a))
    (cut_stand inputs next (one r.plan w) (firm_after h (cut_row w h r)) rs (All-tail P r rs a))
  where
    by_test : (b : Bool) → (cond b (settled_row r) r).id.0 ≡ r.id.0
    by_test true = refl
    by_test false = refl

cut_lawful : (s : State) → IsLawful s → IsLawful (cut_off s)
cut_lawful s l =
    subst IsLawful (sym (cut_off_is s))
    (with_rows s (cut (start_world s.inputs) from_start s.rows) l (ids_cut (start_world s.inputs) from_start s.rows) (cut_stand s.inputs s.next (start_world s.inputs) from_start s.rows l.rows))

found_here : (s : State) (test : ℕ × Row → Bool) (e : ℕ × Row) → find test (enumerate_from 0 s.rows) ≡ Some e → slice_get s.rows e.0 ≡ Some e.1
found_here s test e x =
    let place = find_at_place test s.rows 0 e.0 e.1 x in
    ap (slice_get s.rows) (place.1 ∙ zero-add place.0) ∙ place.2

take_lawful : (s : State) → IsLawful s → IsLawful (after_take s)
take_lawful s l = by_ready (next_ready s) refl
  where
    by_ready : (o : Option (ℕ × Row)) → next_ready s ≡ o → IsLawful (taken s o)
    by_ready None x = l
    by_ready (Some e) x = put_row s e.0 e.1 (record e.1 { status = Out }) l (found_here s (λ z. is_ready s z.0 z.1) e x) refl refl

bring_lawful : (s : State) (t : Task) → IsLawful s → IsLawful (after_bring s t)
bring_lawful s t l = by_verdict (verdict_of s t) (find_row s t.id) refl
  where
    by_verdict : (v : Verdict) (o : Option (ℕ × Row)) → find_row s t.id ≡ o → IsLawful (brought_on s v o (work_of t))
    by_verdict Gone o x = l
    by_verdict (Stale n) o x = l
    by_verdict Repeated o x = l
    by_verdict Foreign o x = l
    by_verdict Kept None x = l
    by_verdict Kept (Some e) x =
        cut_lawful (kept_at s e (work_of t)) (put_row s e.0 e.1 (record e.1 { status = Settled; last = Some (work_of t) }) l (found_here s (λ z. eqb z.1.id.0 t.id.0) e x) refl refl)

release_lawful : (s : State) → IsLawful s → IsLawful (after_release s)
release_lawful s l =
    let P : Row → Type 0 = RowStands s.inputs s.next in
    with_rows s (map recalled_row s.rows) l (ids_recalled s.rows)
    (All-map P recalled_row s.rows (All-weaker P (λ (r : Row). P (recalled_row r)) (λ r stands. stands_like s.inputs s.next r (recalled_row r) refl refl stands) s.rows l.rows))

-- ---- rows after an edit

abbrev known_row : Known → Row
known_row k = k.row

judged_ids : (n : ℕ) (q : Key → Recipe) (ks : List Known) → row_ids (judged n q ks) ≡ row_ids (map known_row ks)
judged_ids n q [] = refl
judged_ids n q (k ∷ ks) = ap₂ (λ (i : ℕ) is. i ∷ is) (by_test (had_recipe k.before (row_recipe q k.row))) (judged_ids n (past_row q k.row) ks)
  where
    by_test : (b : Bool) → (cond b k.row (unsettled n k.row)).id.0 ≡ k.row.id.0
    by_test true = refl
    by_test false = refl

judged_stand : (inputs : Inputs) (next n : ℕ) (q : Key → Recipe) (ks : List Known) → All (RowStands inputs next) (map known_row ks) → All (RowStands inputs next) (judged n q ks)
judged_stand inputs next n q [] a = a
judged_stand inputs next n q (k ∷ ks) a =
    let P : Row → Type 0 = RowStands inputs next in
    All-cons P (cond (had_recipe k.before (row_recipe q k.row)) k.row (unsettled n k.row)) (judged n (past_row q k.row) ks) (by_test (had_recipe k.before (row_recipe q k.row)) (All-head P k.row (map known_row ks) a))
    (judged_stand inputs next n (past_row q k.row) ks (All-tail P k.row (map known_row ks) a))
  where
    by_test : (b : Bool) → RowStands inputs next k.row → RowStands inputs next (cond b k.row (unsettled n k.row))
    by_test true stands = stands
    by_test false stands = stands

known_all : (q : Key → Recipe) (rs : List Row) → map known_row (known q rs) ≡ rs
known_all q [] = refl
known_all q (r ∷ rs) = ap (λ xs. r ∷ xs) (known_all (past_row q r) rs)

known_take : (q : Key → Recipe) (rs : List Row) (p : ℕ) → map known_row (take p (known q rs)) ≡ take p rs
known_take q rs p = sym (take-map known_row p (known q rs)) ∙ ap (take p) (known_all q rs)

known_drop : (q : Key → Recipe) (rs : List Row) (p : ℕ) → map known_row (drop p (known q rs)) ≡ drop p rs
known_drop q rs p = sym (drop-map known_row p (known q rs)) ∙ ap (drop p) (known_all q rs)

edited_lawful : (s : State) (board : Board) (inputs : Inputs) (next : ℕ) (ks : List Known) (rs : List Row) → IsBoard board → length inputs.fields ≡ length board.fields → length inputs.flags ≡ length board.sets → Shaped board inputs → InputsFit inputs
    → map known_row ks ≡ rs → All (RowStands inputs next) rs → IdsApart (row_ids rs) → IsLawful (edited s board inputs next ks)
edited_lawful s board inputs next ks rs on fields flags shaped fit are stand apart = record {
  board = on;
  as_many_fields = fields;
  as_many_flags = flags;
  shaped = shaped;
  inputs = fit;
  rows = judged_stand inputs next (s.edits + 1) _ ks (subst (All (RowStands inputs next)) (sym are) stand);
  apart = subst IdsApart (ap row_ids (sym are) ∙ sym (judged_ids (s.edits + 1) _ ks)) apart;
}

-- rows stand where keys keep the shape of their input data
stand_up : (old new : Inputs) (next next' : ℕ) (rs : List Row) → next ≤ next' → ((k : Key) (s : ℕ × ℕ) → shape_in old k ≡ Some s → shape_in new k ≡ Some s) → All (RowStands old next) rs → All (RowStands new next') rs
stand_up old new next next' rs more up a =
    All-weaker (RowStands old next) (RowStands new next') (λ r stands. (stands.0, λ k t. up k _ (stands.1 k t), let less = stands.2 in omega (arith, less, more))) rs a

shape_up : (n : ℕ) (d : Key → Bool) (old new : Inputs) → News n d old new → (k : Key) (s : ℕ × ℕ) → shape_in old k ≡ Some s → shape_in new k ≡ Some s
shape_up n d old new news k s h = by_test (d k) refl
  where
    by_test : (b : Bool) → d k ≡ b → shape_in new k ≡ Some s
    by_test true e = let nothing : Option (ℕ × ℕ) = None in let wrong : nothing ≡ Some s = sym (ap input_shape (news.none k e)) ∙ h in absurd (cc)
    by_test false e = ap input_shape (news.same k e) ∙ h

-- ---- a set, a field

declared_fits : (n width count number : ℕ) → number < 2 ^ width → InputFits (declared_input n width count number)
declared_fits n width count number less = All-replicate (λ x. x < 2 ^ width) count number less

flags_declared : (n count : ℕ) → FlagsFit (declared_flags n count)
flags_declared n count Context = declared_fits n 1 count 1 (omega arith)
flags_declared n count Test = declared_fits n 1 count 0 (omega arith)
flags_declared n count Carry = declared_fits n 1 count 0 (omega arith)
flags_declared n count Overflow = declared_fits n 1 count 0 (omega arith)

fields_up : (widest n m : ℕ) (fs : List DeclaredField) → n ≤ m → AreFields widest n fs → AreFields widest m fs
fields_up widest n m [] more h = tt
fields_up widest n m (f ∷ fs) more h = (let less = h.0 in omega (arith, less, more), h.1, h.2, fields_up widest n m fs more h.3)

fields_push : (widest n : ℕ) (fs : List DeclaredField) (x : DeclaredField) → AreFields widest n fs → x.set_no < n → 0 < x.width → x.width ≤ widest → AreFields widest n (fs ++ x ∷ [])
fields_push widest n [] x h set some few = (set, some, few, tt)
fields_push widest n (f ∷ fs) x h set some few = (h.0, h.1, h.2, fields_push widest n fs x h.3 set some few)

set_lawful : (s : State) (name axes : List ℕ) → IsLawful s → IsLawful (set_added s name axes)
set_lawful s name axes l =
    let new : Inputs = with_flags s.board s.edits s.next s.inputs name axes in
    let longer : length (with_set s.board name axes).sets ≡ length s.board.sets + 1 = length-push s.board.sets (record { name = name; axes = axes }) in
    edited_lawful s (with_set s.board name axes) new s.next (known_rows s) s.rows
    (fields_up (max_width s.board.profile) (length s.board.sets) (length (with_set s.board name axes).sets) s.board.fields (omega (arith, longer)) l.board)
    l.as_many_fields
    (length-push s.inputs.flags (declared_flags (s.edits + 1) (processor_count axes)) ∙ ap (λ c. c + 1) l.as_many_flags ∙ sym longer)
    (set_shaped s.board s.edits s.next s.inputs name axes l.board l.as_many_flags l.shaped)
    (record { fields = l.inputs.fields; flags = All-push FlagsFit s.inputs.flags (declared_flags (s.edits + 1) (processor_count axes)) l.inputs.flags (flags_declared (s.edits + 1) (processor_count axes)) })
    (known_all _ s.rows)
    (stand_up s.inputs new s.next s.next s.rows (omega arith) (shape_up s.edits (is_new_flag (length s.inputs.flags)) s.inputs new (set_news s.board s.edits s.next s.inputs name axes)) l.rows)
    l.apart

place_within : (m n i : ℕ) → cond (nat_lt m n) (Some m) None ≡ Some i → i < n
place_within m n i e = by_test (nat_lt m n) refl e
  where
    by_test : (b : Bool) → nat_lt m n ≡ b → cond b (Some m) None ≡ Some i → i < n
    by_test true t x = let same : m ≡ i = cc in let less : m < n = grind (arith, nat_tests, t) in subst (λ j. j < n) same less
    by_test false t x = absurd (cc)

-- what a field that may be declared has
may_declare : (b : Board) (name set : List ℕ) (width : ℕ) → field_fault b name set width ≡ None → (0 < width) × (width ≤ max_width b.profile)
may_declare b name set width is = by_tests (is_none (set_named b set)) (is_taken b name) (nat_le MAX_FIELDS (length b.fields)) ((width == 0) || nat_lt (max_width b.profile) width) refl is
  where
    by_width : (z m : Bool) → (width == 0) ≡ z → nat_lt (max_width b.profile) width ≡ m → (z || m) ≡ false → (0 < width) × (width ≤ max_width b.profile)
    by_width true m a c e = absurd (cc)
    by_width false true a c e = absurd (cc)
    by_width false false a c e = (grind (arith, nat_tests, a), grind (arith, nat_tests, c))

    by_tests : (x y z w : Bool) → ((width == 0) || nat_lt (max_width b.profile) width) ≡ w → cond x (Some NoSet) (cond y (Some NameTaken) (cond z (Some FieldsFull) (cond w (Some BadWidth) None))) ≡ None
        → (0 < width) × (width ≤ max_width b.profile)
    by_tests true y z w t e = absurd (cc)
    by_tests false true z w t e = absurd (cc)
    by_tests false false true w t e = absurd (cc)
    by_tests false false false true t e = absurd (cc)
    by_tests false false false false t e = by_width (width == 0) (nat_lt (max_width b.profile) width) refl refl t

field_lawful : (s : State) (name : List ℕ) (set width : ℕ) → IsLawful s → set < length s.board.sets → 0 < width → width ≤ max_width s.board.profile → IsLawful (field_added s name (Some set) width)
field_lawful s name set width l there some few =
    let new : Inputs = with_declared s.board s.edits s.next s.inputs name set width in
    edited_lawful s (with_field s.board name set width) new s.next (known_rows s) s.rows
    (fields_push (max_width s.board.profile) (length s.board.sets) s.board.fields (record { name = name; set_no = set; width = width }) l.board there some few)
    (length-push s.inputs.fields _ ∙ ap (λ c. c + 1) l.as_many_fields ∙ sym (length-push s.board.fields (record { name = name; set_no = set; width = width })))
    l.as_many_flags
    (field_shaped s.board s.edits s.next s.inputs name set width l.as_many_fields l.shaped)
    (record { fields = All-push InputFits s.inputs.fields _ l.inputs.fields (declared_fits (s.edits + 1) width _ 0 (pow_pos width)); flags = l.inputs.flags })
    (known_all _ s.rows)
    (stand_up s.inputs new s.next s.next s.rows (omega arith) (shape_up s.edits (is_new_field (length s.inputs.fields)) s.inputs new (field_news s.board s.edits s.next s.inputs name set width)) l.rows)
    l.apart

-- ---- input data

with_flag_fits : (x : FlagInputs) (flag : FlagName) (i : Input) → FlagsFit x → InputFits i → FlagsFit (with_flag_input x flag i)
with_flag_fits x Context i fit new = each_flag_fits (record x { context = i }) new (fit Test) (fit Carry) (fit Overflow)
with_flag_fits x Test i fit new = each_flag_fits (record x { test = i }) (fit Context) new (fit Carry) (fit Overflow)
with_flag_fits x Carry i fit new = each_flag_fits (record x { carry = i }) (fit Context) (fit Test) new (fit Overflow)
with_flag_fits x Overflow i fit new = each_flag_fits (record x { overflow = i }) (fit Context) (fit Test) (fit Carry) new

with_input_fits : (inputs : Inputs) (k : Key) (i : Input) → InputsFit inputs → InputFits i → InputsFit (with_input inputs k i)
with_input_fits inputs (Field f) i fit new = record { fields = All-set InputFits inputs.fields f i new fit.fields; flags = fit.flags }
with_input_fits inputs (Flag s flag) i fit new = record { fields = fit.fields; flags = by_there (slice_get inputs.flags s) refl }
  where
    by_there : (o : Option FlagInputs) → slice_get inputs.flags s ≡ o → All FlagsFit (set_flags inputs.flags s flag i o)
    by_there None at = fit.flags
    by_there (Some x) at = All-set FlagsFit inputs.flags s (with_flag_input x flag i) (with_flag_fits x flag i (all_at FlagsFit inputs.flags s x fit.flags at) new) fit.flags

-- where no value is too great, each fits
values_fit : (w : ℕ) (xs : List ℕ) → nat_lt (position_or_len (λ x. nat_le (2 ^ w) x) xs) (length xs) ≡ false → AllFit w xs
values_fit w [] none = All-nil (λ x. x < 2 ^ w)
values_fit w (x ∷ xs) none = by_test (values_fit w xs) (nat_le (2 ^ w) x) refl none
  where
    by_test : (nat_lt (position_or_len (λ y. nat_le (2 ^ w) y) xs) (length xs) ≡ false → AllFit w xs) → (b : Bool) → nat_le (2 ^ w) x ≡ b → nat_lt (cond (not b) (1 + position_or_len (λ y. nat_le (2 ^ w) y) xs) 0) (suc (length xs)) ≡ false
        → AllFit w (x ∷ xs)
    by_test later true t e = absurd (let here : nat_lt 0 (suc (length xs)) ≡ true = grind (arith, nat_tests) in let wrong : true ≡ false = sym here ∙ e in cc)
    by_test later false t e =
        let p : ℕ = position_or_len (λ y. nat_le (2 ^ w) y) xs in
        let rest : nat_lt p (length xs) ≡ false = grind (arith, nat_tests, e) in
        All-cons (λ y. y < 2 ^ w) x xs (grind (arith, nat_tests, t)) (later rest)

-- the values that may be given to a key
may_give : (count width from : ℕ) (values : List ℕ) → fault_of_values count width from values ≡ None → (from + length values ≤ count) × AllFit width values
may_give count width from values is = by_tests (length values == 0) (nat_lt count (from + length values)) refl is
  where
    p : ℕ
    p = position_or_len (λ x. nat_le (2 ^ width) x) values

    by_place : (b : Bool) → nat_lt p (length values) ≡ b → option_map (λ i. TooWide (from + i)) (cond b (Some p) None) ≡ None → AllFit width values
    by_place true t e = absurd (cc)
    by_place false t e = values_fit width values t

    by_tests : (z m : Bool) → nat_lt count (from + length values) ≡ m → cond (z || m) (Some WrongCount) (option_map (λ i. TooWide (from + i)) (cond (nat_lt p (length values)) (Some p) None)) ≡ None → (from + length values ≤ count) × AllFit width values
    by_tests true m t e = absurd (cc)
    by_tests false true t e = absurd (cc)
    by_tests false false t e = (grind (arith, nat_tests, t), by_place (nat_lt p (length values)) refl e)

-- the shape of a key's input data is that of the board
shape_of : (b : Board) (inputs : Inputs) (k : Key) (i : Input) → Shaped b inputs → input_of inputs k ≡ Some i → (i.value.width ≡ width_of b k) × (length i.value.numbers ≡ count_of b k)
shape_of b inputs k i shaped at = by_test (is_declared b k) (sym (ap input_shape at) ∙ shaped k)
  where
    by_test : (t : Bool) → input_shape (Some i) ≡ cond t (Some (width_of b k, count_of b k)) None → (i.value.width ≡ width_of b k) × (length i.value.numbers ≡ count_of b k)
    by_test true e =
        let here : ℕ × ℕ = (i.value.width, length i.value.numbers) in
        let there : ℕ × ℕ = (width_of b k, count_of b k) in
        let same : here ≡ there = cc in
        (ap (λ (z : ℕ × ℕ). z.0) same, ap (λ (z : ℕ × ℕ). z.1) same)
    by_test false e = absurd (cc)

input_lawful : (s : State) (k : Key) (from : ℕ) (values : List ℕ) (i : Input) → IsLawful s → input_of s.inputs k ≡ Some i → values_fault s from values k ≡ None → IsLawful (input_changed s k from values (Some i))
input_lawful s k from values i l at none =
    let shape = shape_of s.board s.inputs k i l.shaped at in
    let may = may_give (count_of s.board k) (width_of s.board k) from values none in
    let room : from + length values ≤ length i.value.numbers = (let a = may.0 in let b = shape.1 in omega (arith, a, b)) in
    let new : Input = changed_input s from values i in
    let long : length new.value.numbers ≡ length i.value.numbers = length-overwritten i.value.numbers values from room in
    let P : ℕ → Type 0 = λ x. x < 2 ^ i.value.width in
    let old : All P i.value.numbers = input_fits s.inputs k i l.inputs at in
    let given : All P values = subst (λ w. AllFit w values) (sym shape.0) may.1 in
    let fits : InputFits new = All-append P (take from i.value.numbers) (values ++ drop (from + length values) i.value.numbers) (All-take P from i.value.numbers old)
    (All-append P values (drop (from + length values) i.value.numbers) given (All-drop P (from + length values) i.value.numbers old)) in
    let stays = shape_stays s.inputs k new i at refl long in
    edited_lawful s s.board (with_input s.inputs k new) s.next (known_rows s) s.rows l.board
    (fields_stay s.inputs k new ∙ l.as_many_fields) (flags_stay s.inputs k new ∙ l.as_many_flags) (λ f. stays f ∙ l.shaped f) (with_input_fits s.inputs k new l.inputs fits)
    (known_all _ s.rows) (stand_up s.inputs (with_input s.inputs k new) s.next s.next s.rows (omega arith) (λ f t h. stays f ∙ h) l.rows) l.apart
  where
    flag_at : (flags : List FlagInputs) (t : ℕ) (flag : FlagName) (j : Input) → All FlagsFit flags → (o : Option FlagInputs) → slice_get flags t ≡ o → option_map (λ x. flag_input x flag) o ≡ Some j → InputFits j
    flag_at flags t flag j all None e is = absurd (cc)
    flag_at flags t flag j all (Some x) e is = let same : flag_input x flag ≡ j = cc in subst InputFits same (all_at FlagsFit flags t x all e flag)

    input_fits : (inputs : Inputs) (f : Key) (j : Input) → InputsFit inputs → input_of inputs f ≡ Some j → InputFits j
    input_fits inputs (Field f) j fit e = all_at InputFits inputs.fields f j fit.fields e
    input_fits inputs (Flag t flag) j fit e = flag_at inputs.flags t flag j fit.flags (slice_get inputs.flags t) refl e

-- ---- rows that are put in, taken out and replaced

not_equal : (i j : ℕ) → i < j → (eqb i j ≡ false) × (eqb j i ≡ false)
not_equal i j less = (grind (arith, nat_tests, less), grind (arith, nat_tests, less))

none_is : (j : ℕ) (is : List ℕ) → All (λ i. i < j) is → list_any (λ k. eqb k j) is ≡ false
none_is j [] below = refl
none_is j (i ∷ is) below = rw ((not_equal i j (All-head (λ i. i < j) i is below)).0) (none_is j is (All-tail (λ i. i < j) i is below))

none_put : (i j : ℕ) (is : List ℕ) (p : ℕ) → list_any (λ k. eqb k i) is ≡ false → eqb j i ≡ false → list_any (λ k. eqb k i) (take p is ++ j ∷ drop p is) ≡ false
none_put i j [] zero h ne = rw ne refl
none_put i j [] (suc p) h ne = rw ne refl
none_put i j (x ∷ xs) zero h ne = rw ne h
none_put i j (x ∷ xs) (suc p) h ne = rw (or_first (eqb x i) (list_any (λ k. eqb k i) xs) h) (none_put i j xs p (or_second (eqb x i) (list_any (λ k. eqb k i) xs) h) ne)

apart_put : (j : ℕ) (is : List ℕ) (p : ℕ) → All (λ i. i < j) is → IdsApart is → IdsApart (take p is ++ j ∷ drop p is)
apart_put j [] zero below a = (refl, tt)
apart_put j [] (suc p) below a = (refl, tt)
apart_put j (i ∷ is) zero below a = (none_is j (i ∷ is) below, a)
apart_put j (i ∷ is) (suc p) below a =
    (none_put i j is p a.0 (not_equal i j (All-head (λ i. i < j) i is below)).1, apart_put j is p (All-tail (λ i. i < j) i is below) a.1)

none_less : (i : ℕ) (is : List ℕ) (p : ℕ) → list_any (λ k. eqb k i) is ≡ false → list_any (λ k. eqb k i) (take p is ++ drop (suc p) is) ≡ false
none_less i [] zero h = refl
none_less i [] (suc p) h = refl
none_less i (x ∷ xs) zero h = or_second (eqb x i) (list_any (λ k. eqb k i) xs) h
none_less i (x ∷ xs) (suc p) h = rw (or_first (eqb x i) (list_any (λ k. eqb k i) xs) h) (none_less i xs p (or_second (eqb x i) (list_any (λ k. eqb k i) xs) h))

apart_less : (is : List ℕ) (p : ℕ) → IdsApart is → IdsApart (take p is ++ drop (suc p) is)
apart_less [] zero a = tt
apart_less [] (suc p) a = tt
apart_less (i ∷ is) zero a = a.1
apart_less (i ∷ is) (suc p) a = (none_less i is p a.0, apart_less is p a.1)

abbrev id_in : Row → ℕ
id_in r = r.id.0

ids_join : (xs ys : List Row) → row_ids (xs ++ ys) ≡ row_ids xs ++ row_ids ys
ids_join xs ys = map-append id_in xs ys

insert_lawful : (s : State) (place : ℕ) (p : Plan) → IsLawful s → IsPlanOn s.board p → IsLawful (row_inserted s place p)
insert_lawful s place p l on =
    let r : Row = new_row s p in
    let P : Row → Type 0 = RowStands s.inputs (s.next + 1) in
    let all : All P s.rows = stand_up s.inputs s.inputs s.next (s.next + 1) s.rows (omega arith) (λ k t h. h) l.rows in
    let stands : P r = (on.0, fitted_plan s.board s.inputs p l.shaped on.1, omega arith) in
    let below : All (λ i. i < s.next) (row_ids s.rows) = All-map (λ i. i < s.next) id_in s.rows (All-weaker (RowStands s.inputs s.next) (λ (x : Row). x.id.0 < s.next) (λ x t. t.2) s.rows l.rows) in
    let ids : row_ids (take place s.rows ++ r ∷ drop place s.rows) ≡ take place (row_ids s.rows) ++ s.next ∷ drop place (row_ids s.rows) =
    ids_join (take place s.rows) (r ∷ drop place s.rows) ∙ ap₂ (λ a b. a ++ s.next ∷ b) (sym (take-map id_in place s.rows)) (sym (drop-map id_in place s.rows)) in
    edited_lawful s s.board s.inputs (s.next + 1) (insert (known_rows s) place (record { row = r; before = None })) (take place s.rows ++ r ∷ drop place s.rows)
    l.board l.as_many_fields l.as_many_flags l.shaped l.inputs
    (map-append known_row (take place (known_rows s)) (record { row = r; before = None } ∷ drop place (known_rows s)) ∙ ap₂ (λ a b. a ++ r ∷ b) (known_take _ s.rows place) (known_drop _ s.rows place))
    (All-append P (take place s.rows) (r ∷ drop place s.rows) (All-take P place s.rows all) (All-cons P r (drop place s.rows) stands (All-drop P place s.rows all)))
    (subst IdsApart (sym ids) (apart_put s.next (row_ids s.rows) place below l.apart))

delete_lawful : (s : State) (place : ℕ) → IsLawful s → IsLawful (row_deleted s place)
delete_lawful s place l =
    let P : Row → Type 0 = RowStands s.inputs s.next in
    let ids : row_ids (take place s.rows ++ drop (suc place) s.rows) ≡ take place (row_ids s.rows) ++ drop (suc place) (row_ids s.rows) =
    ids_join (take place s.rows) (drop (suc place) s.rows) ∙ ap₂ (λ a b. a ++ b) (sym (take-map id_in place s.rows)) (sym (drop-map id_in (suc place) s.rows)) in
    edited_lawful s s.board s.inputs s.next (remove (known_rows s) place) (take place s.rows ++ drop (suc place) s.rows)
    l.board l.as_many_fields l.as_many_flags l.shaped l.inputs
    (map-append known_row (take place (known_rows s)) (drop (suc place) (known_rows s)) ∙ ap₂ (λ a b. a ++ b) (known_take _ s.rows place) (known_drop _ s.rows (suc place)))
    (All-append P (take place s.rows) (drop (suc place) s.rows) (All-take P place s.rows l.rows) (All-drop P (suc place) s.rows l.rows))
    (subst IdsApart (sym ids) (apart_less (row_ids s.rows) place l.apart))

first_stand : (inputs : Inputs) (next n : ℕ) (p : Plan) (ks : List Known) → IsFit p.axes p.action → Fitted inputs p → All (RowStands inputs next) (map known_row ks) → All (RowStands inputs next) (map known_row (set_first n p ks))
first_stand inputs next n p [] fit fitted a = a
first_stand inputs next n p (k ∷ ks) fit fitted a =
    let P : Row → Type 0 = RowStands inputs next in
    All-cons P (record k.row { plan = p; set_by = n }) (map known_row ks) (fit, fitted, (All-head P k.row (map known_row ks) a).2) (All-tail P k.row (map known_row ks) a)

first_ids : (n : ℕ) (p : Plan) (ks : List Known) → row_ids (map known_row (set_first n p ks)) ≡ row_ids (map known_row ks)
first_ids n p [] = refl
first_ids n p (k ∷ ks) = refl

replace_lawful : (s : State) (place : ℕ) (p : Plan) → IsLawful s → IsPlanOn s.board p → IsLawful (row_replaced s place p)
replace_lawful s place p l on =
    let P : Row → Type 0 = RowStands s.inputs s.next in
    let ks : List Known = known_rows s in
    let front : List Row = map known_row (take place ks) in
    let back : List Row = map known_row (set_first (s.edits + 1) p (drop place ks)) in
    let behind : All P (map known_row (drop place ks)) = subst (All P) (sym (known_drop _ s.rows place)) (All-drop P place s.rows l.rows) in
    let before : All P front = subst (All P) (sym (known_take _ s.rows place)) (All-take P place s.rows l.rows) in
    let ids : row_ids (front ++ back) ≡ row_ids s.rows =
    ids_join front back ∙ ap (λ b. row_ids front ++ b) (first_ids (s.edits + 1) p (drop place ks))
    ∙ ap₂ (λ a b. row_ids a ++ row_ids b) (known_take _ s.rows place) (known_drop _ s.rows place)
    ∙ sym (ids_join (take place s.rows) (drop place s.rows))
    ∙ ap row_ids (take-append-drop place s.rows) in
    edited_lawful s s.board s.inputs s.next (take place ks ++ set_first (s.edits + 1) p (drop place ks)) (front ++ back)
    l.board l.as_many_fields l.as_many_flags l.shaped l.inputs
    (map-append known_row (take place ks) (set_first (s.edits + 1) p (drop place ks)))
    (All-append P front back before (first_stand s.inputs s.next (s.edits + 1) p (drop place ks) on.0 (fitted_plan s.board s.inputs p l.shaped on.1) behind))
    (subst IdsApart (sym ids) l.apart)

-- ---- any edit, and any event

content_lawful : (s : State) (e : Edit) → IsLawful s → content_fault s e ≡ None → IsLawful (edited_by s e)
content_lawful s (AddSet name axes) l none = set_lawful s name axes l
content_lawful s (AddField name set width) l none = by_set (set_named s.board set) refl
  where
    by_set : (o : Option ℕ) → set_named s.board set ≡ o → IsLawful (field_added s name o width)
    by_set None e = l
    by_set (Some k) e =
        let may = may_declare s.board name set width none in
        field_lawful s name k width l (place_within (position_or_len _ s.board.sets) (length s.board.sets) k e) may.0 may.1
content_lawful s (SetInput name from values) l none = by_key (key_named s.board name) none
  where
    by_there : (k : Key) → values_fault s from values k ≡ None → (o : Option Input) → input_of s.inputs k ≡ o → IsLawful (input_changed s k from values o)
    by_there k fits None at = l
    by_there k fits (Some i) at = input_lawful s k from values i l at fits

    by_key : (o : Option Key) → input_fault s from values o ≡ None → IsLawful (input_set s o from values)
    by_key None fits = l
    by_key (Some k) fits = by_there k fits (input_of s.inputs k) refl
content_lawful s (Insert spot instr) l none = by_place (place_of_spot s spot) (resolution s.board instr) (resolution_fits s.board l.board instr)
  where
    by_place : (o : Option ℕ) (r : Result Plan Fault) → IfOk r (IsPlanOn s.board) → IsLawful (inserted_from s o r)
    by_place None r on = l
    by_place (Some place) (Ok p) on = insert_lawful s place p l on
    by_place (Some place) (Err fault) on = l
content_lawful s (Delete id) l none = by_row (find_row s id)
  where
    by_row : (o : Option (ℕ × Row)) → IsLawful (deleted_from s o)
    by_row None = l
    by_row (Some e) = delete_lawful s e.0 l
content_lawful s (Replace id instr) l none = by_row (find_row s id) (resolution s.board instr) (resolution_fits s.board l.board instr)
  where
    by_row : (o : Option (ℕ × Row)) (r : Result Plan Fault) → IfOk r (IsPlanOn s.board) → IsLawful (replaced_from s o r)
    by_row None r on = l
    by_row (Some e) (Ok p) on = replace_lawful s e.0 p l on
    by_row (Some e) (Err fault) on = l

edit_lawful : (s : State) (e : Edit) → IsLawful s → IsLawful (after_edit s e)
edit_lawful s e l = by_fault (edit_fault s e) refl
  where
    by_count : (b : Bool) → cond b (Some EditionsSpent) (content_fault s e) ≡ None → content_fault s e ≡ None
    by_count true x = absurd (cc)
    by_count false x = x

    by_fault : (o : Option Fault) → edit_fault s e ≡ o → IsLawful (after_edit_by s e o)
    by_fault None x = cut_lawful (edited_by s e) (content_lawful s e l (by_count (nat_le MAX_EDITS s.edits) x))
    by_fault (Some fault) x = l

after_lawful : (s : State) (e : Event) → IsLawful s → IsLawful (after s e)
after_lawful s (EventCase.Edit e) l = edit_lawful s e l
after_lawful s EventCase.Take l = take_lawful s l
after_lawful s (EventCase.Bring t) l = bring_lawful s t l
after_lawful s EventCase.Release l = release_lawful s l
after_lawful s (EventCase.Show name spot) l = l
after_lawful s EventCase.List l = l

all_lawful : (s : State) (es : List Event) → IsLawful s → IsLawful (after_all s es)
all_lawful s [] l = l
all_lawful s (e ∷ es) l = all_lawful (after s e) es (after_lawful s e l)

-- a state that a book can have
book_lawful : (s : State) → IsBookState s → IsLawful s
book_lawful s (p, count, es, is) = subst IsLawful (sym is) (all_lawful (empty_state_of p count) es (empty_lawful p count))

book_rests : (s : State) → IsBookState s → AtRest s
book_rests s (p, count, es, is) = subst AtRest (sym is) (all_rest (empty_state_of p count) es tt)

plans_stand : (inputs : Inputs) (next : ℕ) (rs : List Row) → All (RowStands inputs next) rs → PlansFit (width_at inputs) (map row_plan rs)
plans_stand inputs next [] a = tt
plans_stand inputs next (r ∷ rs) a =
    let P : Row → Type 0 = RowStands inputs next in
    let here = All-head P r rs a in
    (record { action = here.0; widths = λ k t. sym (ap width_in_shape (here.1 k t)) }, plans_stand inputs next rs (All-tail P r rs a))

-- a run of it is the direct one
pub state_direct : RunIsDirect → (s : State) → IsBookState s → NowIsDirect s
state_direct law s is place k =
    let l = book_lawful s is in
    law (width_at s.inputs) (start_world s.inputs) (map row_plan (take place s.rows)) (start_fits s.inputs l.inputs)
    (plans_stand s.inputs s.next (take place s.rows) (All-take (RowStands s.inputs s.next) place s.rows l.rows)) k

-- its orders settle it
pub state_settles : (s : State) → IsBookState s → OrdersSettle s
state_settles s is =
    let rests = book_rests s is in
    let apart = (book_lawful s is).apart in
    ((ran_ends s rests apart).1, λ n more. order_left s rests apart n more)

after_append : (s : State) (es more : List Event) → after_all s (es ++ more) ≡ after_all (after_all s es) more
after_append s [] more = refl
after_append s (e ∷ es) more = after_append (after s e) es more

-- events lead to such a state, and so do orders that settle it
pub state_goes_on : (s : State) (more : List Event) → IsBookState s → IsBookState (after_all s more)
state_goes_on s more (p, count, es, is) = (p, count, es ++ more, ap (λ z. after_all z more) is ∙ sym (after_append (empty_state_of p count) es more))

run_goes_on : (s : State) → IsBookState s → IsBookState (after_run s)
run_goes_on s is = by_order (take_reply s)
  where
    by_order : (o : Option Task) → IsBookState (brought_back (after_take s) o)
    by_order None = state_goes_on s (EventCase.Take ∷ []) is
    by_order (Some t) = state_goes_on s (EventCase.Take ∷ EventCase.Bring t ∷ []) is

pub orders_go_on : (n : ℕ) (s : State) → IsBookState s → IsBookState (ran_orders n s)
orders_go_on zero s is = is
orders_go_on (suc n) s is = run_goes_on (ran_orders n s) (orders_go_on n s is)

pub settled_goes_on : (s : State) → IsBookState s → IsBookState (all_settled s)
settled_goes_on s is = subst IsBookState (state_settles s is).0 (orders_go_on (due s) (after_release s) (state_goes_on s (EventCase.Release ∷ []) is))
