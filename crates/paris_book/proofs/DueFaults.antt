-- A fault that is due at an edit is none of those that have other reasons: it isn't want of memory, so a refusal for want of memory says
-- that none is due, and its number is at most 17.
use Rattle.std.proofs.Common.{◌≡◌, ◌≤◌, ℕ, List, Bool, true, false, cond, Option, Some, None, Result, Ok, Err, refl, sym, ap, ◌∙◌, subst, arith}
use Rattle.std.proofs.lemmas.Bool.Decides.{nat_tests}
use Rattle.std.specs.Prelude.{length, nat_le, nat_lt, not, position, ◌+◌, ◌==◌, ◌||◌, is_none, ◌^◌}
use Rattle.std.specs.Option.{option_or, option_map, ok_or}
use Rattle.paris_names.specs.declared.faults.Fault.{Fault}
use Rattle.paris_names.specs.declared.faults.Fault.TheVariants.{SetsFull, BadAxes, NameTaken, NoSet, FieldsFull, BadWidth, NoField, WrongCount, TooWide, RowsFull, BadLength, WrongSet, BadAxis, BadOperand, Overlap, EditionsSpent}
use Rattle.paris_names.specs.Faults.{IsFaultOf, is_no_memory, number_of}
use Rattle.paris_names.specs.declared.keys.Key.{Key}
use Rattle.paris_board.specs.Board.{Board, set_named, field_named, key_named, is_taken, set_fault, field_fault, width_of, count_of}
use Rattle.paris_geometry.specs.Geometry.{is_geometry}
use Rattle.paris_model.specs.declared.actions.Operand.{Operand}
use Rattle.paris_model.specs.declared.actions.Conditional.{Conditional}
use Rattle.paris_model.specs.declared.actions.Conditional.TheVariants.{Binary, Unary, MoveConstant, Resize, Compare, MyCoordinate, MyAddress, SetTest, ClearTest, LoadTest, StoreTest}
use Rattle.paris_model.specs.declared.actions.Unconditional.{Unconditional}
use Rattle.paris_model.specs.declared.actions.Unconditional.TheVariants.{MoveAlways, SetContext, ClearContext, InvertContext, LoadContext, AndContext, OrContext, AndContextWithTest, StoreContext}
use Rattle.paris_model.specs.declared.actions.News.{News}
use Rattle.paris_model.specs.declared.actions.Line.{Line}
use Rattle.paris_model.specs.declared.actions.Line.TheVariants.{Scan, CopyScan, Spread, CopySpread, Reduce}
use Rattle.paris_model.specs.declared.actions.Mail.{Mail}
use Rattle.paris_model.specs.declared.actions.Action.{Action}
use Rattle.paris_model.specs.declared.actions.Action.TheVariants.{OnSelected, OnAll, ByNews, AlongLine, ByMail}
use Rattle.paris_model.specs.Fits.{has_bad_axis, has_bad_length, has_bad_operand, has_overlap}
use Rattle.paris_model.specs.Instructions.{Plan}
use Rattle.paris_instr.specs.Resolve.{operand_of, operand_named, set_no_named, from_one, from_two, from_three, from_four, operand_if_named, conditional_named, unconditional_named, news_named, line_named, mail_named, action_named, is_in_one_set, axes_of_action, set_of_action, planned_from, resolution, fault_in}
use Rattle.paris_edits.specs.declared.edits.Edit.{Edit}
use Rattle.paris_edits.specs.declared.edits.Edit.TheVariants.{AddSet, AddField, Input as SetInput, Insert, Delete, Replace}
use Rattle.paris_events.specs.State.{State, Row, find_row, place_of_spot}
use Rattle.paris_events.specs.Edits.{fault_of_values, input_fault, insert_fault, delete_fault, replace_fault, content_fault, edit_fault}
use Rattle.paris_names.specs.declared.limits.TheConstants.{MAX_EDITS, MAX_ROWS, MAX_SETS, MAX_FIELDS}
use Rattle.paris_names.specs.Profiles.{max_width}

-- whether a fault has other reasons than what an edit says
abbrev is_other : Fault → Bool
is_other fault = is_no_memory fault || nat_lt 17 (number_of fault)

-- a result whose fault, if it has one, has none
abbrev Due : {A : Type 0} → Result A Fault → Type 0
Due (Ok x) = Unit {0}
Due (Err fault) = is_other fault ≡ false

-- the same of a fault that may be due
abbrev Wanted : Option Fault → Type 0
Wanted None = Unit {0}
Wanted (Some fault) = is_other fault ≡ false

due_or : {A : Type 0} (o : Option A) (fault : Fault) → is_other fault ≡ false → Due (ok_or o fault)
due_or None fault h = h
due_or (Some x) fault h = tt

due_one : {W Z : Type 0} (f : W → Z) (r : Result W Fault) → Due r → Due (from_one f r)
due_one f (Ok w) h = tt
due_one f (Err fault) h = h

due_two : {W X Z : Type 0} (f : W → X → Z) (r : Result W Fault) (q : Result X Fault) → Due r → Due q → Due (from_two f r q)
due_two f (Ok w) q h i = due_one (f w) q i
due_two f (Err fault) q h i = h

due_three : {W X Y Z : Type 0} (f : W → X → Y → Z) (r : Result W Fault) (q : Result X Fault) (p : Result Y Fault) → Due r → Due q → Due p → Due (from_three f r q p)
due_three f (Ok w) q p h i j = due_two (f w) q p i j
due_three f (Err fault) q p h i j = h

due_four : {V W X Y Z : Type 0} (f : V → W → X → Y → Z) (r : Result V Fault) (q : Result W Fault) (p : Result X Fault) (o : Result Y Fault) → Due r → Due q → Due p → Due o → Due (from_four f r q p o)
due_four f (Ok v) q p o h i j k = due_three (f v) q p o i j k
due_four f (Err fault) q p o h i j k = h

module _ (b : Board) where
  operand : (name : List ℕ) → Due (operand_named b name)
  operand name = due_or (option_map (operand_of b) (field_named b name)) NoField refl

  set : (name : List ℕ) → Due (set_no_named b name)
  set name = due_or (set_named b name) NoSet refl

  operand_if : (name : Option (List ℕ)) → Due (operand_if_named b name)
  operand_if None = tt
  operand_if (Some name) = due_one Some (operand_named b name) (operand name)

  conditional : (i : Conditional (List ℕ) (List ℕ)) → Due (conditional_named b i)
  conditional (Binary op D A B L) = due_three (λ d x y. Binary op d x y L) (operand_named b D) (operand_named b A) (operand_named b B) (operand D) (operand A) (operand B)
  conditional (Unary op D A L) = due_two (λ d x. Unary op d x L) (operand_named b D) (operand_named b A) (operand D) (operand A)
  conditional (MoveConstant D K L) = due_one (λ d. MoveConstant d K L) (operand_named b D) (operand D)
  conditional (Resize sign D A L M) = due_two (λ d x. Resize sign d x L M) (operand_named b D) (operand_named b A) (operand D) (operand A)
  conditional (Compare op A B L) = due_two (λ x y. Compare op x y L) (operand_named b A) (operand_named b B) (operand A) (operand B)
  conditional (MyCoordinate D X L) = due_one (λ d. MyCoordinate d X L) (operand_named b D) (operand D)
  conditional (MyAddress D L) = due_one (λ d. MyAddress d L) (operand_named b D) (operand D)
  conditional (SetTest S) = due_one SetTest (set_no_named b S) (set S)
  conditional (ClearTest S) = due_one ClearTest (set_no_named b S) (set S)
  conditional (LoadTest F) = due_one LoadTest (operand_named b F) (operand F)
  conditional (StoreTest F) = due_one StoreTest (operand_named b F) (operand F)

  unconditional : (i : Unconditional (List ℕ) (List ℕ)) → Due (unconditional_named b i)
  unconditional (MoveAlways D A L) = due_two (λ d x. MoveAlways d x L) (operand_named b D) (operand_named b A) (operand D) (operand A)
  unconditional (SetContext S) = due_one SetContext (set_no_named b S) (set S)
  unconditional (ClearContext S) = due_one ClearContext (set_no_named b S) (set S)
  unconditional (InvertContext S) = due_one InvertContext (set_no_named b S) (set S)
  unconditional (LoadContext F) = due_one LoadContext (operand_named b F) (operand F)
  unconditional (AndContext F) = due_one AndContext (operand_named b F) (operand F)
  unconditional (OrContext F) = due_one OrContext (operand_named b F) (operand F)
  unconditional (AndContextWithTest S) = due_one AndContextWithTest (set_no_named b S) (set S)
  unconditional (StoreContext F) = due_one StoreContext (operand_named b F) (operand F)

  news : (i : News (List ℕ)) → Due (news_named b i)
  news (News.Get D A X direction L) = due_two (λ d x. News.Get d x X direction L) (operand_named b D) (operand_named b A) (operand D) (operand A)
  news (News.Send D A X direction L) = due_two (λ d x. News.Send d x X direction L) (operand_named b D) (operand_named b A) (operand D) (operand A)

  line : (i : Line (List ℕ)) → Due (line_named b i)
  line (Scan op D A X L direction inclusion G) = due_three (λ d x g. Scan op d x X L direction inclusion g) (operand_named b D) (operand_named b A) (operand_if_named b G) (operand D) (operand A) (operand_if G)
  line (CopyScan D A X L direction G) = due_three (λ d x g. CopyScan d x X L direction g) (operand_named b D) (operand_named b A) (operand_if_named b G) (operand D) (operand A) (operand_if G)
  line (Spread op D A X L) = due_two (λ d x. Spread op d x X L) (operand_named b D) (operand_named b A) (operand D) (operand A)
  line (CopySpread D A X L C) = due_two (λ d x. CopySpread d x X L C) (operand_named b D) (operand_named b A) (operand D) (operand A)
  line (Reduce op D A X L C) = due_two (λ d x. Reduce op d x X L C) (operand_named b D) (operand_named b A) (operand D) (operand A)

  mail : (i : Mail (List ℕ)) → Due (mail_named b i)
  mail (Mail.Get D B A L) = due_three (λ d y x. Mail.Get d y x L) (operand_named b D) (operand_named b B) (operand_named b A) (operand D) (operand B) (operand A)
  mail (Mail.Send D B A L N) = due_four (λ d y x n. Mail.Send d y x L n) (operand_named b D) (operand_named b B) (operand_named b A) (operand_if_named b N) (operand D) (operand B) (operand A) (operand_if N)
  mail (Mail.CombiningSend op D B A L N) = due_four (λ d y x n. Mail.CombiningSend op d y x L n) (operand_named b D) (operand_named b B) (operand_named b A) (operand_if_named b N) (operand D) (operand B) (operand A) (operand_if N)

  action : (i : Action (List ℕ) (List ℕ)) → Due (action_named b i)
  action (OnSelected i) = due_one OnSelected (conditional_named b i) (conditional i)
  action (OnAll i) = due_one OnAll (unconditional_named b i) (unconditional i)
  action (ByNews i) = due_one ByNews (news_named b i) (news i)
  action (AlongLine i) = due_one AlongLine (line_named b i) (line i)
  action (ByMail i) = due_one ByMail (mail_named b i) (mail i)

  five_tests : (t u v w x : Bool) (p : Plan) → Due (cond (not t) (Err WrongSet) (cond u (Err BadAxis) (cond v (Err BadLength) (cond w (Err BadOperand) (cond x (Err Overlap) (Ok p))))))
  five_tests false u v w x p = refl
  five_tests true true v w x p = refl
  five_tests true false true w x p = refl
  five_tests true false false true x p = refl
  five_tests true false false false true p = refl
  five_tests true false false false false p = tt

  from_action : (instr : Action (List ℕ) (List ℕ)) (r : Result (Action Operand ℕ) Fault) → Due r → Due (planned_from b instr r)
  from_action instr (Err fault) h = h
  from_action instr (Ok i) h = five_tests (is_in_one_set b i) (has_bad_axis (axes_of_action b i) i) (has_bad_length i) (has_bad_operand (axes_of_action b i) i) (has_overlap i) (record { instr = instr; set_no = set_of_action b i; axes = axes_of_action b i; action = i })

  resolved : (instr : Action (List ℕ) (List ℕ)) → Due (resolution b instr)
  resolved instr = from_action instr (action_named b instr) (action instr)

in_plan : (r : Result Plan Fault) → Due r → Wanted (fault_in r)
in_plan (Ok p) h = tt
in_plan (Err fault) h = h

set_wanted : (b : Board) (name axes : List ℕ) → Wanted (option_or (set_fault b name) (cond (is_geometry axes) None (Some BadAxes)))
set_wanted b name axes = by_tests (is_taken b name) (nat_le MAX_SETS (length b.sets)) (is_geometry axes)
  where
    by_tests : (t u v : Bool) → Wanted (option_or (cond t (Some NameTaken) (cond u (Some SetsFull) None)) (cond v None (Some BadAxes)))
    by_tests true u v = refl
    by_tests false true v = refl
    by_tests false false true = tt
    by_tests false false false = refl

field_wanted : (b : Board) (name set : List ℕ) (width : ℕ) → Wanted (field_fault b name set width)
field_wanted b name set width = by_tests (is_none (set_named b set)) (is_taken b name) (nat_le MAX_FIELDS (length b.fields)) ((width == 0) || nat_lt (max_width b.profile) width)
  where
    by_tests : (t u v w : Bool) → Wanted (cond t (Some NoSet) (cond u (Some NameTaken) (cond v (Some FieldsFull) (cond w (Some BadWidth) None))))
    by_tests true u v w = refl
    by_tests false true v w = refl
    by_tests false false true w = refl
    by_tests false false false true = refl
    by_tests false false false false = tt

values_wanted : (count width from : ℕ) (values : List ℕ) → Wanted (fault_of_values count width from values)
values_wanted count width from values = by_test ((length values == 0) || nat_lt count (from + length values)) (position (λ x. nat_le (2 ^ width) x) values)
  where
    by_test : (t : Bool) (o : Option ℕ) → Wanted (cond t (Some WrongCount) (option_map (λ i. TooWide (from + i)) o))
    by_test true o = refl
    by_test false None = tt
    by_test false (Some i) = refl

input_wanted : (s : State) (from : ℕ) (values : List ℕ) (o : Option Key) → Wanted (input_fault s from values o)
input_wanted s from values None = refl
input_wanted s from values (Some k) = values_wanted (count_of s.board k) (width_of s.board k) from values

insert_wanted : (s : State) (o : Option ℕ) (r : Result Plan Fault) → Due r → Wanted (insert_fault s o r)
insert_wanted s None r h = refl
insert_wanted s (Some place) r h = by_test (nat_le MAX_ROWS (length s.rows))
  where
    by_test : (t : Bool) → Wanted (cond t (Some RowsFull) (fault_in r))
    by_test true = refl
    by_test false = in_plan r h

delete_wanted : (o : Option (ℕ × Row)) → Wanted (delete_fault o)
delete_wanted None = refl
delete_wanted (Some e) = tt

replace_wanted : (o : Option (ℕ × Row)) (r : Result Plan Fault) → Due r → Wanted (replace_fault o r)
replace_wanted None r h = refl
replace_wanted (Some e) r h = in_plan r h

content_wanted : (s : State) (e : Edit) → Wanted (content_fault s e)
content_wanted s (AddSet name axes) = set_wanted s.board name axes
content_wanted s (AddField name set width) = field_wanted s.board name set width
content_wanted s (SetInput name from values) = input_wanted s from values (key_named s.board name)
content_wanted s (Insert spot instr) = insert_wanted s (place_of_spot s spot) (resolution s.board instr) (resolved s.board instr)
content_wanted s (Delete id) = delete_wanted (find_row s id)
content_wanted s (Replace id instr) = replace_wanted (find_row s id) (resolution s.board instr) (resolved s.board instr)

edit_wanted : (s : State) (e : Edit) → Wanted (edit_fault s e)
edit_wanted s e = by_test (nat_le MAX_EDITS s.edits)
  where
    by_test : (t : Bool) → Wanted (cond t (Some EditionsSpent) (content_fault s e))
    by_test true = refl
    by_test false = content_wanted s e

neither : (a b : Bool) → (a || b) ≡ false → (a ≡ false) × (b ≡ false)
neither false false h = (refl, refl)
neither true b h = cc
neither false true h = cc

-- a fault that is due at an edit has a number of at most 17
pub edit_number : (s : State) (e : Edit) (fault : Fault) → edit_fault s e ≡ Some fault → number_of fault ≤ 17
edit_number s e fault is = let n = (neither (is_no_memory fault) (nat_lt 17 (number_of fault)) (subst Wanted is (edit_wanted s e))).1 in grind (arith, nat_tests, n)

-- an edit that is refused for want of memory has no other fault
pub no_fault_due : (s : State) (e : Edit) (fault : Fault) → IsFaultOf (edit_fault s e) fault → is_no_memory fault ≡ true → edit_fault s e ≡ None
no_fault_due s e fault due none = by_fault (edit_fault s e) (edit_wanted s e) due
  where
    by_fault : (o : Option Fault) → Wanted o → IsFaultOf o fault → o ≡ None
    by_fault None h f = refl
    by_fault (Some other) h f = absurd (let x : true ≡ false = sym none ∙ ap is_no_memory f ∙ (neither (is_no_memory other) (nat_lt 17 (number_of other)) h).0 in cc)

-- and one that is refused for another reason is refused by the fault that is due
pub fault_due : (o : Option Fault) (fault : Fault) → IsFaultOf o fault → is_no_memory fault ≡ false → o ≡ Some fault
fault_due None fault f other = absurd (let x : true ≡ false = sym (ap is_no_memory f) ∙ other in cc)
fault_due (Some due) fault f other = ap Some (sym f)
