-- A board that grows by a set or a field.
use Rattle.std.proofs.Common.{◌≡◌, ℕ, ◌+◌, ◌<◌, ◌≤◌, ◌==◌, ◌||◌, Bool, true, false, List, [], ◌∷◌, ◌++◌, length, map, nat_lt, nat_le, Option, Some, None, Ok, ok_or, is_some, is_none, if◌then◌else◌, refl, sym, ap, ◌∙◌, subst, arith, length-append}
use Rattle.std.proofs.lemmas.Bool.{or_parts, leb-false}
use Rattle.std.proofs.lemmas.Bool.Decides.{nat_tests}
use Rattle.std.proofs.lemmas.List.{length-map, map-append}
use Rattle.std.specs.declared.hash.FoldHasher.{FoldHasher}
use Rattle.std.specs.declared.hash.BuildHasherDefault.{BuildHasherDefault}
use Rattle.indexmap.specs.IndexMap.{IndexMap, insert_entry}
use Rattle.indexmap.proofs.MapLemmas.{Missing-position, insert_entry-absent}
use Rattle.paris_names.specs.declared.faults.Fault.TheVariants.{SetsFull, NameTaken, NoSet, FieldsFull, BadWidth}
use Rattle.paris_names.specs.contracts.names.NamePartialEq.TheImpl.{ghosts}
use Rattle.paris_board.specs.Board.{Board, DeclaredSet, DeclaredField, AreFields, set_named, field_named, is_taken, set_fault, field_fault, with_set, with_field}
use Rattle.paris_names.specs.Profiles.{max_width}
use Rattle.paris_board.specs.BoardFields.{declared_set, declared_field, board_of, IsSound}
use Rattle.paris_board.specs.declared.declarations.FieldDeclaration.{FieldDeclaration}
use Rattle.paris_board.specs.declared.declarations.Board.TheInside.{Inside}
use Rattle.paris_board.proofs.Places.{set_place, field_place}

-- the maps of a board
abbrev pub Sets : Type 0
Sets = IndexMap (List ℕ) (List ℕ) (BuildHasherDefault FoldHasher)

abbrev pub Fields : Type 0
Fields = IndexMap (List ℕ) FieldDeclaration (BuildHasherDefault FoldHasher)

not_some : {X : Type 0} (o : Option X) → is_some o ≡ false → o ≡ None
not_some None h = refl
not_some (Some x) h = cc

-- a name that may be declared is new
free_of : (b : Board) (name : List ℕ) → is_taken b name ≡ false → (set_named b name ≡ None) × (field_named b name ≡ None)
free_of b name h =
    let parts = or_parts (is_some (set_named b name)) (is_some (field_named b name)) h in
    (not_some (set_named b name) parts.0, not_some (field_named b name) parts.1)

set_tests : (taken full : Bool) → (if taken then Some NameTaken else if full then Some SetsFull else None) ≡ None → (taken ≡ false) × (full ≡ false)
set_tests true full h = cc
set_tests false true h = cc
set_tests false false h = (refl, refl)

pub record MayAddSet (b : Board) (name : List ℕ) : Type 0 where
  pub absent : set_named b name ≡ None
  pub few : length b.sets < 8

pub may_add_set : (b : Board) (name : List ℕ) → set_fault b name ≡ None → MayAddSet b name
may_add_set b name h =
    let tests = set_tests (is_taken b name) (nat_le 8 (length b.sets)) h in
    record { absent = (free_of b name tests.0).0; few = leb-false 8 (length b.sets) tests.1 }

field_tests : (no_set taken full bad : Bool) → (if no_set then Some NoSet else if taken then Some NameTaken else if full then Some FieldsFull else if bad then Some BadWidth else None) ≡ None
    → (taken ≡ false) × (full ≡ false) × (bad ≡ false)
field_tests true taken full bad h = cc
field_tests false true full bad h = cc
field_tests false false true bad h = cc
field_tests false false false true h = cc
field_tests false false false false h = (refl, refl, refl)

pub record MayAddField (b : Board) (name : List ℕ) (width : ℕ) : Type 0 where
  pub absent : field_named b name ≡ None
  pub few : length b.fields < 64
  pub positive : 0 < width
  pub small : width ≤ max_width b.profile

pub may_add_field : (b : Board) (name set : List ℕ) (width : ℕ) → field_fault b name set width ≡ None → MayAddField b name width
may_add_field b name set width h =
    let tests = field_tests (is_none (set_named b set)) (is_taken b name) (nat_le 64 (length b.fields)) ((width == 0) || nat_lt (max_width b.profile) width) h in
    let widths = or_parts (width == 0) (nat_lt (max_width b.profile) width) tests.2 in
    let positive : 0 < width = (let nonzero = widths.0 in grind (arith, nat_tests)) in
    record { absent = (free_of b name tests.0).1; few = leb-false 64 (length b.fields) tests.1; positive = positive; small = (let h : nat_lt (max_width b.profile) width ≡ false = widths.1 in grind (arith, nat_tests)) }

-- the fields stay sound as sets are declared, and with one more that is sound
AreFields-weaker : (widest m n : ℕ) (fields : List DeclaredField) → m ≤ n → AreFields widest m fields → AreFields widest n fields
AreFields-weaker widest m n [] le are = tt
AreFields-weaker widest m n (f ∷ fs) le are = (omega (arith, are.0), are.1, are.2, AreFields-weaker widest m n fs le are.3)

AreFields-push : (widest sets : ℕ) (fields : List DeclaredField) (f : DeclaredField) → AreFields widest sets fields → f.set_no < sets → 0 < f.width → f.width ≤ widest → AreFields widest sets (fields ++ f ∷ [])
AreFields-push widest sets [] f are declared positive small = (declared, positive, small, tt)
AreFields-push widest sets (g ∷ gs) f are declared positive small = (are.0, are.1, are.2, AreFields-push widest sets gs f are.3 declared positive small)

-- the map with a new name holds it last
sets_more : (b : Inside) (name axes : List ℕ) (m : Sets) → set_named (board_of b) name ≡ None → m.entries ≡ insert_entry (ghosts).eq b.sets.entries name axes → m.entries ≡ b.sets.entries ++ (name, axes) ∷ []
sets_more b name axes m absent grown =
    grown ∙ insert_entry-absent (ghosts).eq name axes b.sets.entries (Missing-position ((ghosts).eq name) b.sets.entries (set_place b name ∙ absent)).absent

fields_more : (b : Inside) (name : List ℕ) (v : FieldDeclaration) (m : Fields) → field_named (board_of b) name ≡ None → m.entries ≡ insert_entry (ghosts).eq b.fields.entries name v → m.entries ≡ b.fields.entries ++ (name, v) ∷ []
fields_more b name v m absent grown =
    grown ∙ insert_entry-absent (ghosts).eq name v b.fields.entries (Missing-position ((ghosts).eq name) b.fields.entries (field_place b name ∙ absent)).absent

-- the board with one more set
pub record GrownBySet (b : Inside) (name axes : List ℕ) (m : Sets) : Type 0 where
  pub sound : IsSound (record { profile = b.profile; sets = m; fields = b.fields })
  pub shown : board_of (record { profile = b.profile; sets = m; fields = b.fields }) ≡ with_set (board_of b) name axes

pub grown_by_set : (b : Inside) (name axes : List ℕ) (m : Sets) → IsSound b → set_fault (board_of b) name ≡ None → m.entries ≡ insert_entry (ghosts).eq b.sets.entries name axes → GrownBySet b name axes m
grown_by_set b name axes m sound free grown =
    let may = may_add_set (board_of b) name free in
    let more : m.entries ≡ b.sets.entries ++ (name, axes) ∷ [] = sets_more b name axes m may.absent grown in
    let listed : map declared_set m.entries ≡ (board_of b).sets ++ declared_set (name, axes) ∷ [] = ap (map declared_set) more ∙ map-append declared_set b.sets.entries ((name, axes) ∷ []) in
    let counted : length m.entries ≡ length b.sets.entries + 1 = ap length more ∙ length-append b.sets.entries ((name, axes) ∷ []) in
    let before : length (board_of b).sets ≡ length b.sets.entries = length-map b.sets.entries declared_set in
    let after : length (map declared_set m.entries) ≡ length m.entries = length-map m.entries declared_set in
    let few : length (board_of b).sets < 8 = may.few in
    let le : length (board_of b).sets ≤ length (map declared_set m.entries) = omega arith in
    let P : List DeclaredSet → Board = λ sets. record { profile = b.profile; sets = sets; fields = (board_of b).fields } in
    record {
      sound = record { few_sets = omega arith; few_fields = sound.few_fields; board = AreFields-weaker (max_width b.profile) (length (board_of b).sets) (length (map declared_set m.entries)) (board_of b).fields le sound.board };
      shown = ap P listed;
    }

pub record GrownByField (b : Inside) (name : List ℕ) (v : FieldDeclaration) (m : Fields) : Type 0 where
  pub sound : IsSound (record { profile = b.profile; sets = b.sets; fields = m })
  pub shown : board_of (record { profile = b.profile; sets = b.sets; fields = m }) ≡ with_field (board_of b) name v.set v.width

pub grown_by_field : (b : Inside) (name set : List ℕ) (v : FieldDeclaration) (m : Fields) → IsSound b → field_fault (board_of b) name set v.width ≡ None → v.set < length (board_of b).sets
    → m.entries ≡ insert_entry (ghosts).eq b.fields.entries name v → GrownByField b name v m
grown_by_field b name set v m sound free declared grown =
    let may = may_add_field (board_of b) name set v.width free in
    let more : m.entries ≡ b.fields.entries ++ (name, v) ∷ [] = fields_more b name v m may.absent grown in
    let listed : map declared_field m.entries ≡ (board_of b).fields ++ declared_field (name, v) ∷ [] = ap (map declared_field) more ∙ map-append declared_field b.fields.entries ((name, v) ∷ []) in
    let counted : length m.entries ≡ length b.fields.entries + 1 = ap length more ∙ length-append b.fields.entries ((name, v) ∷ []) in
    let before : length (board_of b).fields ≡ length b.fields.entries = length-map b.fields.entries declared_field in
    let few : length (board_of b).fields < 64 = may.few in
    let P : List DeclaredField → Board = λ fields. record { profile = b.profile; sets = (board_of b).sets; fields = fields } in
    let Q : List DeclaredField → Type 0 = AreFields (max_width b.profile) (length (board_of b).sets) in
    record {
      sound = record {
        few_sets = sound.few_sets;
        few_fields = omega arith;
        board = subst Q (sym listed) (AreFields-push (max_width b.profile) (length (board_of b).sets) (board_of b).fields (declared_field (name, v)) sound.board declared may.positive may.small);
      };
      shown = ap P listed;
    }

-- the value behind an answer `Ok`
pub some_of_ok : {X E : Type 0} (o : Option X) (e : E) (x : X) → Ok x ≡ ok_or o e → o ≡ Some x
some_of_ok None e x h = cc
some_of_ok (Some y) e x h = cc
