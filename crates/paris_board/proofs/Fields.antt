-- What the maps hold at a place, and what is known of each field.
use Rattle.std.proofs.Common.{◌≡◌, ℕ, zero, suc, ◌<◌, ◌≤◌, List, [], ◌∷◌, length, map, get_or, Some, refl, sym, ap, ◌∙◌, arith}
use Rattle.std.specs.Prelude.{slice_get}
use Rattle.std.specs.Map.{values_of}
use Rattle.std.proofs.lemmas.List.{length-map}
use Rattle.std.proofs.lemmas.Map.Entries.{length-values_of}
use Rattle.std.proofs.lemmas.Option.{slice_get_within}
use Rattle.indexmap.specs.IndexMap.{values}
use Rattle.paris_board.specs.Board.{Board, DeclaredSet, DeclaredField, AreFields, axes_of, declaration_at}
use Rattle.paris_names.specs.Profiles.{max_width}
use Rattle.paris_board.specs.BoardFields.{declared_set, declared_field, board_of, IsSound}
use Rattle.paris_board.specs.declared.declarations.FieldDeclaration.{FieldDeclaration}
use Rattle.paris_board.specs.declared.declarations.Board.TheInside.{Inside}

some_same : {X : Type 0} (x y : X) → Some x ≡ Some y → x ≡ y
some_same x y h = cc

-- what is declared at a place shows the value there
declared_at : {V D X : Type 0} (declared : List ℕ × V → D) (read : D → X) (shown : V → X) → ((e : List ℕ × V) → read (declared e) ≡ shown e.1)
    → (d : D) (entries : List (List ℕ × V)) (i : ℕ) (v : V) → slice_get (values_of entries) i ≡ Some v → read (get_or (map declared entries) i d) ≡ shown v
declared_at declared read shown shows d [] i v h = cc
declared_at declared read shown shows d (e ∷ es) zero v h = shows e ∙ ap shown (some_same e.1 v h)
declared_at declared read shown shows d (e ∷ es) (suc i) v h = declared_at declared read shown shows d es i v h

pub axes_at : (b : Inside) (s : ℕ) (axes : List ℕ) → slice_get (values b.sets) s ≡ Some axes → axes ≡ axes_of (board_of b) s
axes_at b s axes h = sym (declared_at declared_set (λ (s : DeclaredSet). s.axes) (λ (axes : List ℕ). axes) (λ e. refl) (record { name = []; axes = [] }) b.sets.entries s axes h)

-- a field is of one of the sets, and from 1 bit to the widest wide
pub record IsFieldOf (widest sets set_no width : ℕ) : Type 0 where
  pub declared : set_no < sets
  pub positive : 0 < width
  pub small : width ≤ widest

field_of : (widest sets : ℕ) (fields : List DeclaredField) (i : ℕ) (d : DeclaredField) → AreFields widest sets fields → i < length fields → IsFieldOf widest sets (get_or fields i d).set_no (get_or fields i d).width
field_of widest sets [] i d are within = absurd (omega arith)
field_of widest sets (f ∷ fs) zero d are within = record { declared = are.0; positive = are.1; small = are.2 }
field_of widest sets (f ∷ fs) (suc i) d are within = field_of widest sets fs i d are.3 (omega arith)

-- what is known of the field at a place, with its set and its width
pub record IsFieldAt (b : Board) (f set_no width : ℕ) : Type 0 where
  pub set_is : set_no ≡ (declaration_at b f).set_no
  pub width_is : width ≡ (declaration_at b f).width
  pub of_board : IsFieldOf (max_width b.profile) (length b.sets) set_no width

field_known : (b : Inside) (f : ℕ) (v : FieldDeclaration) → IsSound b → slice_get (values b.fields) f ≡ Some v → IsFieldAt (board_of b) f v.set v.width
field_known b f v sound h =
    let none : DeclaredField = record { name = []; set_no = 0; width = 0 } in
    let set_is : v.set ≡ (declaration_at (board_of b) f).set_no = sym (declared_at declared_field (λ (f : DeclaredField). f.set_no) (λ (v : FieldDeclaration). v.set) (λ e. refl) none b.fields.entries f v h) in
    let width_is : v.width ≡ (declaration_at (board_of b) f).width = sym (declared_at declared_field (λ (f : DeclaredField). f.width) (λ (v : FieldDeclaration). v.width) (λ e. refl) none b.fields.entries f v h) in
    let here : f < length (values_of b.fields.entries) = slice_get_within (values_of b.fields.entries) f v h in
    let within : f < length (board_of b).fields = omega (arith, length-values_of b.fields.entries, length-map b.fields.entries declared_field) in
    record { set_is = set_is; width_is = width_is; of_board = rw (set_is, width_is) (field_of (max_width b.profile) (length (board_of b).sets) (board_of b).fields f none sound.board within) }

pub field_at_place : (b : Inside) (board : Board) (f g : ℕ) (v : FieldDeclaration) → board_of b ≡ board → f ≡ g → IsSound b → slice_get (values b.fields) f ≡ Some v → IsFieldAt board g v.set v.width
field_at_place b board f g v shown same sound h = rw (← shown, ← same) (field_known b f v sound h)
