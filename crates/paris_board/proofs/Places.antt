-- The places of names among what is declared.
use Rattle.std.proofs.Common.{◌≡◌, ℕ, List, [], ◌∷◌, map, not, position, refl, bytes_eq}
use Rattle.std.specs.List.{prefix_len}
use Rattle.std.specs.Map.{keys_of}
use Rattle.std.proofs.lemmas.Map.Entries.{length-keys_of}
use Rattle.std.proofs.lemmas.List.{length-map}
use Rattle.paris_names.specs.contracts.names.NamePartialEq.TheImpl.{ghosts}
use Rattle.indexmap.specs.IndexMap.{keys}
use Rattle.paris_board.specs.Board.{DeclaredSet, DeclaredField, set_named, field_named}
use Rattle.paris_board.specs.BoardFields.{declared_set, declared_field, board_of}
use Rattle.paris_board.specs.declared.declarations.Board.TheInside.{Inside}
use Rattle.paris_board.proofs.NameTests.{name_eq}

module _ {V D : Type 0} (declared : List ℕ × V → D) (name_of : D → List ℕ) (named : (e : List ℕ × V) → name_of (declared e) ≡ e.0) (name : List ℕ) where
  others_before : (entries : List (List ℕ × V)) → prefix_len (λ (k : List ℕ). not ((ghosts).eq name k)) (keys_of entries) ≡ prefix_len (λ d. not (bytes_eq (name_of d) name)) (map declared entries)
  others_before [] = refl
  others_before (e ∷ es) =
      rw (name_eq name e.0, named e, others_before es) refl

  -- a map finds a name at its place
  pub place_by_name : (entries : List (List ℕ × V)) → position ((ghosts).eq name) (keys_of entries) ≡ position (λ d. bytes_eq (name_of d) name) (map declared entries)
  place_by_name entries = rw (others_before entries, length-keys_of entries, length-map) refl

pub set_place : (b : Inside) (name : List ℕ) → position ((ghosts).eq name) (keys b.sets) ≡ set_named (board_of b) name
set_place b name = place_by_name declared_set (λ (s : DeclaredSet). s.name) (λ e. refl) name b.sets.entries

pub field_place : (b : Inside) (name : List ℕ) → position ((ghosts).eq name) (keys b.fields) ≡ field_named (board_of b) name
field_place b name = place_by_name declared_field (λ (f : DeclaredField). f.name) (λ e. refl) name b.fields.entries
