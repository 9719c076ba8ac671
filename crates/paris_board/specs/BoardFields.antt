-- What the maps of a board hold.
use Rattle.std.specs.Prelude.{ℕ, ◌≤◌, List, length, map}
use Rattle.paris_board.specs.Board.{Board, DeclaredSet, DeclaredField, IsBoard}
use Rattle.paris_board.specs.declared.declarations.FieldDeclaration.{FieldDeclaration}
use Rattle.paris_board.specs.declared.declarations.Board.TheInside.{Inside}
use Rattle.paris_names.specs.declared.limits.TheConstants.{MAX_FIELDS, MAX_SETS}

abbrev pub declared_set : List ℕ × List ℕ → DeclaredSet
declared_set e = record { name = e.0; axes = e.1 }

abbrev pub declared_field : List ℕ × FieldDeclaration → DeclaredField
declared_field e = record { name = e.0; set_no = e.1.set; width = e.1.width }

abbrev pub board_of : Inside → Board
board_of b = record { profile = b.profile; sets = map declared_set b.sets.entries; fields = map declared_field b.fields.entries }

-- the limits hold, and each field is of a declared set
pub record IsSound (b : Inside) : Type 0 where
  pub few_sets : length b.sets.entries ≤ MAX_SETS
  pub few_fields : length b.fields.entries ≤ MAX_FIELDS
  pub board : IsBoard (board_of b)
