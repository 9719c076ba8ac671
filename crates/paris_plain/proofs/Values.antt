-- The values that a line's instruction combines fit its length.
use Rattle.std.proofs.Common.{ℕ, ◌<◌, ◌^◌, List, [], ◌∷◌, map, arith}
use Rattle.std.specs.List.{All}
use Rattle.std.proofs.lemmas.List.Elements.{All-map}
use Rattle.std.proofs.lemmas.Nat.{pow_pos}
use Rattle.paris_geometry.specs.Geometry.{at_coordinate}
use Rattle.paris_model.specs.declared.actions.Operand.{Operand}
use Rattle.paris_model.specs.declared.actions.Line.{Line}
use Rattle.paris_model.specs.declared.actions.Line.TheVariants.{Scan, CopyScan, Spread, CopySpread, Reduce}
use Rattle.paris_model.specs.Store.{low}
use Rattle.paris_model.specs.Frame.{Frame, field_at}
use Rattle.paris_model.specs.Lines.{combined_values, line_length}

pub low_small : (L x : ℕ) → low L x < 2 ^ L
low_small L x = let some = pow_pos L in omega arith

low_fit : (L : ℕ) (f : ℕ → ℕ) (us : List ℕ) → All (λ x. x < 2 ^ L) (map (λ u. low L (f u)) us)
low_fit L f us = All-map (λ x. x < 2 ^ L) (λ u. low L (f u)) us (λ k d there. low_small L _)

pub values_fit : (m : Frame) (i : Line Operand) (v : ℕ) → All (λ x. x < 2 ^ line_length i) (combined_values m i v)
values_fit m (Scan op D A X L direction _ G) v = low_fit L _ _
values_fit m (CopyScan D A X L direction G) v = low_fit L _ _
values_fit m (Spread op D A X L) v = low_fit L _ _
values_fit m (CopySpread D A X L C) v = low_fit L (λ u. field_at m A u) (at_coordinate m.axes X v C ∷ [])
values_fit m (Reduce op D A X L C) v = low_fit L _ _
