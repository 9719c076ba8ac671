-- Scans, spreads and reduces along an axis. D is the destination, A the source, X the axis, L a length, G the segment field, C a coordinate.
use Rattle.std.specs.Prelude.{ℕ, ◌^◌, Bool, true, false, not, ◌==◌, ◌&&◌, ◌||◌, nat_le, List, [], ◌∷◌, map, filter, sum, slice_index, Option, Some, None, if◌then◌else◌}
use Rattle.std.specs.List.{list_any}
use Rattle.paris_names.specs.declared.keys.FlagName.{FlagName}
use Rattle.paris_names.specs.declared.keys.FlagName.TheVariants.{Overflow}
use Rattle.paris_names.specs.declared.keys.Key.{Key}
use Rattle.paris_names.specs.declared.keys.Key.TheVariants.{Field, Flag}
use Rattle.paris_geometry.specs.declared.direction.Direction.{Direction}
use Rattle.paris_geometry.specs.Geometry.{line, line_until, at_coordinate, coordinate}
use Rattle.paris_model.specs.declared.operators.Combiner.{Combiner}
use Rattle.paris_model.specs.declared.operators.Combiner.TheVariants.{Sum}
use Rattle.paris_model.specs.declared.operators.Inclusion.{Inclusion}
use Rattle.paris_model.specs.declared.operators.Inclusion.TheVariants.{Inclusive, Exclusive}
use Rattle.paris_model.specs.declared.actions.Operand.{Operand}
use Rattle.paris_model.specs.declared.actions.Line.{Line}
use Rattle.paris_model.specs.declared.actions.Line.TheVariants.{Scan, CopyScan, Spread, CopySpread, Reduce}
use Rattle.paris_model.specs.Store.{bit}
use Rattle.paris_model.specs.Combine.{combined, unit}
use Rattle.paris_model.specs.Frame.{Frame, field_at, low_at, is_selected, put_where}

-- the part of a list from the last element on that passes the test, or the whole list where none does
abbrev pub from_last : (ℕ → Bool) → List ℕ → List ℕ
from_last begins [] = []
from_last begins (u ∷ us) = if list_any begins us then from_last begins us else u ∷ us

abbrev pub is_inclusive : Inclusion → Bool
is_inclusive Inclusive = true
is_inclusive Exclusive = false

-- the values of the processors of a list that pass the test
abbrev pub values_where : (ℕ → Bool) → (ℕ → ℕ) → List ℕ → List ℕ
values_where selected value us = map value (filter selected us)

-- the values that a scan combines at v: those of the selected processors from the start of v's segment to v, where v itself counts if the scan is inclusive
abbrev pub scan_values : List ℕ → ℕ → Direction → Inclusion → (ℕ → Bool) → (ℕ → Bool) → (ℕ → ℕ) → ℕ → List ℕ
scan_values axes X direction inclusion begins selected value v =
    values_where (λ u. selected u && (is_inclusive inclusion || not (u == v))) value
    (from_last begins (line_until axes X direction v))

-- the values of the selected processors of v's line
abbrev pub line_values : List ℕ → ℕ → (ℕ → Bool) → (ℕ → ℕ) → ℕ → List ℕ
line_values axes X selected value v = values_where selected value (line axes X v)

-- whether a segment begins at processor u
abbrev pub begins_segment : Frame → Option Operand → ℕ → Bool
begins_segment m None u = false
begins_segment m (Some G) u = field_at m G u == 1

-- the values that are combined at v
abbrev pub combined_values : Frame → Line Operand → ℕ → List ℕ
combined_values m (Scan op D A X L direction inclusion G) v = scan_values m.axes X direction inclusion (begins_segment m G) (is_selected m) (low_at m A L) v
combined_values m (CopyScan D A X L direction G) v = scan_values m.axes X direction Inclusive (begins_segment m G) (is_selected m) (low_at m A L) v
combined_values m (Spread op D A X L) v = line_values m.axes X (is_selected m) (low_at m A L) v
combined_values m (CopySpread D A X L C) v = low_at m A L (at_coordinate m.axes X v C) ∷ []
combined_values m (Reduce op D A X L C) v = line_values m.axes X (is_selected m) (low_at m A L) v

-- what values combine to; a copy is the first of them
abbrev pub result_of : Line Operand → List ℕ → ℕ
result_of (Scan op D A X L direction _ G) values = combined op L (unit op L) values
result_of (CopyScan D A X L direction G) values = slice_index values 0
result_of (Spread op D A X L) values = combined op L (unit op L) values
result_of (CopySpread D A X L C) values = slice_index values 0
result_of (Reduce op D A X L C) values = combined op L (unit op L) values

-- the result at v
abbrev pub line_result : Frame → Line Operand → ℕ → ℕ
line_result m i v = result_of i (combined_values m i v)

-- whether v stores
abbrev pub stores_on_line : Frame → Line Operand → ℕ → Bool
stores_on_line m (Reduce op D A X L C) v = is_selected m v && (coordinate m.axes X v == C)
stores_on_line m _ v = is_selected m v

abbrev pub line_length : Line Operand → ℕ
line_length (Scan op D A X L direction _ G) = L
line_length (CopyScan D A X L direction G) = L
line_length (Spread op D A X L) = L
line_length (CopySpread D A X L C) = L
line_length (Reduce op D A X L C) = L

abbrev pub line_target : Line Operand → Operand
line_target (Scan op D A X L direction _ G) = D
line_target (CopyScan D A X L direction G) = D
line_target (Spread op D A X L) = D
line_target (CopySpread D A X L C) = D
line_target (Reduce op D A X L C) = D

abbrev pub segment_sources : Option Operand → List Operand
segment_sources None = []
segment_sources (Some G) = G ∷ []

abbrev pub line_sources : Line Operand → List Operand
line_sources (Scan op D A X L direction _ G) = A ∷ segment_sources G
line_sources (CopyScan D A X L direction G) = A ∷ segment_sources G
line_sources (Spread op D A X L) = A ∷ []
line_sources (CopySpread D A X L C) = A ∷ []
line_sources (Reduce op D A X L C) = A ∷ []

-- sums set overflow
abbrev pub combiner_flags : Combiner → List FlagName
combiner_flags Sum = Overflow ∷ []
combiner_flags _ = []

abbrev pub line_flags : Line Operand → List FlagName
line_flags (Scan op D A X L direction _ G) = combiner_flags op
line_flags (CopyScan D A X L direction G) = []
line_flags (Spread op D A X L) = combiner_flags op
line_flags (CopySpread D A X L C) = []
line_flags (Reduce op D A X L C) = combiner_flags op

-- whether the exact sum at v needs more than the instruction's bits
abbrev pub sum_overflows : Frame → Line Operand → ℕ → Bool
sum_overflows m i v = nat_le (2 ^ line_length i) (sum (combined_values m i v))

-- the numbers at a key that it writes
abbrev pub line_after : Frame → Line Operand → Key → List ℕ
line_after m i (Field f) = put_where m (stores_on_line m i) (Field f) (line_length i) (line_result m i)
line_after m i (Flag s flag) = put_where m (stores_on_line m i) (Flag s flag) 1 (λ v. bit (sum_overflows m i v))
