-- Lines of processors that follow one another.
use Rattle.std.specs.Prelude.{ℕ, ◌≡◌, ◌<◌, ◌*◌, ◌/◌, ◌%◌, Bool, List, slice_index}
use Rattle.std.specs.List.{range_with_len}
use Rattle.paris_geometry.specs.Geometry.{axis_length, processor_count, stride}
use Rattle.paris_model.specs.Lines.{values_where}
use Rattle.paris_model.specs.Store.{everywhere}
use Rattle.paris_field.specs.Fields.{FieldNumbers}
use Rattle.paris_field.specs.Numbers.{has}

-- the processors of each line along axis a follow one another, and fill whole words
abbrev pub IsAdjacent : List ℕ → ℕ → Type 0
IsAdjacent axes a = (stride axes a ≡ 1) × (axis_length axes a % 64 ≡ 0) × (0 < axis_length axes a) × (processor_count axes % axis_length axes a ≡ 0)

-- the selected values of line i, where each line has n processors
abbrev pub values_of_line : ℕ → List Bool → (ℕ → ℕ) → ℕ → List ℕ
values_of_line n selected value i = values_where (has selected) value (range_with_len (i * n) n)

-- in each of the processors, which make lines of n, the number of its line
abbrev pub lines_field : ℕ → ℕ → ℕ → List ℕ → FieldNumbers
lines_field L n processors numbers = record { width = L; numbers = everywhere processors (λ v. slice_index numbers (v / n)) }
