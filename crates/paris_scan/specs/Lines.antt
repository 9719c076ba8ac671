-- What scans, spreads and reduces give in each processor, where values and bits lie in fields and planes.
use Rattle.std.specs.Prelude.{ℕ, ◌^◌, Bool, true, false, ◌==◌, ◌&&◌, nat_le, List, sum, slice_index}
use Rattle.paris_geometry.specs.declared.direction.Direction.{Direction}
use Rattle.paris_geometry.specs.Geometry.{at_coordinate, coordinate, processor_count}
use Rattle.paris_model.specs.declared.operators.Combiner.{Combiner}
use Rattle.paris_model.specs.declared.operators.Combiner.TheVariants.{Sum}
use Rattle.paris_model.specs.declared.operators.Inclusion.{Inclusion}
use Rattle.paris_model.specs.Combine.{combined, unit}
use Rattle.paris_model.specs.Lines.{line_values, scan_values}
use Rattle.paris_model.specs.Store.{everywhere}
use Rattle.paris_field.specs.Fields.{FieldNumbers, operand}
use Rattle.paris_field.specs.Numbers.{bits_everywhere, has}

-- the values that a scan combines in processor v
abbrev pub scanned : List ℕ → ℕ → Direction → Inclusion → List Bool → List Bool → ℕ → FieldNumbers → ℕ → List ℕ
scanned axes a direction inclusion segments selected L x v = scan_values axes a direction inclusion (has segments) (has selected) (operand L x) v

-- the values that a spread combines in processor v
abbrev pub of_lines : List ℕ → ℕ → List Bool → ℕ → FieldNumbers → ℕ → List ℕ
of_lines axes a selected L x v = line_values axes a (has selected) (operand L x) v

-- in each of n processors what its values combine to
abbrev pub combined_field : Combiner → ℕ → ℕ → (ℕ → List ℕ) → FieldNumbers
combined_field op L n values = record { width = L; numbers = everywhere n (λ v. combined op L (unit op L) (values v)) }

-- in each of n processors the first of its values
abbrev pub first_field : ℕ → ℕ → (ℕ → List ℕ) → FieldNumbers
first_field L n values = record { width = L; numbers = everywhere n (λ v. slice_index (values v) 0) }

-- where the exact sum needs more than L bits
abbrev pub sums_overflow : ℕ → ℕ → (ℕ → List ℕ) → List Bool
sums_overflow L n values = bits_everywhere n (λ v. nat_le (2 ^ L) (sum (values v)))

-- whether the operator is the sum
abbrev pub is_sum : Combiner → Bool
is_sum Sum = true
is_sum _ = false

-- where a reduce stores
abbrev pub stores_at : List ℕ → ℕ → ℕ → List Bool → List Bool
stores_at axes a place selected = bits_everywhere (processor_count axes) (λ v. has selected v && (coordinate axes a v == place))

-- in each processor the low L bits of the processor of its line with that coordinate
abbrev pub placed_field : List ℕ → ℕ → ℕ → ℕ → FieldNumbers → FieldNumbers
placed_field axes a place L x = record { width = L; numbers = everywhere (processor_count axes) (λ v. operand L x (at_coordinate axes a v place)) }
