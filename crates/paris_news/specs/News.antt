-- What comes to each processor from its neighbour along an axis.
use Rattle.std.specs.Prelude.{ℕ, Bool, false, List, slice_index_or}
use Rattle.paris_geometry.specs.declared.direction.Direction.{Direction}
use Rattle.paris_geometry.specs.Geometry.{neighbour, processor_count}
use Rattle.paris_model.specs.News.{news_sender}
use Rattle.paris_model.specs.Store.{everywhere}
use Rattle.paris_field.specs.Fields.{FieldNumbers, operand}
use Rattle.paris_field.specs.Numbers.{bits_everywhere}

-- in each processor the low L bits at its neighbour in the direction
abbrev pub moved_field : List ℕ → ℕ → Direction → ℕ → FieldNumbers → FieldNumbers
moved_field axes a direction L x = record { width = L; numbers = everywhere (processor_count axes) (λ v. operand L x (neighbour axes a direction v)) }

-- in each processor the bit at its neighbour in the direction
abbrev pub moved_plane : List ℕ → ℕ → Direction → List Bool → List Bool
moved_plane axes a direction x = bits_everywhere (processor_count axes) (λ v. slice_index_or x (neighbour axes a direction v) false)

-- in each processor the low L bits at the one that sends to it in the direction
abbrev pub sent_field : List ℕ → ℕ → Direction → ℕ → FieldNumbers → FieldNumbers
sent_field axes a direction L x = record { width = L; numbers = everywhere (processor_count axes) (λ r. operand L x (news_sender axes a direction r)) }

-- in each processor the bit at the one that sends to it in the direction
abbrev pub sent_plane : List ℕ → ℕ → Direction → List Bool → List Bool
sent_plane axes a direction x = bits_everywhere (processor_count axes) (λ r. slice_index_or x (news_sender axes a direction r) false)
