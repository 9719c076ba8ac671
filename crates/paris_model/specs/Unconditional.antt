-- Instructions that store in every processor. D is the destination, A a source, L a length, F a field of one bit.
use Rattle.std.specs.Prelude.{ℕ, Bool, true, ◌-◌, ◌==◌, List, [], ◌∷◌, bit_and, bit_or}
use Rattle.paris_names.specs.declared.keys.FlagName.{FlagName}
use Rattle.paris_names.specs.declared.keys.FlagName.TheVariants.{Context, Test}
use Rattle.paris_names.specs.declared.keys.Key.{Key}
use Rattle.paris_model.specs.declared.actions.Operand.{Operand}
use Rattle.paris_model.specs.declared.actions.Unconditional.{Unconditional}
use Rattle.paris_model.specs.declared.actions.Unconditional.TheVariants.{MoveAlways, SetContext, ClearContext, InvertContext, LoadContext, AndContext, OrContext, AndContextWithTest, StoreContext}
use Rattle.paris_model.specs.Frame.{Frame, field_at, low_at, flag_at, put_where}

-- the fields that it stores to
abbrev pub unconditional_targets : Unconditional Operand ℕ → List Operand
unconditional_targets (MoveAlways D A L) = D ∷ []
unconditional_targets (StoreContext F) = F ∷ []
unconditional_targets _ = []

-- the flags that it sets: all but the two that store to a field set the context
abbrev pub unconditional_flags : Unconditional Operand ℕ → List FlagName
unconditional_flags (MoveAlways D A L) = []
unconditional_flags (StoreContext F) = []
unconditional_flags _ = Context ∷ []

-- the source fields
abbrev pub unconditional_sources : Unconditional Operand ℕ → List Operand
unconditional_sources (MoveAlways D A L) = A ∷ []
unconditional_sources (LoadContext F) = F ∷ []
unconditional_sources (AndContext F) = F ∷ []
unconditional_sources (OrContext F) = F ∷ []
unconditional_sources _ = []

-- the flags that it reads
abbrev pub unconditional_source_flags : Unconditional Operand ℕ → List FlagName
unconditional_source_flags (InvertContext s) = Context ∷ []
unconditional_source_flags (AndContext F) = Context ∷ []
unconditional_source_flags (OrContext F) = Context ∷ []
unconditional_source_flags (AndContextWithTest s) = Context ∷ Test ∷ []
unconditional_source_flags (StoreContext F) = Context ∷ []
unconditional_source_flags _ = []

-- whether it stores all bits of what it writes, so that it needn't read them
abbrev pub is_overwrite : Unconditional Operand ℕ → Bool
is_overwrite (MoveAlways D A L) = L == D.width
is_overwrite _ = true

-- how many low bits it stores
abbrev pub unconditional_length : Unconditional Operand ℕ → ℕ
unconditional_length (MoveAlways D A L) = L
unconditional_length _ = 1

-- the number that it stores in processor v
abbrev pub unconditional_value : Frame → Unconditional Operand ℕ → ℕ → ℕ
unconditional_value m (MoveAlways D A L) v = low_at m A L v
unconditional_value m (SetContext s) v = 1
unconditional_value m (ClearContext s) v = 0
unconditional_value m (InvertContext s) v = 1 - flag_at m Context v
unconditional_value m (LoadContext F) v = field_at m F v
unconditional_value m (AndContext F) v = bit_and (flag_at m Context v) (field_at m F v)
unconditional_value m (OrContext F) v = bit_or (flag_at m Context v) (field_at m F v)
unconditional_value m (AndContextWithTest s) v = bit_and (flag_at m Context v) (flag_at m Test v)
unconditional_value m (StoreContext F) v = flag_at m Context v

-- the numbers at the key that it writes
abbrev pub unconditional_after : Frame → Unconditional Operand ℕ → Key → List ℕ
unconditional_after m i k = put_where m (λ v. true) k (unconditional_length i) (unconditional_value m i)
