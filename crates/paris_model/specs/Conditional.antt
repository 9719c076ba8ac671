-- Instructions that store in selected processors, each by itself. D is the destination, A and B are sources, L and M are lengths, K a constant, X an axis, F a field of one bit.
use Rattle.std.specs.Prelude.{ℕ, List, [], ◌∷◌}
use Rattle.paris_names.specs.declared.keys.FlagName.{FlagName}
use Rattle.paris_names.specs.declared.keys.FlagName.TheVariants.{Context, Test, Carry, Overflow}
use Rattle.paris_names.specs.declared.keys.Key.{Key}
use Rattle.paris_names.specs.declared.keys.Key.TheVariants.{Field, Flag}
use Rattle.paris_geometry.specs.Geometry.{coordinate}
use Rattle.paris_model.specs.declared.operators.BinaryOperator.TheVariants.{UnsignedAddCarry}
use Rattle.paris_model.specs.declared.actions.Operand.{Operand}
use Rattle.paris_model.specs.declared.actions.Conditional.{Conditional}
use Rattle.paris_model.specs.declared.actions.Conditional.TheVariants.{Binary, Unary, MoveConstant, Resize, Compare, MyCoordinate, MyAddress, SetTest, ClearTest, LoadTest, StoreTest}
use Rattle.paris_model.specs.Store.{bit}
use Rattle.paris_model.specs.Elementwise.{binary_result, binary_flags, binary_carry, binary_overflow, unary_result, unary_flags, unary_overflow, resize_result, resize_overflow, compares}
use Rattle.paris_model.specs.Frame.{Frame, field_at, low_at, flag_at, put_selected}

-- the flags that it sets
abbrev pub conditional_flags : Conditional Operand ℕ → List FlagName
conditional_flags (Binary op D A B L) = binary_flags op
conditional_flags (Unary op D A L) = unary_flags op
conditional_flags (MoveConstant D K L) = []
conditional_flags (Resize sign D A L M) = Overflow ∷ []
conditional_flags (Compare op A B L) = Test ∷ []
conditional_flags (MyCoordinate D X L) = []
conditional_flags (MyAddress D L) = []
conditional_flags (SetTest s) = Test ∷ []
conditional_flags (ClearTest s) = Test ∷ []
conditional_flags (LoadTest F) = Test ∷ []
conditional_flags (StoreTest F) = []

-- the fields that it stores to
abbrev pub conditional_targets : Conditional Operand ℕ → List Operand
conditional_targets (Binary op D A B L) = D ∷ []
conditional_targets (Unary op D A L) = D ∷ []
conditional_targets (MoveConstant D K L) = D ∷ []
conditional_targets (Resize sign D A L M) = D ∷ []
conditional_targets (MyCoordinate D X L) = D ∷ []
conditional_targets (MyAddress D L) = D ∷ []
conditional_targets (StoreTest F) = F ∷ []
conditional_targets _ = []

-- the source fields
abbrev pub conditional_sources : Conditional Operand ℕ → List Operand
conditional_sources (Binary op D A B L) = A ∷ B ∷ []
conditional_sources (Unary op D A L) = A ∷ []
conditional_sources (Resize sign D A L M) = A ∷ []
conditional_sources (Compare op A B L) = A ∷ B ∷ []
conditional_sources (LoadTest F) = F ∷ []
conditional_sources _ = []

-- the flags that it reads beside those that it sets
abbrev pub conditional_source_flags : Conditional Operand ℕ → List FlagName
conditional_source_flags (Binary UnsignedAddCarry D A B L) = Context ∷ Carry ∷ []
conditional_source_flags (StoreTest F) = Context ∷ Test ∷ []
conditional_source_flags _ = Context ∷ []

-- the numbers of its destination k after it
abbrev pub conditional_field : Frame → Conditional Operand ℕ → Key → List ℕ
conditional_field m (Binary op D A B L) k = put_selected m k L
    (λ v. binary_result op L (low_at m A L v) (low_at m B L v) (flag_at m Carry v) (field_at m D v))
conditional_field m (Unary op D A L) k = put_selected m k L (λ v. unary_result op L (low_at m A L v))
conditional_field m (MoveConstant D K L) k = put_selected m k L (λ v. K)
conditional_field m (Resize sign D A L M) k = put_selected m k L (λ v. resize_result sign L M (low_at m A M v))
conditional_field m (MyCoordinate D X L) k = put_selected m k L (coordinate m.axes X)
conditional_field m (MyAddress D L) k = put_selected m k L (λ v. v)
conditional_field m (StoreTest F) k = put_selected m k 1 (flag_at m Test)
conditional_field m _ k = m.world k

-- the flag that it sets in processor v
abbrev pub conditional_flag : Frame → Conditional Operand ℕ → FlagName → ℕ → ℕ
conditional_flag m (Binary op D A B L) Carry v = bit (binary_carry op L (low_at m A L v) (low_at m B L v) (flag_at m Carry v))
conditional_flag m (Binary op D A B L) _ v = bit (binary_overflow op L (low_at m A L v) (low_at m B L v) (flag_at m Carry v))
conditional_flag m (Unary op D A L) _ v = bit (unary_overflow op L (low_at m A L v))
conditional_flag m (Resize sign D A L M) _ v = bit (resize_overflow sign L M (low_at m A M v))
conditional_flag m (Compare op A B L) _ v = bit (compares op L (low_at m A L v) (low_at m B L v))
conditional_flag m (SetTest s) _ v = 1
conditional_flag m (ClearTest s) _ v = 0
conditional_flag m (LoadTest F) _ v = field_at m F v
conditional_flag m _ flag v = flag_at m flag v

-- the numbers at a key that it writes
abbrev pub conditional_after : Frame → Conditional Operand ℕ → Key → List ℕ
conditional_after m i (Field f) = conditional_field m i (Field f)
conditional_after m i (Flag s flag) = put_selected m (Flag s flag) 1 (conditional_flag m i flag)
