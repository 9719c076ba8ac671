-- The actions that the plain program runs: those that fit, of fields that are no wider than profile 1 has them.
use Rattle.std.specs.Prelude.{◌≡◌, ℕ, Bool, true, false, ◌&&◌, nat_lt, nat_le, List}
use Rattle.std.specs.List.{list_all}
use Rattle.paris_model.specs.declared.actions.Operand.{Operand}
use Rattle.paris_model.specs.declared.actions.Action.{Action}
use Rattle.paris_model.specs.Instructions.{operands}
use Rattle.paris_model.specs.Fits.{has_bad_axis, has_bad_length, has_bad_operand, has_overlap}
use Rattle.paris_names.specs.declared.limits.TheConstants.{MAX_WIDTH_OF_ONE}

-- each operand is as wide as a field of profile 1 may be
abbrev pub are_narrow : Action Operand ℕ → Bool
are_narrow i = list_all (λ (o : Operand). nat_lt 0 o.width && nat_le o.width MAX_WIDTH_OF_ONE) (operands i)

pub record IsNarrow (axes : List ℕ) (i : Action Operand ℕ) : Type 0 where
  pub axis : has_bad_axis axes i ≡ false
  pub lengths : has_bad_length i ≡ false
  pub operands : has_bad_operand axes i ≡ false
  pub overlap : has_overlap i ≡ false
  pub widths : are_narrow i ≡ true
