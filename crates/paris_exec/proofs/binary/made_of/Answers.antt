use Rattle.std.proofs.Common.{◌∙◌, ap, sym, ℕ, slice_index}
use Rattle.paris_names.specs.declared.keys.FlagName.TheVariants.{Carry}
use Rattle.paris_names.specs.declared.keys.Key.TheVariants.{Flag}
use Rattle.paris_model.specs.declared.operators.BinaryOperator.{BinaryOperator}
use Rattle.paris_model.specs.declared.operators.BinaryOperator.TheVariants.{UnsignedAddCarry}
use Rattle.paris_model.specs.Elementwise.{binary_flags}
use Rattle.paris_alu.specs.Alu.{binary_field, carry_plane, overflow_plane}
use Rattle.paris_exec.specs.Made.{is_quotient}
use Rattle.paris_exec.specs.Tasks.{seen_at}
use Rattle.paris_exec.proofs.Puts.{carry_seen}
use Rattle.paris_exec.proofs.binary.made_of.Goals as goal

pub returns-in_ok-add-in-SignedAdd : goal.returns-in_ok-add-in-SignedAdd
returns-in_ok-add-in-SignedAdd c =
    let carry : ℕ → ℕ = (slice_index (seen_at c.args.order.now (Flag c.args.order.now.plan.set_no Carry))) in (
      ap binary_flags c.in-SignedAdd.is,
      ap is_quotient c.in-SignedAdd.is,
      c.in_ok-add-in-SignedAdd.ensures.value ∙ ap (λ (op : BinaryOperator). binary_field op c.args.bits c.args.x.now c.args.y.now carry) (sym c.in-SignedAdd.is),
      c.in_ok-add-in-SignedAdd.ensures.carry ∙ ap (λ (op : BinaryOperator). carry_plane op c.args.bits c.args.x.now c.args.y.now carry) (sym c.in-SignedAdd.is),
      c.in_ok-add-in-SignedAdd.ensures.overflow ∙ ap (λ (op : BinaryOperator). overflow_plane op c.args.bits c.args.x.now c.args.y.now carry) (sym c.in-SignedAdd.is),
    )

pub returns-in_ok-subtract-in-SignedSubtract : goal.returns-in_ok-subtract-in-SignedSubtract
returns-in_ok-subtract-in-SignedSubtract c =
    let carry : ℕ → ℕ = (slice_index (seen_at c.args.order.now (Flag c.args.order.now.plan.set_no Carry))) in (
      ap binary_flags c.in-SignedSubtract.is,
      ap is_quotient c.in-SignedSubtract.is,
      c.in_ok-subtract-in-SignedSubtract.ensures.value ∙ ap (λ (op : BinaryOperator). binary_field op c.args.bits c.args.x.now c.args.y.now carry) (sym c.in-SignedSubtract.is),
      c.in_ok-subtract-in-SignedSubtract.ensures.carry ∙ ap (λ (op : BinaryOperator). carry_plane op c.args.bits c.args.x.now c.args.y.now carry) (sym c.in-SignedSubtract.is),
      c.in_ok-subtract-in-SignedSubtract.ensures.overflow ∙ ap (λ (op : BinaryOperator). overflow_plane op c.args.bits c.args.x.now c.args.y.now carry) (sym c.in-SignedSubtract.is),
    )

pub returns-in_ok-add_carry-in-UnsignedAddCarry : goal.returns-in_ok-add_carry-in-UnsignedAddCarry
returns-in_ok-add_carry-in-UnsignedAddCarry c =
    let carry : ℕ → ℕ = (slice_index (seen_at c.args.order.now (Flag c.args.order.now.plan.set_no Carry))) in
    let same = carry_seen c.flag_plane-carry.result.now (seen_at c.args.order.now (Flag c.args.order.now.plan.set_no Carry)) c.flag_plane-carry.ensures.bits in (
      ap binary_flags c.in-UnsignedAddCarry.is,
      ap is_quotient c.in-UnsignedAddCarry.is,
      c.in_ok-add_carry-in-UnsignedAddCarry.ensures.value ∙ ap (λ (f : ℕ → ℕ). binary_field UnsignedAddCarry c.args.bits c.args.x.now c.args.y.now f) same ∙ ap (λ (op : BinaryOperator). binary_field op c.args.bits c.args.x.now c.args.y.now carry) (sym c.in-UnsignedAddCarry.is),
      c.in_ok-add_carry-in-UnsignedAddCarry.ensures.carry ∙ ap (λ (f : ℕ → ℕ). carry_plane UnsignedAddCarry c.args.bits c.args.x.now c.args.y.now f) same ∙ ap (λ (op : BinaryOperator). carry_plane op c.args.bits c.args.x.now c.args.y.now carry) (sym c.in-UnsignedAddCarry.is),
      c.in_ok-add_carry-in-UnsignedAddCarry.ensures.overflow ∙ ap (λ (f : ℕ → ℕ). overflow_plane UnsignedAddCarry c.args.bits c.args.x.now c.args.y.now f) same ∙ ap (λ (op : BinaryOperator). overflow_plane op c.args.bits c.args.x.now c.args.y.now carry) (sym c.in-UnsignedAddCarry.is),
    )
