use Rattle.std.proofs.Common.{inl, inr}
use Rattle.paris_plain.proofs.conditional.flag_after.Goals as goal

pub returns-in-Carry : goal.returns-in-Carry
returns-in-Carry c = rw (c.in-Binary.is, c.in-Carry.is) c.carry_stored.ensures

pub returns-in-Context : goal.returns-in-Context
returns-in-Context c =
    rw c.in-Binary.is (elim c.in-Context.is [
      | inl context ↦ rw context c.overflow_stored.ensures
      | inr (inl test) ↦ rw test c.overflow_stored.ensures
      | inr (inr overflow) ↦ rw overflow c.overflow_stored.ensures
    ])

pub returns-in-Unary : goal.returns-in-Unary
returns-in-Unary c = rw c.in-Unary.is c.unary_overflow_stored.ensures

pub returns-in-Resize : goal.returns-in-Resize
returns-in-Resize c = rw c.in-Resize.is c.resize_overflow_stored.ensures

pub returns-in-Compare : goal.returns-in-Compare
returns-in-Compare c = rw c.in-Compare.is c.comparison_stored.ensures
