-- What steps leave of flags.
use Rattle.std.specs.Prelude.{Bool, true, false, not, cond, ◌&&◌, ◌||◌}
use Rattle.paris_flags.specs.declared.steps.ContextStep.{ContextStep}
use Rattle.paris_flags.specs.declared.steps.ContextStep.TheVariants as on_context
use Rattle.paris_flags.specs.declared.steps.TestStep.{TestStep}
use Rattle.paris_flags.specs.declared.steps.TestStep.TheVariants as on_test

-- the context flag after a step, beside an operand's bit
abbrev pub context_bit : ContextStep → Bool → Bool → Bool
context_bit on_context.Set context operand = true
context_bit on_context.Clear context operand = false
context_bit on_context.Invert context operand = not context
context_bit on_context.Load context operand = operand
context_bit on_context.And context operand = context && operand
context_bit on_context.Or context operand = context || operand

-- what a step puts into the test flag of a selected processor
abbrev pub put_test : TestStep → Bool → Bool
put_test on_test.Set operand = true
put_test on_test.Clear operand = false
put_test on_test.Load operand = operand

-- the test flag after a step
abbrev pub test_bit : TestStep → Bool → Bool → Bool → Bool
test_bit step test operand selected = cond selected (put_test step operand) test
