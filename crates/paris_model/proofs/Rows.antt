-- Worked rows of instructions that act in each processor by itself, by computing. Fields are numbered in the order in which a row names them.
use Rattle.std.proofs.Common.{◌≡◌, ℕ, List, [], ◌∷◌, refl, Some, None, true}
use Rattle.paris_names.specs.declared.keys.FlagName.TheVariants.{Context, Test, Carry, Overflow}
use Rattle.paris_names.specs.declared.keys.Key.TheVariants.{Field, Flag}
use Rattle.paris_model.specs.declared.actions.Operand.{Operand}
use Rattle.paris_model.specs.declared.actions.Action.{Action}
use Rattle.paris_model.specs.declared.actions.Action.TheVariants.{OnSelected, OnAll, ByMail}
use Rattle.paris_model.specs.declared.actions.Conditional.TheVariants.{Binary, Unary, MoveConstant, Resize, Compare, MyCoordinate, MyAddress, SetTest}
use Rattle.paris_model.specs.declared.actions.Unconditional.TheVariants.{MoveAlways, SetContext, InvertContext, LoadContext, AndContextWithTest, StoreContext}
use Rattle.paris_model.specs.declared.actions.Mail.TheVariants as Mail
use Rattle.paris_model.specs.declared.operators.Sign.TheVariants.{Unsigned, Signed}
use Rattle.paris_model.specs.declared.operators.BinaryOperator.TheVariants as Operator
use Rattle.paris_model.specs.declared.operators.UnaryOperator.TheVariants.{Negate, Move}
use Rattle.paris_model.specs.declared.operators.Comparison.TheVariants.{Less}
use Rattle.paris_model.specs.Frame.{World}
use Rattle.paris_model.specs.Instructions.{Plan, reads, writes, value_at, outcome, one}
use Rattle.paris_model.specs.Run.{run, cause}
use Rattle.paris_model.specs.Fits.{IsFit, has_bad_axis, has_bad_length, has_bad_operand, has_overlap}

-- an operand by its field number and its width
abbrev pub wide : ℕ → ℕ → Operand
wide n width = record { field = n; width = width }

-- the plan of an action in set 0; how an instruction is written changes nothing
abbrev pub on : List ℕ → Action Operand ℕ → Plan
on axes action = record { instr = OnSelected (MoveConstant [] 0 0); set_no = 0; axes = axes; action = action }

-- u-add-3-1L c a b 8
sum-reads : reads (on (4 ∷ []) (OnSelected (Binary Operator.UnsignedAdd (wide 2 8) (wide 0 8) (wide 1 8) 8))) ≡ (Field 0 ∷ Field 1 ∷ Field 2 ∷ Flag 0 Context ∷ Flag 0 Carry ∷ Flag 0 Overflow ∷ [])
unfolding reads
sum-reads = refl

-- u-add-3-1L c a b 8
sum-writes : writes (on (4 ∷ []) (OnSelected (Binary Operator.UnsignedAdd (wide 2 8) (wide 0 8) (wide 1 8) 8))) ≡ (Field 2 ∷ Flag 0 Carry ∷ Flag 0 Overflow ∷ [])
unfolding writes
sum-writes = refl

-- u-move-always-1L d a 4
move-always-reads-what-it-keeps : reads (on (4 ∷ []) (OnAll (MoveAlways (wide 1 8) (wide 0 8) 4))) ≡ (Field 0 ∷ Field 1 ∷ [])
unfolding reads
move-always-reads-what-it-keeps = refl

-- u-move-always-1L d a 8
move-always-of-all-bits-reads-its-source : reads (on (4 ∷ []) (OnAll (MoveAlways (wide 1 8) (wide 0 8) 8))) ≡ (Field 0 ∷ [])
unfolding reads
move-always-of-all-bits-reads-its-source = refl

-- set-context S
set-context-reads-nothing : reads (on (4 ∷ []) (OnAll (SetContext 0))) ≡ []
unfolding reads
set-context-reads-nothing = refl

-- store-context g
store-context-reads-the-context : reads (on (4 ∷ []) (OnAll (StoreContext (wide 0 1)))) ≡ (Flag 0 Context ∷ [])
unfolding reads
store-context-reads-the-context = refl

-- logand-context-with-test S
with-test-reads-context-and-test : reads (on (4 ∷ []) (OnAll (AndContextWithTest 0))) ≡ (Flag 0 Context ∷ Flag 0 Test ∷ [])
unfolding reads
with-test-reads-context-and-test = refl

-- u-add-3-1L c a b 8 (a 8 bits, b 8 bits, c 8 bits)
abbrev sum-plans : List Plan
sum-plans = on (4 ∷ []) (OnSelected (Binary Operator.UnsignedAdd (wide 2 8) (wide 0 8) (wide 1 8) 8)) ∷ []

abbrev sum-start : World
sum-start = value_at (Field 0 ∷ Field 1 ∷ Flag 0 Context ∷ []) ((10 ∷ 20 ∷ 30 ∷ 250 ∷ []) ∷ (1 ∷ 2 ∷ 3 ∷ 10 ∷ []) ∷ (1 ∷ 1 ∷ 1 ∷ 1 ∷ []) ∷ [])

sum-of-each-processor : run sum-start sum-plans (Field 2) ≡ (11 ∷ 22 ∷ 33 ∷ 4 ∷ [])
unfolding one outcome reads writes
sum-of-each-processor = refl

sum-overflows : run sum-start sum-plans (Flag 0 Overflow) ≡ (0 ∷ 0 ∷ 0 ∷ 1 ∷ [])
unfolding one outcome reads writes
sum-overflows = refl

sum-carries : run sum-start sum-plans (Flag 0 Carry) ≡ (0 ∷ 0 ∷ 0 ∷ 1 ∷ [])
unfolding one outcome reads writes
sum-carries = refl

sum-is-not-refused : cause sum-start sum-plans 0 ≡ None
unfolding one outcome reads writes
sum-is-not-refused = refl

-- u-add-3-1L c a b 8 (a 8 bits, b 8 bits, c 8 bits)
abbrev partial-sum-plans : List Plan
partial-sum-plans = on (4 ∷ []) (OnSelected (Binary Operator.UnsignedAdd (wide 2 8) (wide 0 8) (wide 1 8) 8)) ∷ []

abbrev partial-sum-start : World
partial-sum-start = value_at (Flag 0 Context ∷ Flag 0 Carry ∷ Flag 0 Overflow ∷ Field 0 ∷ Field 1 ∷ Field 2 ∷ []) ((1 ∷ 0 ∷ 1 ∷ 1 ∷ []) ∷ (0 ∷ 1 ∷ 0 ∷ 1 ∷ []) ∷ (0 ∷ 1 ∷ 0 ∷ 1 ∷ []) ∷ (255 ∷ 255 ∷ 1 ∷ 1 ∷ []) ∷ (1 ∷ 1 ∷ 1 ∷ 1 ∷ []) ∷ (9 ∷ 9 ∷ 9 ∷ 9 ∷ []) ∷ [])

sum-only-where-selected : run partial-sum-start partial-sum-plans (Field 2) ≡ (0 ∷ 9 ∷ 2 ∷ 2 ∷ [])
unfolding one outcome reads writes
sum-only-where-selected = refl

carry-only-where-selected : run partial-sum-start partial-sum-plans (Flag 0 Carry) ≡ (1 ∷ 1 ∷ 0 ∷ 0 ∷ [])
unfolding one outcome reads writes
carry-only-where-selected = refl

overflow-only-where-selected : run partial-sum-start partial-sum-plans (Flag 0 Overflow) ≡ (1 ∷ 1 ∷ 0 ∷ 0 ∷ [])
unfolding one outcome reads writes
overflow-only-where-selected = refl

-- u-add-3-1L c a b 64 (a 64 bits, b 64 bits, c 64 bits, one processor)
abbrev long-sum-plans : List Plan
long-sum-plans = on (1 ∷ []) (OnSelected (Binary Operator.UnsignedAdd (wide 2 64) (wide 0 64) (wide 1 64) 64)) ∷ []

abbrev long-sum-start : World
long-sum-start = value_at (Field 0 ∷ Field 1 ∷ Flag 0 Context ∷ []) ((18446744073709551615 ∷ []) ∷ (1 ∷ []) ∷ (1 ∷ []) ∷ [])

long-sum-wraps : run long-sum-start long-sum-plans (Field 2) ≡ (0 ∷ [])
unfolding one outcome reads writes
long-sum-wraps = refl

long-sum-carries : run long-sum-start long-sum-plans (Flag 0 Carry) ≡ (1 ∷ [])
unfolding one outcome reads writes
long-sum-carries = refl

long-sum-overflows : run long-sum-start long-sum-plans (Flag 0 Overflow) ≡ (1 ∷ [])
unfolding one outcome reads writes
long-sum-overflows = refl

-- u-add-carry-3-1L c a b 8 (a 8 bits, b 8 bits, c 8 bits)
abbrev carried-sum-plans : List Plan
carried-sum-plans = on (4 ∷ []) (OnSelected (Binary Operator.UnsignedAddCarry (wide 2 8) (wide 0 8) (wide 1 8) 8)) ∷ []

abbrev carried-sum-start : World
carried-sum-start = value_at (Flag 0 Carry ∷ Field 0 ∷ Field 1 ∷ Flag 0 Context ∷ []) ((1 ∷ 0 ∷ 1 ∷ 0 ∷ []) ∷ (255 ∷ 255 ∷ 1 ∷ 1 ∷ []) ∷ (0 ∷ 0 ∷ 0 ∷ 0 ∷ []) ∷ (1 ∷ 1 ∷ 1 ∷ 1 ∷ []) ∷ [])

carried-sum-adds-the-carry : run carried-sum-start carried-sum-plans (Field 2) ≡ (0 ∷ 255 ∷ 2 ∷ 1 ∷ [])
unfolding one outcome reads writes
carried-sum-adds-the-carry = refl

carried-sum-carries : run carried-sum-start carried-sum-plans (Flag 0 Carry) ≡ (1 ∷ 0 ∷ 0 ∷ 0 ∷ [])
unfolding one outcome reads writes
carried-sum-carries = refl

-- s-add-3-1L c a b 8 (a 8 bits, b 8 bits, c 8 bits)
abbrev signed-sum-plans : List Plan
signed-sum-plans = on (4 ∷ []) (OnSelected (Binary Operator.SignedAdd (wide 2 8) (wide 0 8) (wide 1 8) 8)) ∷ []

abbrev signed-sum-start : World
signed-sum-start = value_at (Field 0 ∷ Field 1 ∷ Flag 0 Context ∷ []) ((127 ∷ 128 ∷ 255 ∷ 0 ∷ []) ∷ (1 ∷ 255 ∷ 255 ∷ 0 ∷ []) ∷ (1 ∷ 1 ∷ 1 ∷ 1 ∷ []) ∷ [])

signed-sum-wraps : run signed-sum-start signed-sum-plans (Field 2) ≡ (128 ∷ 127 ∷ 254 ∷ 0 ∷ [])
unfolding one outcome reads writes
signed-sum-wraps = refl

signed-sum-overflows-past-either-end : run signed-sum-start signed-sum-plans (Flag 0 Overflow) ≡ (1 ∷ 1 ∷ 0 ∷ 0 ∷ [])
unfolding one outcome reads writes
signed-sum-overflows-past-either-end = refl

signed-sum-carries-as-unsigned : run signed-sum-start signed-sum-plans (Flag 0 Carry) ≡ (0 ∷ 1 ∷ 1 ∷ 0 ∷ [])
unfolding one outcome reads writes
signed-sum-carries-as-unsigned = refl

-- u-subtract-3-1L c a b 8 (a 8 bits, b 8 bits, c 8 bits)
abbrev subtract-plans : List Plan
subtract-plans = on (4 ∷ []) (OnSelected (Binary Operator.UnsignedSubtract (wide 2 8) (wide 0 8) (wide 1 8) 8)) ∷ []

abbrev subtract-start : World
subtract-start = value_at (Field 0 ∷ Field 1 ∷ Flag 0 Context ∷ []) ((5 ∷ 0 ∷ 255 ∷ 128 ∷ []) ∷ (6 ∷ 0 ∷ 1 ∷ 128 ∷ []) ∷ (1 ∷ 1 ∷ 1 ∷ 1 ∷ []) ∷ [])

subtract-wraps : run subtract-start subtract-plans (Field 2) ≡ (255 ∷ 0 ∷ 254 ∷ 0 ∷ [])
unfolding one outcome reads writes
subtract-wraps = refl

subtract-borrows : run subtract-start subtract-plans (Flag 0 Carry) ≡ (1 ∷ 0 ∷ 0 ∷ 0 ∷ [])
unfolding one outcome reads writes
subtract-borrows = refl

subtract-overflows : run subtract-start subtract-plans (Flag 0 Overflow) ≡ (1 ∷ 0 ∷ 0 ∷ 0 ∷ [])
unfolding one outcome reads writes
subtract-overflows = refl

-- s-subtract-3-1L c a b 8 (a 8 bits, b 8 bits, c 8 bits)
abbrev signed-subtract-plans : List Plan
signed-subtract-plans = on (4 ∷ []) (OnSelected (Binary Operator.SignedSubtract (wide 2 8) (wide 0 8) (wide 1 8) 8)) ∷ []

abbrev signed-subtract-start : World
signed-subtract-start = value_at (Field 0 ∷ Field 1 ∷ Flag 0 Context ∷ []) ((128 ∷ 0 ∷ 127 ∷ 5 ∷ []) ∷ (1 ∷ 128 ∷ 255 ∷ 5 ∷ []) ∷ (1 ∷ 1 ∷ 1 ∷ 1 ∷ []) ∷ [])

signed-subtract-wraps : run signed-subtract-start signed-subtract-plans (Field 2) ≡ (127 ∷ 128 ∷ 128 ∷ 0 ∷ [])
unfolding one outcome reads writes
signed-subtract-wraps = refl

signed-subtract-overflows-past-either-end : run signed-subtract-start signed-subtract-plans (Flag 0 Overflow) ≡ (1 ∷ 1 ∷ 1 ∷ 0 ∷ [])
unfolding one outcome reads writes
signed-subtract-overflows-past-either-end = refl

signed-subtract-borrows-as-unsigned : run signed-subtract-start signed-subtract-plans (Flag 0 Carry) ≡ (0 ∷ 1 ∷ 1 ∷ 0 ∷ [])
unfolding one outcome reads writes
signed-subtract-borrows-as-unsigned = refl

-- s-negate-2-1L c a 8 (a 8 bits, c 8 bits)
abbrev negate-plans : List Plan
negate-plans = on (4 ∷ []) (OnSelected (Unary Negate (wide 1 8) (wide 0 8) 8)) ∷ []

abbrev negate-start : World
negate-start = value_at (Field 0 ∷ Flag 0 Context ∷ []) ((128 ∷ 1 ∷ 0 ∷ 255 ∷ []) ∷ (1 ∷ 1 ∷ 1 ∷ 1 ∷ []) ∷ [])

negate-turns-the-sign : run negate-start negate-plans (Field 1) ≡ (128 ∷ 255 ∷ 0 ∷ 1 ∷ [])
unfolding one outcome reads writes
negate-turns-the-sign = refl

negate-overflows-at-the-least-number : run negate-start negate-plans (Flag 0 Overflow) ≡ (1 ∷ 0 ∷ 0 ∷ 0 ∷ [])
unfolding one outcome reads writes
negate-overflows-at-the-least-number = refl

-- u-multiply-3-1L c a b 8 (a 8 bits, b 8 bits, c 8 bits)
abbrev multiply-plans : List Plan
multiply-plans = on (4 ∷ []) (OnSelected (Binary Operator.UnsignedMultiply (wide 2 8) (wide 0 8) (wide 1 8) 8)) ∷ []

abbrev multiply-start : World
multiply-start = value_at (Field 0 ∷ Field 1 ∷ Flag 0 Context ∷ []) ((16 ∷ 255 ∷ 2 ∷ 0 ∷ []) ∷ (16 ∷ 255 ∷ 100 ∷ 9 ∷ []) ∷ (1 ∷ 1 ∷ 1 ∷ 1 ∷ []) ∷ [])

multiply-wraps : run multiply-start multiply-plans (Field 2) ≡ (0 ∷ 1 ∷ 200 ∷ 0 ∷ [])
unfolding one outcome reads writes
multiply-wraps = refl

multiply-overflows : run multiply-start multiply-plans (Flag 0 Overflow) ≡ (1 ∷ 1 ∷ 0 ∷ 0 ∷ [])
unfolding one outcome reads writes
multiply-overflows = refl

-- s-multiply-3-1L c a b 8 (a 8 bits, b 8 bits, c 8 bits)
abbrev signed-multiply-plans : List Plan
signed-multiply-plans = on (4 ∷ []) (OnSelected (Binary Operator.SignedMultiply (wide 2 8) (wide 0 8) (wide 1 8) 8)) ∷ []

abbrev signed-multiply-start : World
signed-multiply-start = value_at (Field 0 ∷ Field 1 ∷ Flag 0 Context ∷ []) ((16 ∷ 255 ∷ 2 ∷ 0 ∷ []) ∷ (16 ∷ 255 ∷ 100 ∷ 9 ∷ []) ∷ (1 ∷ 1 ∷ 1 ∷ 1 ∷ []) ∷ [])

signed-multiply-wraps : run signed-multiply-start signed-multiply-plans (Field 2) ≡ (0 ∷ 1 ∷ 200 ∷ 0 ∷ [])
unfolding one outcome reads writes
signed-multiply-wraps = refl

signed-multiply-overflows : run signed-multiply-start signed-multiply-plans (Flag 0 Overflow) ≡ (1 ∷ 0 ∷ 1 ∷ 0 ∷ [])
unfolding one outcome reads writes
signed-multiply-overflows = refl

-- u-multiply-3-1L c x y 64 (x 64 bits, y 64 bits, c 64 bits, one processor)
abbrev long-multiply-plans : List Plan
long-multiply-plans = on (1 ∷ []) (OnSelected (Binary Operator.UnsignedMultiply (wide 2 64) (wide 0 64) (wide 1 64) 64)) ∷ []

abbrev long-multiply-start : World
long-multiply-start = value_at (Field 0 ∷ Field 1 ∷ Flag 0 Context ∷ []) ((18446744073709551615 ∷ []) ∷ (18446744073709551615 ∷ []) ∷ (1 ∷ []) ∷ [])

long-multiply-wraps : run long-multiply-start long-multiply-plans (Field 2) ≡ (1 ∷ [])
unfolding one outcome reads writes
long-multiply-wraps = refl

long-multiply-overflows : run long-multiply-start long-multiply-plans (Flag 0 Overflow) ≡ (1 ∷ [])
unfolding one outcome reads writes
long-multiply-overflows = refl

-- s-multiply-3-1L c x y 64 (x 64 bits, y 64 bits, c 64 bits, one processor)
abbrev long-signed-multiply-plans : List Plan
long-signed-multiply-plans = on (1 ∷ []) (OnSelected (Binary Operator.SignedMultiply (wide 2 64) (wide 0 64) (wide 1 64) 64)) ∷ []

abbrev long-signed-multiply-start : World
long-signed-multiply-start = value_at (Field 0 ∷ Field 1 ∷ Flag 0 Context ∷ []) ((18446744073709551615 ∷ []) ∷ (18446744073709551615 ∷ []) ∷ (1 ∷ []) ∷ [])

minus-one-times-minus-one : run long-signed-multiply-start long-signed-multiply-plans (Field 2) ≡ (1 ∷ [])
unfolding one outcome reads writes
minus-one-times-minus-one = refl

minus-one-times-minus-one-does-not-overflow : run long-signed-multiply-start long-signed-multiply-plans (Flag 0 Overflow) ≡ (0 ∷ [])
unfolding one outcome reads writes
minus-one-times-minus-one-does-not-overflow = refl

-- u-truncate-3-1L d x y 8 (x 8 bits, y 8 bits, d 8 bits)
abbrev truncate-plans : List Plan
truncate-plans = on (4 ∷ []) (OnSelected (Binary Operator.Truncate (wide 2 8) (wide 0 8) (wide 1 8) 8)) ∷ []

abbrev truncate-start : World
truncate-start = value_at (Field 0 ∷ Field 1 ∷ Field 2 ∷ Flag 0 Context ∷ []) ((7 ∷ 8 ∷ 9 ∷ 255 ∷ []) ∷ (2 ∷ 0 ∷ 3 ∷ 16 ∷ []) ∷ (5 ∷ 5 ∷ 5 ∷ 5 ∷ []) ∷ (1 ∷ 1 ∷ 1 ∷ 1 ∷ []) ∷ [])

truncate-keeps-the-destination-by-zero : run truncate-start truncate-plans (Field 2) ≡ (3 ∷ 5 ∷ 3 ∷ 15 ∷ [])
unfolding one outcome reads writes
truncate-keeps-the-destination-by-zero = refl

truncate-overflows-by-zero : run truncate-start truncate-plans (Flag 0 Overflow) ≡ (0 ∷ 1 ∷ 0 ∷ 0 ∷ [])
unfolding one outcome reads writes
truncate-overflows-by-zero = refl

-- u-rem-3-1L d x y 8 (x 8 bits, y 8 bits, d 8 bits)
abbrev remainder-plans : List Plan
remainder-plans = on (4 ∷ []) (OnSelected (Binary Operator.Remainder (wide 2 8) (wide 0 8) (wide 1 8) 8)) ∷ []

abbrev remainder-start : World
remainder-start = value_at (Field 0 ∷ Field 1 ∷ Field 2 ∷ Flag 0 Context ∷ []) ((7 ∷ 8 ∷ 9 ∷ 255 ∷ []) ∷ (2 ∷ 0 ∷ 3 ∷ 16 ∷ []) ∷ (5 ∷ 5 ∷ 5 ∷ 5 ∷ []) ∷ (1 ∷ 1 ∷ 1 ∷ 1 ∷ []) ∷ [])

remainder-keeps-the-destination-by-zero : run remainder-start remainder-plans (Field 2) ≡ (1 ∷ 5 ∷ 0 ∷ 15 ∷ [])
unfolding one outcome reads writes
remainder-keeps-the-destination-by-zero = refl

remainder-overflows-by-zero : run remainder-start remainder-plans (Flag 0 Overflow) ≡ (0 ∷ 1 ∷ 0 ∷ 0 ∷ [])
unfolding one outcome reads writes
remainder-overflows-by-zero = refl

-- u-max-3-1L c a b 8 (a 8 bits, b 8 bits, c 8 bits)
abbrev greatest-plans : List Plan
greatest-plans = on (4 ∷ []) (OnSelected (Binary (Operator.Maximum Unsigned) (wide 2 8) (wide 0 8) (wide 1 8) 8)) ∷ []

abbrev pairs-start : World
pairs-start = value_at (Field 0 ∷ Field 1 ∷ Flag 0 Context ∷ []) ((1 ∷ 200 ∷ 128 ∷ 127 ∷ []) ∷ (2 ∷ 100 ∷ 127 ∷ 128 ∷ []) ∷ (1 ∷ 1 ∷ 1 ∷ 1 ∷ []) ∷ [])

greatest-of-each-pair : run pairs-start greatest-plans (Field 2) ≡ (2 ∷ 200 ∷ 128 ∷ 128 ∷ [])
unfolding one outcome reads writes
greatest-of-each-pair = refl

-- s-max-3-1L c a b 8 (a 8 bits, b 8 bits, c 8 bits)
abbrev signed-greatest-plans : List Plan
signed-greatest-plans = on (4 ∷ []) (OnSelected (Binary (Operator.Maximum Signed) (wide 2 8) (wide 0 8) (wide 1 8) 8)) ∷ []

signed-greatest-of-each-pair : run pairs-start signed-greatest-plans (Field 2) ≡ (2 ∷ 100 ∷ 127 ∷ 127 ∷ [])
unfolding one outcome reads writes
signed-greatest-of-each-pair = refl

-- u-min-3-1L c a b 8 (a 8 bits, b 8 bits, c 8 bits)
abbrev least-plans : List Plan
least-plans = on (4 ∷ []) (OnSelected (Binary (Operator.Minimum Unsigned) (wide 2 8) (wide 0 8) (wide 1 8) 8)) ∷ []

least-of-each-pair : run pairs-start least-plans (Field 2) ≡ (1 ∷ 100 ∷ 127 ∷ 127 ∷ [])
unfolding one outcome reads writes
least-of-each-pair = refl

-- s-min-3-1L c a b 8 (a 8 bits, b 8 bits, c 8 bits)
abbrev signed-least-plans : List Plan
signed-least-plans = on (4 ∷ []) (OnSelected (Binary (Operator.Minimum Signed) (wide 2 8) (wide 0 8) (wide 1 8) 8)) ∷ []

signed-least-of-each-pair : run pairs-start signed-least-plans (Field 2) ≡ (1 ∷ 200 ∷ 128 ∷ 128 ∷ [])
unfolding one outcome reads writes
signed-least-of-each-pair = refl

-- u-move-1L c a 4 (a 8 bits, c 8 bits)
abbrev short-move-plans : List Plan
short-move-plans = on (4 ∷ []) (OnSelected (Unary Move (wide 1 8) (wide 0 8) 4)) ∷ []

abbrev short-move-start : World
short-move-start = value_at (Field 1 ∷ Field 0 ∷ Flag 0 Context ∷ []) ((240 ∷ 240 ∷ 240 ∷ 240 ∷ []) ∷ (3 ∷ 15 ∷ 16 ∷ 255 ∷ []) ∷ (1 ∷ 1 ∷ 1 ∷ 1 ∷ []) ∷ [])

short-move-keeps-the-upper-bits : run short-move-start short-move-plans (Field 1) ≡ (243 ∷ 255 ∷ 240 ∷ 255 ∷ [])
unfolding one outcome reads writes
short-move-keeps-the-upper-bits = refl

-- u-move-constant-1L c 7 4 (c 8 bits)
abbrev short-constant-plans : List Plan
short-constant-plans = on (4 ∷ []) (OnSelected (MoveConstant (wide 0 8) 7 4)) ∷ []

abbrev short-constant-start : World
short-constant-start = value_at (Field 0 ∷ Flag 0 Context ∷ []) ((240 ∷ 240 ∷ 240 ∷ 240 ∷ []) ∷ (1 ∷ 0 ∷ 1 ∷ 1 ∷ []) ∷ [])

short-constant-keeps-the-upper-bits : run short-constant-start short-constant-plans (Field 0) ≡ (247 ∷ 240 ∷ 247 ∷ 247 ∷ [])
unfolding one outcome reads writes
short-constant-keeps-the-upper-bits = refl

-- s-move-2L c a 8 4 (a 8 bits, c 8 bits)
abbrev sign-extension-plans : List Plan
sign-extension-plans = on (4 ∷ []) (OnSelected (Resize Signed (wide 1 8) (wide 0 8) 8 4)) ∷ []

abbrev sign-extension-start : World
sign-extension-start = value_at (Field 0 ∷ Flag 0 Context ∷ []) ((7 ∷ 8 ∷ 15 ∷ 16 ∷ []) ∷ (1 ∷ 1 ∷ 1 ∷ 1 ∷ []) ∷ [])

signed-move-extends-the-sign : run sign-extension-start sign-extension-plans (Field 1) ≡ (7 ∷ 248 ∷ 255 ∷ 0 ∷ [])
unfolding one outcome reads writes
signed-move-extends-the-sign = refl

signed-move-to-more-bits-does-not-overflow : run sign-extension-start sign-extension-plans (Flag 0 Overflow) ≡ (0 ∷ 0 ∷ 0 ∷ 0 ∷ [])
unfolding one outcome reads writes
signed-move-to-more-bits-does-not-overflow = refl

-- u-move-2L c a 3 8 (a 8 bits, c 8 bits)
abbrev narrowing-plans : List Plan
narrowing-plans = on (4 ∷ []) (OnSelected (Resize Unsigned (wide 1 8) (wide 0 8) 3 8)) ∷ []

abbrev narrowing-start : World
narrowing-start = value_at (Field 0 ∷ Field 1 ∷ Flag 0 Context ∷ []) ((7 ∷ 8 ∷ 15 ∷ 16 ∷ []) ∷ (0 ∷ 0 ∷ 0 ∷ 0 ∷ []) ∷ (1 ∷ 1 ∷ 1 ∷ 1 ∷ []) ∷ [])

move-to-fewer-bits-cuts : run narrowing-start narrowing-plans (Field 1) ≡ (7 ∷ 0 ∷ 7 ∷ 0 ∷ [])
unfolding one outcome reads writes
move-to-fewer-bits-cuts = refl

move-to-fewer-bits-overflows : run narrowing-start narrowing-plans (Flag 0 Overflow) ≡ (0 ∷ 1 ∷ 1 ∷ 1 ∷ [])
unfolding one outcome reads writes
move-to-fewer-bits-overflows = refl

-- u-lt-1L a b 8 (a 8 bits, b 8 bits)
abbrev less-plans : List Plan
less-plans = on (4 ∷ []) (OnSelected (Compare (Less Unsigned) (wide 0 8) (wide 1 8) 8)) ∷ []

abbrev compared-start : World
compared-start = value_at (Field 0 ∷ Field 1 ∷ Flag 0 Context ∷ []) ((1 ∷ 200 ∷ 3 ∷ 4 ∷ []) ∷ (2 ∷ 100 ∷ 3 ∷ 0 ∷ []) ∷ (1 ∷ 1 ∷ 1 ∷ 1 ∷ []) ∷ [])

less-sets-the-test-flag : run compared-start less-plans (Flag 0 Test) ≡ (1 ∷ 0 ∷ 0 ∷ 0 ∷ [])
unfolding one outcome reads writes
less-sets-the-test-flag = refl

-- s-lt-1L a b 8 (a 8 bits, b 8 bits)
abbrev signed-less-plans : List Plan
signed-less-plans = on (4 ∷ []) (OnSelected (Compare (Less Signed) (wide 0 8) (wide 1 8) 8)) ∷ []

signed-less-reads-the-sign : run compared-start signed-less-plans (Flag 0 Test) ≡ (1 ∷ 1 ∷ 0 ∷ 0 ∷ [])
unfolding one outcome reads writes
signed-less-reads-the-sign = refl

-- my-news-coordinate-1L d 0 8 (d 8 bits, on axes 2x2)
abbrev first-coordinate-plans : List Plan
first-coordinate-plans = on (2 ∷ 2 ∷ []) (OnSelected (MyCoordinate (wide 0 8) 0 8)) ∷ []

abbrev square-start : World
square-start = value_at (Field 0 ∷ Flag 0 Context ∷ []) ((0 ∷ 0 ∷ 0 ∷ 0 ∷ []) ∷ (1 ∷ 1 ∷ 1 ∷ 1 ∷ []) ∷ [])

first-coordinate-counts-fastest : run square-start first-coordinate-plans (Field 0) ≡ (0 ∷ 1 ∷ 0 ∷ 1 ∷ [])
unfolding one outcome reads writes
first-coordinate-counts-fastest = refl

-- my-news-coordinate-1L d 1 8 (d 8 bits, on axes 2x2)
abbrev second-coordinate-plans : List Plan
second-coordinate-plans = on (2 ∷ 2 ∷ []) (OnSelected (MyCoordinate (wide 0 8) 1 8)) ∷ []

second-coordinate-counts-the-lines : run square-start second-coordinate-plans (Field 0) ≡ (0 ∷ 0 ∷ 1 ∷ 1 ∷ [])
unfolding one outcome reads writes
second-coordinate-counts-the-lines = refl

-- my-send-address-1L d 1 (d 8 bits, on axes 2x2)
abbrev short-address-plans : List Plan
short-address-plans = on (2 ∷ 2 ∷ []) (OnSelected (MyAddress (wide 0 8) 1)) ∷ []

short-address-keeps-the-low-bit : run square-start short-address-plans (Field 0) ≡ (0 ∷ 1 ∷ 0 ∷ 1 ∷ [])
unfolding one outcome reads writes
short-address-keeps-the-low-bit = refl

-- load-context f; u-move-constant-1L c 7 8; invert-context S; u-move-constant-1L c 9 8; store-context g; set-context S (f 1 bit, g 1 bit, c 8 bits)
abbrev two-ways-plans : List Plan
two-ways-plans = on (4 ∷ []) (OnAll (LoadContext (wide 0 1))) ∷ on (4 ∷ []) (OnSelected (MoveConstant (wide 2 8) 7 8)) ∷ on (4 ∷ []) (OnAll (InvertContext 0)) ∷ on (4 ∷ []) (OnSelected (MoveConstant (wide 2 8) 9 8)) ∷ on (4 ∷ []) (OnAll (StoreContext (wide 1 1))) ∷ on (4 ∷ []) (OnAll (SetContext 0)) ∷ []

abbrev two-ways-start : World
two-ways-start = value_at (Field 0 ∷ Field 2 ∷ Flag 0 Context ∷ []) ((1 ∷ 0 ∷ 1 ∷ 0 ∷ []) ∷ (0 ∷ 0 ∷ 0 ∷ 0 ∷ []) ∷ (1 ∷ 1 ∷ 1 ∷ 1 ∷ []) ∷ [])

each-way-stores-its-constant : run two-ways-start two-ways-plans (Field 2) ≡ (7 ∷ 9 ∷ 7 ∷ 9 ∷ [])
unfolding one outcome reads writes
each-way-stores-its-constant = refl

store-context-stores-the-inverted-one : run two-ways-start two-ways-plans (Field 1) ≡ (0 ∷ 1 ∷ 0 ∷ 1 ∷ [])
unfolding one outcome reads writes
store-context-stores-the-inverted-one = refl

set-context-selects-all : run two-ways-start two-ways-plans (Flag 0 Context) ≡ (1 ∷ 1 ∷ 1 ∷ 1 ∷ [])
unfolding one outcome reads writes
set-context-selects-all = refl

-- u-lt-1L a b 8; logand-context-with-test S; set-test S (a 8 bits, b 8 bits)
abbrev by-test-plans : List Plan
by-test-plans = on (4 ∷ []) (OnSelected (Compare (Less Unsigned) (wide 0 8) (wide 1 8) 8)) ∷ on (4 ∷ []) (OnAll (AndContextWithTest 0)) ∷ on (4 ∷ []) (OnSelected (SetTest 0)) ∷ []

abbrev by-test-start : World
by-test-start = value_at (Field 0 ∷ Field 1 ∷ Flag 0 Context ∷ []) ((1 ∷ 5 ∷ 3 ∷ 4 ∷ []) ∷ (4 ∷ 4 ∷ 4 ∷ 4 ∷ []) ∷ (1 ∷ 1 ∷ 1 ∷ 1 ∷ []) ∷ [])

context-narrows-by-the-test : run by-test-start by-test-plans (Flag 0 Context) ≡ (1 ∷ 0 ∷ 1 ∷ 0 ∷ [])
unfolding one outcome reads writes
context-narrows-by-the-test = refl

set-test-only-where-selected : run by-test-start by-test-plans (Flag 0 Test) ≡ (1 ∷ 0 ∷ 1 ∷ 0 ∷ [])
unfolding one outcome reads writes
set-test-only-where-selected = refl

-- u-add-3-1L c a b 8
sum-is-fit : IsFit (4 ∷ []) (OnSelected (Binary Operator.UnsignedAdd (wide 2 8) (wide 0 8) (wide 1 8) 8))
sum-is-fit = record { axis = refl; lengths = refl; operands = refl; overlap = refl; widths = refl }

-- my-news-coordinate-1L a 1 8 on one axis
second-axis-is-not-there : has_bad_axis (4 ∷ []) (OnSelected (MyCoordinate (wide 0 8) 1 8)) ≡ true
second-axis-is-not-there = refl

-- u-move-1L a a 9, where a has 8 bits
nine-bits-are-too-long-for-eight : has_bad_length (OnSelected (Unary Move (wide 0 8) (wide 0 8) 9)) ≡ true
nine-bits-are-too-long-for-eight = refl

-- u-move-1L a a 0
no-bits-are-no-length : has_bad_length (OnSelected (Unary Move (wide 0 8) (wide 0 8) 0)) ≡ true
no-bits-are-no-length = refl

-- u-move-constant-1L a 256 8
a-constant-needs-its-bits : has_bad_operand (4 ∷ []) (OnSelected (MoveConstant (wide 0 8) 256 8)) ≡ true
a-constant-needs-its-bits = refl

-- store-context f, where f has 2 bits
a-flag-goes-into-one-bit : has_bad_operand (4 ∷ []) (OnAll (StoreContext (wide 2 2))) ≡ true
a-flag-goes-into-one-bit = refl

-- send-1L n a a 1 n
notify-field-is-not-the-destination : has_overlap (ByMail (Mail.Send (wide 1 1) (wide 0 8) (wide 0 8) 1 (Some (wide 1 1)))) ≡ true
notify-field-is-not-the-destination = refl
