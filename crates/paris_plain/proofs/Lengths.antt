-- The lengths of an instruction that fits.
use Rattle.std.proofs.Common.{ℕ, ◌≤◌, arith}
use Rattle.paris_model.specs.declared.actions.Operand.{Operand}
use Rattle.paris_model.specs.declared.actions.Line.{Line}
use Rattle.paris_model.specs.declared.actions.Line.TheVariants.{Scan, CopyScan, Spread, CopySpread, Reduce}
use Rattle.paris_model.specs.declared.actions.Action.TheVariants.{AlongLine}
use Rattle.paris_model.specs.Lines.{line_length}
use Rattle.paris_plain.specs.Narrow.{IsNarrow}
use Rattle.std.proofs.lemmas.Bool.Decides.{nat_tests}
use Rattle.std.specs.Prelude.{List}

-- an instruction along lines has at most 64 bits
pub line_short : (axes : List ℕ) (i : Line Operand) → IsNarrow axes (AlongLine i) → line_length i ≤ 64
line_short axes (Scan op D A X L direction _ G) fit = grind (arith, nat_tests)
line_short axes (CopyScan D A X L direction G) fit = grind (arith, nat_tests)
line_short axes (Spread op D A X L) fit = grind (arith, nat_tests)
line_short axes (CopySpread D A X L C) fit = grind (arith, nat_tests)
line_short axes (Reduce op D A X L C) fit = grind (arith, nat_tests)
