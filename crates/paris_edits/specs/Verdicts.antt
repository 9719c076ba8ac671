-- What becomes of results.
use Rattle.std.specs.Prelude.{Bool, true, false}
use Rattle.paris_edits.specs.declared.verdicts.Verdict.{Verdict}
use Rattle.paris_edits.specs.declared.verdicts.Verdict.TheVariants.{Kept}

abbrev pub is_kept : Verdict → Bool
is_kept Kept = true
is_kept _ = false
