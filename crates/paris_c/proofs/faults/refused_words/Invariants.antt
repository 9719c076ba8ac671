-- The words so far are those of the rows so far.
use Rattle.std.proofs.Common.{◌≡◌, take}
use Rattle.std.specs.Prelude.{flat_map}
use Rattle.paris_c.specs.Calls.{row_words}
use Rattle.paris_c.proofs.faults.refused_words.Given as goal

abbrev pub invariant-loop-look : goal.invariant-loop-look
invariant-loop-look l = l.words.items ≡ flat_map row_words (take l.look-index l.looks)
