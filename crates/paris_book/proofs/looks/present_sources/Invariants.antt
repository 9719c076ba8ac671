-- The sources of the keys so far are noted.
use Rattle.std.proofs.Common.{take}
use Rattle.paris_book.specs.Among.{inputs_of}
use Rattle.paris_book.specs.Sources.{AreSources}
use Rattle.paris_book.proofs.looks.present_sources.Given as goal

abbrev pub invariant-loop-number : goal.invariant-loop-number
invariant-loop-number l = AreSources (inputs_of l.inputs) l.rows.rows l.place (take l.number l.keys) l.sources.keys
