use Rattle.std.proofs.Common.{ℕ, List, sym, ap, ◌∙◌}
use Rattle.paris_program.specs.Program.{ids_of}
use Rattle.paris_depends.specs.Index.{Footprint}
use Rattle.paris_depends.proofs.CallerLemmas.{ids-footprints}
use Rattle.paris_book.specs.Marks.{data_plan}
use Rattle.paris_book.proofs.program_rows.Rows.origin.Goals as goal

pub origin-requires-clause-of : goal.origin-requires-clause-of
origin-requires-clause-of c = sym (ids-footprints data_plan c.self.inside.program.rows) ∙ ap (λ (l : List (ℕ × Footprint)). ids_of l) (c.self.invariant.listed.indexed ∙ sym c.get.ensures)

pub returns : goal.returns
returns c = rw (← c.self.view_is) (c.origin.ensures.value data_plan (c.self.invariant.listed.indexed ∙ sym c.get.ensures))
