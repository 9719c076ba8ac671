use Rattle.std.proofs.Common.{◌<◌, ℕ, ◌∙◌, subst}
use Rattle.std.specs.Prelude.{IfSome}
use Rattle.paris_depends.proofs.CallerLemmas.{same_place}
use Rattle.paris_depends.proofs.Places.{same_length}
use Rattle.paris_depends.proofs.row_table.RowTable.place_of.Goals as goal

pub returns-clause-value : goal.returns-clause-value
returns-clause-value g c = c.place_of.ensures.value ∙ same_place c.args.program.now.rows c.args.self.now.rows c.args.id.0 c.requires

pub returns-clause-within : goal.returns-clause-within
returns-clause-within g c = subst (λ (n : ℕ). IfSome c.place_of.result (λ place. place < n)) (same_length c.args.program.now.rows c.args.self.now.rows c.requires) c.place_of.ensures.within
