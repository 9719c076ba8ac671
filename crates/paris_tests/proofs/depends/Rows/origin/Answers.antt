use Rattle.std.proofs.Common.{ℕ, List, ◌∙◌, sym, ap}
use Rattle.std.specs.Map.{keys_of}
use Rattle.paris_depends.specs.Index.{Footprint}
use Rattle.paris_depends.proofs.CallerLemmas.{ids-footprints}
use Rattle.paris_tests.specs.declared.depends.Planned.{Planned}
use Rattle.paris_tests.proofs.depends.Rows.origin.Goals as goal

pub origin-id-requires-clause-of : goal.origin-id-requires-clause-of
origin-id-requires-clause-of g c = sym (ids-footprints (λ (r : Planned). r.plan) c.args.self.now.program.rows) ∙ ap (λ (l : List (ℕ × Footprint)). keys_of l) c.args.self.now.indexed
