use Rattle.std.proofs.Common.{rules, ℕ, List, ◌∙◌, sym, ap}
use Rattle.std.specs.Map.{keys_of}
use Rattle.std.specs.Option.{IsSome}
use Rattle.paris_program.specs.Program.{place_of}
use Rattle.paris_depends.specs.Index.{Footprint}
use Rattle.paris_depends.proofs.CallerLemmas.{ids-footprints}
use Rattle.paris_tests.proofs.Indexed.{known_keys}
use Rattle.paris_tests.specs.declared.depends.Planned.{Planned}
use Rattle.paris_tests.proofs.depends.Rows.key_count.Goals as goal

pub keys-requires-clause-of : goal.keys-requires-clause-of
keys-requires-clause-of g c = sym (ids-footprints (λ (r : Planned). r.plan) c.args.self.now.program.rows) ∙ ap (λ (l : List (ℕ × Footprint)). keys_of l) c.args.self.now.indexed

pub keys-requires-clause-there : goal.keys-requires-clause-there
keys-requires-clause-there g c =
    let there : IsSome (place_of c.args.self.now.program.rows c.args.id.0) = search rules in
    known_keys (λ (r : Planned). r.plan) c.args.self.now.program.rows c.args.self.now.index.rows c.args.self.now.indexed c.args.id.0 there
