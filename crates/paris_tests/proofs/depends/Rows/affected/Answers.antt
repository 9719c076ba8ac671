use Rattle.std.proofs.Common.{ℕ, List, ◌∙◌, sym, ap, arith, length}
use Rattle.std.specs.Map.{keys_of}
use Rattle.paris_depends.specs.Index.{Footprint}
use Rattle.paris_depends.proofs.CallerLemmas.{few_looks, ids-footprints}
use Rattle.paris_tests.specs.declared.depends.Planned.{Planned}
use Rattle.paris_tests.proofs.depends.Rows.affected.Goals as goal

pub affected-requires-clause-of : goal.affected-requires-clause-of
affected-requires-clause-of g c = sym (ids-footprints (λ (r : Planned). r.plan) c.args.self.now.program.rows) ∙ ap (λ (l : List (ℕ × Footprint)). keys_of l) c.args.self.now.indexed

pub affected-requires-clause-few : goal.affected-requires-clause-few
affected-requires-clause-few g c =
    let few = few_looks (length c.args.keys.now) (length c.args.self.now.program.rows) (omega arith) (omega (arith, c.len.ensures.value)) in
    omega (arith, few, c.new-looks.ensures)
