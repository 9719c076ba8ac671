use Rattle.std.proofs.Common.{◌∙◌, ℕ, List, Option, ap, subst, sym, rules}
use Rattle.std.specs.Map.{keys_of}
use Rattle.std.specs.Option.{IsSome}
use Rattle.std.specs.Prelude.{remove}
use Rattle.paris_program.specs.Program.{CanDelete, ids_of, place_in, place_of}
use Rattle.paris_depends.specs.Index.{CanChange, Footprint}
use Rattle.paris_depends.proofs.CallerLemmas.{ids-footprints}
use Rattle.paris_tests.proofs.Indexed.{held_on, indexed_fewer, known_place}
use Rattle.paris_tests.specs.declared.depends.Planned.{Planned}
use Rattle.paris_tests.proofs.depends.Rows.delete.Goals as goal

pub own-requires-clause-of : goal.own-requires-clause-of
own-requires-clause-of g c = sym (ids-footprints (λ (r : Planned). r.plan) c.args.self.now.program.rows) ∙ ap (λ (l : List (ℕ × Footprint)). keys_of l) c.args.self.now.indexed

pub own-requires-clause-there : goal.own-requires-clause-there
own-requires-clause-there g c =
    let there : IsSome (place_of c.args.self.now.program.rows c.args.id.0) = search rules in
    subst (λ (o : Option ℕ). IsSome o) (known_place (λ (r : Planned). r.plan) c.args.self.now.program.rows c.args.self.now.index.rows c.args.self.now.indexed c.args.id.0) there

pub remove-requires-clause-of : goal.remove-requires-clause-of
remove-requires-clause-of g c =
    ap (λ (l : List (ℕ × Planned)). ids_of l) c.own_to_delete.ensures.rows
    ∙ sym (ids-footprints (λ (r : Planned). r.plan) c.args.self.now.program.rows)
    ∙ ap (λ (l : List (ℕ × Footprint)). keys_of l) (c.args.self.now.indexed ∙ sym c.own.ensures.rows)

pub remove-requires-clause-there : goal.remove-requires-clause-there
remove-requires-clause-there g c =
    let there : IsSome (place_of c.args.self.now.program.rows c.args.id.0) = search rules in
    subst (λ (o : Option ℕ). IsSome o) (known_place (λ (r : Planned). r.plan) c.args.self.now.program.rows c.own.new.self.rows (c.args.self.now.indexed ∙ sym c.own.ensures.rows) c.args.id.0) there

pub remove-requires-clause-own : goal.remove-requires-clause-own
remove-requires-clause-own g c = held_on c.own.result c.ok.result c.expect.result (CanChange c.own.new.self c.args.id.0) c.ok.ensures.value c.expect.ensures c.own.ensures.ok

pub delete-requires-clause-there : goal.delete-requires-clause-there
delete-requires-clause-there g c =
    let there : IsSome (place_of c.args.self.now.program.rows c.args.id.0) = search rules in
    subst (λ (l : List (ℕ × Planned)). IsSome (place_of l c.args.id.0)) (sym c.own_to_delete.ensures.rows) there

pub delete-requires-clause-own : goal.delete-requires-clause-own
delete-requires-clause-own g c = held_on c.own_to_delete.result c.ok-2.result c.expect-2.result (CanDelete c.own_to_delete.new.self c.args.id.0) c.ok-2.ensures.value c.expect-2.ensures c.own_to_delete.ensures.ok

pub invariant_of-self : goal.invariant_of-self
invariant_of-self g c = record {
  indexed = indexed_fewer (λ (r : Planned). r.plan) c.args.self.now.program.rows c.own.new.self.rows (c.args.self.now.indexed ∙ sym c.own.ensures.rows) c.delete.new.self.rows c.remove.new.self.rows c.args.id.0 (c.delete.ensures.rows ∙ ap (λ (l : List (ℕ × Planned)). remove l (place_in l c.args.id.0)) c.own_to_delete.ensures.rows) c.remove.ensures;
}
