use Rattle.std.proofs.Common.{◌≡◌, ◌∙◌, ap, length, true}
use Rattle.paris_names.specs.Keys.{has_key}
use Rattle.paris_model.specs.Instructions.{writes}
use Rattle.paris_geometry.specs.Geometry.{processor_count}
use Rattle.paris_exec.specs.Tasks.{Task, task_value}
use Rattle.paris_exec.proofs.Besides.{value_found, value_there, value_refused}
use Rattle.paris_exec.proofs.orders.Executed.shared_value.Goals as goal
use Rattle.paris_exec.proofs.orders.Executed.shared_value.Goals.{In-Some}

found : (c : In-Some) → (c.in-Some.value.now ≡ task_value c.self.inside.task c.args.key.now) × (length c.in-Some.value.now.numbers ≡ processor_count c.self.inside.task.plan.axes)
found c =
    let written : has_key (writes c.self.inside.task.plan) c.args.key.now ≡ true = rw c.self.view_is c.requires in
    value_found c.self.inside.task _ _ _ _ _ _ c.self.invariant c.in-Values.is c.as_slice.ensures (c.writes.ensures ∙ ap writes c.plan.ensures) written c.in-Some.ensures

pub unreachable-requires : goal.unreachable-requires
unreachable-requires c =
    let written : has_key (writes c.self.inside.task.plan) c.args.key.now ≡ true = rw c.self.view_is c.requires in
    value_there c.self.inside.task _ _ _ _ _ c.self.invariant c.in-Values.is c.as_slice.ensures (c.writes.ensures ∙ ap writes c.plan.ensures) written c.in-None.ensures

pub shared_input-requires : goal.shared_input-requires
shared_input-requires c =
    let written : has_key (writes c.self.inside.task.plan) c.args.key.now ≡ true = rw c.self.view_is c.requires in
    (value_refused c.self.inside.task _ _ _ c.self.invariant c.in-Refused.is written).0

pub returns-in-Some-clause-value : goal.returns-in-Some-clause-value
returns-in-Some-clause-value c = (found c).0 ∙ ap (λ (t : Task). task_value t c.args.key.now) c.self.view_is

pub returns-in-Some-clause-count : goal.returns-in-Some-clause-count
returns-in-Some-clause-count c = (found c).1 ∙ ap (λ (t : Task). processor_count t.plan.axes) c.self.view_is
