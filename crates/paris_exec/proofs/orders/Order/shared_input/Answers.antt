use Rattle.std.proofs.Common.{◌∙◌, ap}
use Rattle.paris_model.specs.Instructions.{reads}
use Rattle.paris_exec.proofs.Besides.{input_found, input_there}
use Rattle.paris_exec.proofs.orders.Order.shared_input.Goals as goal

pub unreachable-requires : goal.unreachable-requires
unreachable-requires c = input_there _ _ _ _ _ c.self.view_is (c.reads.ensures ∙ ap reads c.get.ensures) c.as_slice.ensures.value c.self.invariant c.requires c.in-None.ensures

pub returns-clause-value : goal.returns-clause-value
returns-clause-value c = (input_found _ _ _ _ _ _ c.self.view_is (c.reads.ensures ∙ ap reads c.get.ensures) c.as_slice.ensures.value c.self.invariant c.requires c.in-Some.ensures).0

pub returns-clause-count : goal.returns-clause-count
returns-clause-count c = (input_found _ _ _ _ _ _ c.self.view_is (c.reads.ensures ∙ ap reads c.get.ensures) c.as_slice.ensures.value c.self.invariant c.requires c.in-Some.ensures).1
