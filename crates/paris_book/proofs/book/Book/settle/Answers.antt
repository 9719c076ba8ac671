use Rattle.std.proofs.Common.{arith, sym, ap, ◌∙◌, subst}
use Rattle.paris_events.specs.Orders.{IsIdle, after_release}
use Rattle.paris_events.specs.State.{State}
use Rattle.paris_events.specs.CutOff.{IsAtRest}
use Rattle.paris_events.specs.Settling.{due}
use Rattle.paris_events.proofs.Ends.{idle_recalled}
use Rattle.paris_book.proofs.Endings.{all_rest, all_count, all_are_settled, all_ran, end_rests, end_ran, end_stopped}
use Rattle.paris_book.proofs.Settled.{released}
use Rattle.paris_book.proofs.book.Book.settle.Goals as goal

pub run_in_order-requires : goal.run_in_order-requires
run_in_order-requires c = subst (λ (s : State). IsIdle s.rows) (sym c.release.ensures) (idle_recalled c.self.inside.loose.rows)

pub invariant_of-self : goal.invariant_of-self
invariant_of-self c = all_rest c.args.self.now c.release.new.self c.run_in_order.new.self c.in-Ok.ran (subst IsAtRest c.self.view_is c.self.invariant) (c.release.ensures ∙ ap after_release c.self.view_is) c.in-Ok.ensures.advances c.in-Ok.ensures.settled

pub invariant_of-self-in-Err : goal.invariant_of-self-in-Err
invariant_of-self-in-Err c = end_rests c.args.self.now c.release.new.self c.run_in_order.new.self c.in-Err.fault.ran (subst IsAtRest c.self.view_is c.self.invariant) (c.release.ensures ∙ ap after_release c.self.view_is) c.in-Err.ensures.advances c.cut_off.new.self c.cut_off.ensures

pub returns-in-Ok-clause-count : goal.returns-in-Ok-clause-count
returns-in-Ok-clause-count c = all_count c.args.self.now c.release.new.self c.run_in_order.new.self c.in-Ok.ran (subst IsAtRest c.self.view_is c.self.invariant) (c.release.ensures ∙ ap after_release c.self.view_is) c.in-Ok.ensures.advances c.in-Ok.ensures.settled

pub returns-in-Ok-clause-settled : goal.returns-in-Ok-clause-settled
returns-in-Ok-clause-settled c = all_are_settled c.args.self.now c.release.new.self c.run_in_order.new.self c.in-Ok.ran (subst IsAtRest c.self.view_is c.self.invariant) (c.release.ensures ∙ ap after_release c.self.view_is) c.in-Ok.ensures.advances c.in-Ok.ensures.settled

pub returns-in-Ok-clause-ran : goal.returns-in-Ok-clause-ran
returns-in-Ok-clause-ran c = all_ran c.args.self.now c.release.new.self c.run_in_order.new.self c.in-Ok.ran (subst IsAtRest c.self.view_is c.self.invariant) (c.release.ensures ∙ ap after_release c.self.view_is) c.in-Ok.ensures.advances c.in-Ok.ensures.settled c.in-Ok.ensures.state

pub returns-in-Err-clause-ran : goal.returns-in-Err-clause-ran
returns-in-Err-clause-ran c = end_ran c.args.self.now c.release.new.self c.run_in_order.new.self c.in-Err.fault.ran (subst IsAtRest c.self.view_is c.self.invariant) (c.release.ensures ∙ ap after_release c.self.view_is) c.in-Err.ensures.advances c.cut_off.new.self c.cut_off.ensures c.in-Err.ensures.state

pub returns-in-Err-clause-stopped : goal.returns-in-Err-clause-stopped
returns-in-Err-clause-stopped c =
    let fewer = c.in-Err.ensures.fewer in
    let same = ap due c.release.ensures ∙ (released c.self.inside.loose c.self.invariant).due ∙ ap due c.self.view_is in
    end_stopped c.args.self.now c.release.new.self c.run_in_order.new.self c.in-Err.fault.ran (subst IsAtRest c.self.view_is c.self.invariant) (c.release.ensures ∙ ap after_release c.self.view_is) c.in-Err.ensures.advances c.cut_off.new.self c.cut_off.ensures (omega (arith, fewer, same))
