use Rattle.std.proofs.Common.{◌≡◌, ap, ◌∙◌, sym, subst}
use Rattle.std.specs.Prelude.{Some}
use Rattle.paris_book.specs.declared.rounds.Slot.{Slot}
use Rattle.paris_book.specs.Rounds.{Advances, HoldsTask, HoldsOrder, HoldOrders}
use Rattle.paris_book.specs.Steps.{turn_order}
use Rattle.paris_book.proofs.Advancing.{cut_advances}
use Rattle.paris_book.proofs.Slots.{orders_stay, orders_with}
use Rattle.paris_book.proofs.Turns.{turn_some, task_holds}
use Rattle.paris_book.proofs.loose.Loose.order_or_settle.Goals as goal

pub returns-in_default-clause-advances : goal.returns-in_default-clause-advances
returns-in_default-clause-advances c = subst (Advances 0 c.args.self.now) (sym c.in_ok-order.ensures.state) (cut_advances c.args.self.now c.args.place)

pub returns-in_default-clause-slots : goal.returns-in_default-clause-slots
returns-in_default-clause-slots c =
    orders_stay 0 c.args.self.now c.order_or_cut.new.self c.args.slots.now.items
    (subst (Advances 0 c.args.self.now) (sym c.in_ok-order.ensures.state) (cut_advances c.args.self.now c.args.place)) c.requires

pub returns-in_err-push-clause-advances : goal.returns-in_err-push-clause-advances
returns-in_err-push-clause-advances c = subst (Advances 0 c.args.self.now) (sym c.in_ok-order.ensures.state) (cut_advances c.args.self.now c.args.place)

pub returns-in_ok-push-clause-advances : goal.returns-in_ok-push-clause-advances
returns-in_ok-push-clause-advances c = subst (Advances 0 c.args.self.now) (sym c.in_ok-order.ensures.state) (cut_advances c.args.self.now c.args.place)

pub returns-in_ok-push-clause-slots : goal.returns-in_ok-push-clause-slots
returns-in_ok-push-clause-slots c =
    let s = c.args.self.now in
    let own : turn_order s c.args.place ≡ Some c.in-Some.order = sym c.in_ok-order.ensures.order ∙ c.in-Some.is in
    let turn = turn_some s c.args.place c.in-Some.order own in
    let same : c.order_or_cut.new.self ≡ s = c.in_ok-order.ensures.state ∙ turn.2 in
    let slot : Slot = c.new.result in
    let here : HoldsOrder s slot = λ t order.
    let is : Some c.in-Some.order ≡ Some t = sym (ap (λ (x : Slot). x.order) c.new.ensures) ∙ order in
    subst (λ p. HoldsTask s p t) (sym (ap (λ (x : Slot). x.place) c.new.ensures)) (task_holds s c.args.place t turn.3 (turn.1 ∙ is)) in
    subst (λ z. HoldOrders z c.push.new.self.items) (sym same)
    (subst (HoldOrders s) (sym c.in_ok-push.ensures.items) (orders_with s c.args.slots.now.items slot c.requires here))
