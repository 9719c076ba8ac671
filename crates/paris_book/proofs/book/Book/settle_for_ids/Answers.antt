use Rattle.std.proofs.Common.{◌≡◌, ℕ, ◌∙◌, ap, sym, subst, arith, refl}
use Rattle.std.specs.Prelude.{Ok, Err, Result, OnOk, OnErr, IfErr, slice_get}
use Rattle.paris_events.specs.State.{State, row_ids}
use Rattle.paris_events.specs.CutOff.{IsAtRest, cut_off}
use Rattle.paris_events.specs.Settling.{all_settled, due}
use Rattle.paris_events.proofs.Rests.{off_off}
use Rattle.paris_book.specs.Rounds.{Advances, ran_of}
use Rattle.paris_book.specs.Stopped.{IsStoppedFor}
use Rattle.paris_book.specs.Wanted.{stands_on}
use Rattle.paris_book.specs.declared.settlement.SettleFault.{SettleFault}
use Rattle.paris_book.proofs.Settled.{cut_leaves}
use Rattle.paris_book.proofs.Stopping.{stopped_for}
use Rattle.paris_book.proofs.Wanting.{shown_then}
use Rattle.paris_book.proofs.book.Book.settle_for_ids.Goals as goal

when_ok : {T E : Type 0} (r : Result T E) (P Q : Type 0) → (P → Q) → OnOk r P → OnOk r Q
when_ok (Ok x) P Q f p = f p
when_ok (Err e) P Q f p = tt

when_err : {T E : Type 0} (r : Result T E) (P : Type 0) (Q : E → Type 0) → ((e : E) → r ≡ Err e → P → Q e) → OnErr r P → IfErr r Q
when_err (Ok x) P Q f p = tt
when_err (Err e) P Q f p = f e refl p

pub invariant_of-self : goal.invariant_of-self
invariant_of-self c = subst IsAtRest (sym c.cut_off.ensures) (off_off c.turn_for-ran.new.self)

pub returns-clause-count : goal.returns-clause-count
returns-clause-count c =
    let cut = (cut_leaves c.turn_for-ran.new.self).due in
    let pass = ap due c.cut_off.ensures in
    let left = c.turn_for-ran.ensures.advances.due in
    let same = ap due c.self.view_is in
    omega (arith, cut, pass, left, same)

pub returns-clause-same : goal.returns-clause-same
returns-clause-same c = ap all_settled c.cut_off.ensures ∙ (cut_leaves c.turn_for-ran.new.self).same ∙ c.turn_for-ran.ensures.advances.same ∙ ap all_settled c.self.view_is

pub returns-clause-stay : goal.returns-clause-stay
returns-clause-stay c place r at settled =
    ap (λ (z : State). slice_get z.rows place) c.cut_off.ensures
    ∙ (cut_leaves c.turn_for-ran.new.self).stay place r (c.turn_for-ran.ensures.advances.stay place r (ap (λ (z : State). slice_get z.rows place) c.self.view_is ∙ at) settled) settled

pub returns-clause-shown : goal.returns-clause-shown
returns-clause-shown c =
    let s = c.self.inside.loose in
    let found = c.in_ok-key.ensures in
    let key = c.in_ok-key.key in
    let place = c.in_ok-key.place in
    when_ok c.turn_for-ran.result _ _
    (λ state. shown_then s c.cut_off.new.self (stands_on s place key) key place refl (c.cut_off.ensures ∙ ap cut_off state) c.args.name c.args.spot
    found.key found.place found.within (ap (λ (z : State). row_ids z.rows) (sym state) ∙ c.turn_for-ran.ensures.advances.ids))
    c.turn_for-ran.ensures.state

pub returns-clause-unsettled : goal.returns-clause-unsettled
returns-clause-unsettled c place r at still =
    ap (λ (z : State). slice_get z.rows place) (sym c.self.view_is)
    ∙ c.turn_for-ran.ensures.advances.left place r ((cut_leaves c.turn_for-ran.new.self).unsettled place r (ap (λ (z : State). slice_get z.rows place) (sym c.cut_off.ensures) ∙ at) still) still

pub returns-clause-stopped : goal.returns-clause-stopped
returns-clause-stopped c =
    let s = c.self.inside.loose in
    let u = c.turn_for-ran.new.self in
    let t = c.cut_off.new.self in
    let found = c.in_ok-key.ensures in
    let key = c.in_ok-key.key in
    let place = c.in_ok-key.place in
    when_err c.turn_for-ran.result _ (λ fault. IsStoppedFor c.args.name c.args.spot fault.ran c.args.self.now t)
    (λ fault is stops. subst (λ (z : State). IsStoppedFor c.args.name c.args.spot fault.ran z t) c.self.view_is
    (stopped_for s u t fault.ran key place found.within c.self.invariant (subst (λ (r : Result ℕ SettleFault). Advances (ran_of r) s u) is c.turn_for-ran.ensures.advances) c.cut_off.ensures c.settled_are_firm.ensures c.args.name c.args.spot
    found.key found.place stops))
    c.turn_for-ran.ensures.stopped
