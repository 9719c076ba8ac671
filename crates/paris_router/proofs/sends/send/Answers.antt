use Rattle.std.proofs.Common.{◌≡◌, ◌∙◌, ℕ, Option, None, ap, length, subst, sym}
use Rattle.std.specs.Prelude.{IfOk}
use Rattle.paris_model.specs.Mail.{collision_at, first_cause}
use Rattle.paris_router.specs.Mail.{bad_sender_of, delivered_field, mail_in, receivers_of}
use Rattle.paris_router.proofs.Fetched.{length-everywhere}
use Rattle.paris_router.proofs.Least.{none_bad}
use Rattle.paris_router.proofs.Senders.{mail_of_selected}
use Rattle.paris_router.proofs.sends.send.Goals as goal

pub send_numbers-requires-clause-addresses : goal.send_numbers-requires-clause-addresses
send_numbers-requires-clause-addresses c =
    let value = rw c.in-Ok.is at c.in_ok-list.ensures.value in
    ap length (c.deref.ensures.value ∙ value) ∙ length-everywhere _ _ ∙ c.requires.addresses

pub returns-clause-refused : goal.returns-clause-refused
returns-clause-refused c =
    let L : ℕ = c.args.bits in
    let n : ℕ = length c.args.x.now.numbers in
    let list = c.deref.ensures.value ∙ rw c.in-Ok.is at c.in_ok-list.ensures.value in
    let mail = mail_of_selected L c.deref.result.now c.args.addresses.now c.args.x.now c.args.selected.now c.requires.addresses list in
    let bad : Option ℕ = bad_sender_of c.args.addresses.now c.args.selected.now in
    let good : bad ≡ None = none_bad bad (rw c.in-Ok.is at c.in_ok-list.ensures.refused) in
    c.in_ok-sent-2.ensures.refused
    ∙ ap (λ m. first_cause None (collision_at n m)) mail
    ∙ ap (λ b. first_cause b (collision_at n (mail_in L c.args.addresses.now c.args.x.now c.args.selected.now))) (sym good)

pub returns-clause-value : goal.returns-clause-value
returns-clause-value c =
    let L : ℕ = c.args.bits in
    let n : ℕ = length c.args.x.now.numbers in
    let list = c.deref.ensures.value ∙ rw c.in-Ok.is at c.in_ok-list.ensures.value in
    let mail = mail_of_selected L c.deref.result.now c.args.addresses.now c.args.x.now c.args.selected.now c.requires.addresses list in
    subst (λ m. IfOk c.in_ok-sent-2.sent (λ delivery. delivery.value ≡ delivered_field L n m)) mail c.in_ok-sent-2.ensures.value

pub returns-clause-receivers : goal.returns-clause-receivers
returns-clause-receivers c =
    let L : ℕ = c.args.bits in
    let n : ℕ = length c.args.x.now.numbers in
    let list = c.deref.ensures.value ∙ rw c.in-Ok.is at c.in_ok-list.ensures.value in
    let mail = mail_of_selected L c.deref.result.now c.args.addresses.now c.args.x.now c.args.selected.now c.requires.addresses list in
    subst (λ m. IfOk c.in_ok-sent-2.sent (λ delivery. delivery.receivers ≡ receivers_of n m)) mail c.in_ok-sent-2.ensures.receivers
