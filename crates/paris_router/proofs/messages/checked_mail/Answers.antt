use Rattle.std.proofs.Common.{◌≡◌, ◌<◌, ◌^◌, ◌∙◌, ℕ, All, ap, arith, get_or, length, subst, sym}
use Rattle.paris_model.specs.Mail.{messages}
use Rattle.paris_field.specs.Fields.{operand}
use Rattle.paris_field.specs.Numbers.{has}
use Rattle.paris_router.proofs.Fetched.{address_at, get_or-everywhere, length-everywhere, small}
use Rattle.paris_router.proofs.Sent.{messages_all, same_messages}
use Rattle.paris_router.proofs.messages.checked_mail.Goals as goal

pub messages-requires-clause-selected : goal.messages-requires-clause-selected
messages-requires-clause-selected c =
    let value = rw c.in-Ok.is at c.in_ok-list.ensures.value in
    c.requires.selected ∙ sym (ap length (c.deref.ensures.value ∙ value) ∙ length-everywhere _ _ ∙ c.requires.addresses)

pub returns-clause-value : goal.returns-clause-value
returns-clause-value c =
    let value = rw c.in-Ok.is at c.in_ok-list.ensures.value in
    let list = c.deref.ensures.value ∙ value in
    let numbers = c.deref-2.ensures.value ∙ c.in_ok-numbers.ensures.value in
    let n : ℕ = length c.args.x.now.numbers in
    let count : length c.deref.result.now ≡ n = ap length list ∙ length-everywhere _ _ ∙ c.requires.addresses in
    c.in_ok-mail.ensures
    ∙ ap (λ k. messages k (has c.args.selected.now) (λ p. get_or c.deref.result.now p 0) (λ p. get_or c.deref-2.result.now p 0)) count
    ∙ same_messages n (has c.args.selected.now)
    (λ p. get_or c.deref.result.now p 0) (λ p. get_or c.args.addresses.now.numbers p 0)
    (λ p. get_or c.deref-2.result.now p 0) (operand c.args.bits c.args.x.now)
    (λ p h does. ap (λ l. get_or l p 0) list ∙ address_at c.args.addresses.now c.args.selected.now p (omega (arith, h, c.requires.addresses)) does)
    (λ p h. ap (λ l. get_or l p 0) numbers ∙ get_or-everywhere n (operand c.args.bits c.args.x.now) p h)

pub returns-clause-within : goal.returns-clause-within
returns-clause-within c =
    let n : ℕ = length c.args.x.now.numbers in
    let within = rw c.in-Ok.is at c.in_ok-list.ensures.within in
    subst (λ l. All (λ (m : ℕ × ℕ). m.0 < n) l) (sym c.in_ok-mail.ensures)
    (messages_all (λ (m : ℕ × ℕ). m.0 < n) (length c.deref.result.now) (has c.args.selected.now) (λ p. get_or c.deref.result.now p 0) (λ p. get_or c.deref-2.result.now p 0) (λ p h.
    omega (arith, ap (λ l. get_or l p 0) c.deref.ensures.value, within p 0 (omega (arith, h, ap length c.deref.ensures.value)), c.requires.addresses)))

pub returns-clause-fit : goal.returns-clause-fit
returns-clause-fit c =
    subst (λ l. All (λ (m : ℕ × ℕ). m.1 < 2 ^ c.args.bits) l) (sym c.in_ok-mail.ensures)
    (messages_all (λ (m : ℕ × ℕ). m.1 < 2 ^ c.args.bits) (length c.deref.result.now) (has c.args.selected.now) (λ p. get_or c.deref.result.now p 0) (λ p. get_or c.deref-2.result.now p 0) (λ p h.
    small c.args.bits c.deref-2.result.now p (subst (λ l. All (λ x. x < 2 ^ c.args.bits) l) (sym c.deref-2.ensures.value) c.in_ok-numbers.ensures.fit)))
