use Rattle.std.proofs.Common.{◌∙◌, ◌∷◌, ◌++◌, [], ℕ, ap, sym, get_or}
use Rattle.paris_field.specs.Numbers.{has}
use Rattle.paris_router.proofs.Sent.{sent, silent}
use Rattle.paris_router.proofs.messages.messages.Goals as goal
use Rattle.paris_router.proofs.messages.messages.Goals.{then-get+in_ok-push, else-get}

pub loop-p-preserved : goal.loop-p-preserved
loop-p-preserved c =
    let p : ℕ = c.loop-p.p in
    let selected = has c.args.selected.now in
    let address = λ (q : ℕ). get_or c.args.addresses.now q 0 in
    let value = λ (q : ℕ). get_or c.args.numbers.now q 0 in
    elim c.if-get.branch [
      | then-get+in_ok-push w ↦
          ap (λ v. v.items) w.mail-is ∙ w.in_ok-push.ensures.items
          ∙ ap (λ l. l ++ (address p, value p) ∷ []) c.loop-p.invariant
          ∙ sym (sent p selected address value (sym c.get.ensures ∙ w.if-get.true))
      | else-get w ↦
          ap (λ v. v.items) w.mail-is ∙ c.loop-p.invariant
          ∙ sym (silent p selected address value (sym c.get.ensures ∙ w.if-get.false))
    ]
