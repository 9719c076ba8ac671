use Rattle.std.proofs.Common.{◌≡◌, ◌<◌, ◌∙◌, ℕ, List, All, ap, get_or, length, subst, sym}
use Rattle.paris_model.specs.Combine.{combined}
use Rattle.paris_model.specs.Mail.{arrivals}
use Rattle.paris_model.specs.Store.{everywhere}
use Rattle.paris_field.specs.Fields.{FieldNumbers, operand}
use Rattle.paris_field.proofs.Places.{everywhere_same}
use Rattle.paris_plane.proofs.Bits.{written}
use Rattle.paris_router.specs.Mail.{mail_in}
use Rattle.paris_router.proofs.Fetched.{get_or-everywhere, length-everywhere}
use Rattle.paris_combine.proofs.sends.combined_numbers.Goals as goal

pub combine_in-requires-clause-within : goal.combine_in-requires-clause-within
combine_in-requires-clause-within c =
    let within = rw c.in-Ok.is at c.in_ok-mail.ensures.within in
    let count : length c.deref_mut.result.now ≡ length c.args.x.now.numbers = ap length (c.deref_mut.ensures.value ∙ c.in_ok-values.ensures.value) ∙ length-everywhere _ _ ∙ c.requires.old in
    subst (λ l. All (λ (m : ℕ × ℕ). m.0 < length c.deref_mut.result.now) l) (sym c.deref-2.ensures.value)
    (subst (λ n. All (λ (m : ℕ × ℕ). m.0 < n) c.in-Ok.mail.items) (sym count) within)

pub returns-clause-value : goal.returns-clause-value
returns-clause-value c =
    let field : List ℕ → FieldNumbers = λ l. record { width = c.args.bits; numbers = l } in
    let n : ℕ = length c.args.old.now.numbers in
    let own = operand c.args.bits c.args.old.now in
    let mail : List (ℕ × ℕ) = mail_in c.args.bits c.args.addresses.now c.args.x.now c.args.selected.now in
    let is : c.deref-2.result.now ≡ mail = c.deref-2.ensures.value ∙ rw c.in-Ok.is at c.in_ok-mail.ensures.value in
    let held : c.deref_mut.result.now ≡ everywhere n own = c.deref_mut.ensures.value ∙ c.in_ok-values.ensures.value in
    let total = combined c.args.operator c.args.bits in
    c.in_ok-value.ensures
    ∙ ap field (c.deref-3.ensures.value ∙ written _ c.combine_in.new.values _ (c.combine_in.auto.values ∙ c.deref_mut.ensures.len) ∙ c.combine_in.ensures.value
    ∙ ap (λ l. everywhere (length l) (λ r. total (get_or l r 0) (arrivals c.deref-2.result.now r))) held
    ∙ ap (λ m. everywhere (length (everywhere n own)) (λ r. total (get_or (everywhere n own) r 0) (arrivals m r))) is
    ∙ ap (λ k. everywhere k (λ r. total (get_or (everywhere n own) r 0) (arrivals mail r))) (length-everywhere n own)
    ∙ everywhere_same n (λ r. total (get_or (everywhere n own) r 0) (arrivals mail r)) (λ r. total (own r) (arrivals mail r)) (λ r h.
    ap (λ v. total v (arrivals mail r)) (get_or-everywhere n own r h)))
