use Rattle.std.proofs.Common.{◌<◌, ◌^◌, ◌∙◌, ℕ, List, All, ap, cond, get_or, length, subst, sym}
use Rattle.paris_model.specs.Store.{everywhere}
use Rattle.paris_field.specs.Fields.{FieldNumbers}
use Rattle.paris_field.specs.Numbers.{has}
use Rattle.paris_router.proofs.Fetched.{fetched_fit, fetched_is, length-everywhere}
use Rattle.paris_router.proofs.gets.fetched_numbers.Goals as goal

pub fetched-requires-clause-within : goal.fetched-requires-clause-within
fetched-requires-clause-within c =
    subst (λ n. All (λ r. r < n) c.args.addresses.now) (sym (ap length (c.deref.ensures.value ∙ c.in_ok-numbers.ensures.value) ∙ length-everywhere _ _)) c.requires.within

pub from_numbers-requires-clause-fit : goal.from_numbers-requires-clause-fit
from_numbers-requires-clause-fit c =
    subst (λ l. All (λ x. x < 2 ^ c.args.bits) l) (sym (c.deref-2.ensures.value ∙ c.in_ok-fetched.ensures))
    (fetched_fit c.args.bits (length c.args.addresses.now) (has c.args.selected.now) (λ v. get_or c.args.addresses.now v 0) c.deref.result.now
    (subst (λ l. All (λ x. x < 2 ^ c.args.bits) l) (sym c.deref.ensures.value) c.in_ok-numbers.ensures.fit))

pub returns : goal.returns
returns c =
    let field : List ℕ → FieldNumbers = λ l. record { width = c.args.bits; numbers = l } in
    c.in_ok-value.ensures
    ∙ ap field (c.deref-2.ensures.value ∙ c.in_ok-fetched.ensures
    ∙ ap (λ l. everywhere (length c.args.addresses.now) (λ v. cond (has c.args.selected.now v) (get_or l (get_or c.args.addresses.now v 0) 0) 0)) (c.deref.ensures.value ∙ c.in_ok-numbers.ensures.value)
    ∙ fetched_is c.args.bits c.args.x.now c.args.addresses.now c.args.selected.now c.requires.addresses c.requires.within)
