use Rattle.std.proofs.Common.{◌∙◌, ℕ, List, ap, length}
use Rattle.paris_field.specs.Fields.{FieldNumbers}
use Rattle.paris_router.specs.Mail.{fetched_from}
use Rattle.paris_router.proofs.Fetched.{fetched_selected, length-everywhere}
use Rattle.paris_router.proofs.gets.get.Goals as goal

pub fetched_numbers-requires-clause-addresses : goal.fetched_numbers-requires-clause-addresses
fetched_numbers-requires-clause-addresses c =
    let value = rw c.in-Ok.is at c.in_ok-list.ensures.value in
    ap length (c.deref.ensures.value ∙ value) ∙ length-everywhere _ _ ∙ c.requires.addresses

pub returns-clause-value : goal.returns-clause-value
returns-clause-value c =
    let field : List ℕ → FieldNumbers = λ l. record { width = c.args.bits; numbers = l } in
    c.in_ok-value.ensures
    ∙ ap (λ l. fetched_from c.args.bits l c.args.x.now c.args.selected.now) (c.deref.ensures.value ∙ rw c.in-Ok.is at c.in_ok-list.ensures.value)
    ∙ ap field (fetched_selected c.args.bits c.args.x.now c.args.addresses.now c.args.selected.now c.requires.addresses)
