use Rattle.std.proofs.Common.{◌≡◌, ◌<◌, ◌^◌, ◌∙◌, ℕ, List, All, None, ap, get_or, length, replicate, subst, sym}
use Rattle.paris_model.specs.Mail.{arrivals, collision_at, first_cause}
use Rattle.paris_model.specs.Store.{everywhere}
use Rattle.paris_field.specs.Fields.{FieldNumbers}
use Rattle.paris_router.specs.Mail.{first_numbers, mail_to, receivers_of, senders}
use Rattle.paris_router.proofs.Fetched.{length-everywhere}
use Rattle.paris_router.proofs.Senders.{collision_is, delivered_fit, first_are, receivers_are}
use Rattle.paris_router.proofs.sends.send_numbers.Goals as goal

pub first_arrivals-requires-clause-numbers : goal.first_arrivals-requires-clause-numbers
first_arrivals-requires-clause-numbers c = ap length (c.deref.ensures.value ∙ c.in_ok-numbers.ensures.value) ∙ length-everywhere _ _ ∙ sym c.requires.addresses

pub returns-in-Err-clause-refused : goal.returns-in-Err-clause-refused
returns-in-Err-clause-refused c =
    let L : ℕ = c.args.bits in
    let n : ℕ = length c.args.x.now.numbers in
    let addresses : List ℕ = c.args.addresses.now in
    let x = c.args.x.now in
    let selected = c.args.selected.now in
    let numbers : List ℕ = c.deref.result.now in
    let are = c.deref.ensures.value ∙ c.in_ok-numbers.ensures.value in
    let refused = rw c.in-Err.is at c.in_ok-arrived.ensures.refused in
    refused ∙ ap (first_cause None) (ap (λ k. collision_at k (senders addresses selected)) c.requires.addresses ∙ collision_is n L addresses numbers x selected c.requires.addresses are)

pub from_numbers-requires-clause-fit : goal.from_numbers-requires-clause-fit
from_numbers-requires-clause-fit c =
    let L : ℕ = c.args.bits in
    let n : ℕ = length c.args.x.now.numbers in
    let addresses : List ℕ = c.args.addresses.now in
    let x = c.args.x.now in
    let selected = c.args.selected.now in
    let numbers : List ℕ = c.deref.result.now in
    let are = c.deref.ensures.value ∙ c.in_ok-numbers.ensures.value in
    let empty : c.in_ok-zeros.zeros.items ≡ replicate (length addresses) 0 = c.in_ok-zeros.ensures.items_if_clones_equal (λ y e. e) ∙ ap (λ k. replicate k 0) (c.len.ensures ∙ sym c.requires.addresses) in
    let arrived = rw c.in-Ok.is at c.in_ok-arrived.ensures.numbers in
    let first : c.deref-2.result.now ≡ everywhere n (λ r. get_or (arrivals (mail_to L addresses x selected) r) 0 0) = c.deref-2.ensures.value ∙ arrived 0 empty
    ∙ ap (λ k. first_numbers k numbers 0 (senders addresses selected)) c.requires.addresses
    ∙ first_are n L addresses numbers x selected c.requires.addresses are in
    subst (λ l. All (λ x. x < 2 ^ L) l) (sym first) (delivered_fit n L addresses x selected)

pub returns-clause-refused : goal.returns-clause-refused
returns-clause-refused c =
    let L : ℕ = c.args.bits in
    let n : ℕ = length c.args.x.now.numbers in
    let addresses : List ℕ = c.args.addresses.now in
    let x = c.args.x.now in
    let selected = c.args.selected.now in
    let numbers : List ℕ = c.deref.result.now in
    let are = c.deref.ensures.value ∙ c.in_ok-numbers.ensures.value in
    let refused = rw c.in-Ok.is at c.in_ok-arrived.ensures.refused in
    refused ∙ ap (first_cause None) (ap (λ k. collision_at k (senders addresses selected)) c.requires.addresses ∙ collision_is n L addresses numbers x selected c.requires.addresses are)

pub returns-clause-value : goal.returns-clause-value
returns-clause-value c =
    let L : ℕ = c.args.bits in
    let n : ℕ = length c.args.x.now.numbers in
    let addresses : List ℕ = c.args.addresses.now in
    let x = c.args.x.now in
    let selected = c.args.selected.now in
    let numbers : List ℕ = c.deref.result.now in
    let are = c.deref.ensures.value ∙ c.in_ok-numbers.ensures.value in
    let empty : c.in_ok-zeros.zeros.items ≡ replicate (length addresses) 0 = c.in_ok-zeros.ensures.items_if_clones_equal (λ y e. e) ∙ ap (λ k. replicate k 0) (c.len.ensures ∙ sym c.requires.addresses) in
    let arrived = rw c.in-Ok.is at c.in_ok-arrived.ensures.numbers in
    let first : c.deref-2.result.now ≡ everywhere n (λ r. get_or (arrivals (mail_to L addresses x selected) r) 0 0) = c.deref-2.ensures.value ∙ arrived 0 empty
    ∙ ap (λ k. first_numbers k numbers 0 (senders addresses selected)) c.requires.addresses
    ∙ first_are n L addresses numbers x selected c.requires.addresses are in
    let field : List ℕ → FieldNumbers = λ l. record { width = L; numbers = l } in
    c.in_ok-value.ensures ∙ ap field first

pub returns-clause-receivers : goal.returns-clause-receivers
returns-clause-receivers c =
    let L : ℕ = c.args.bits in
    let n : ℕ = length c.args.x.now.numbers in
    let addresses : List ℕ = c.args.addresses.now in
    let x = c.args.x.now in
    let selected = c.args.selected.now in
    let numbers : List ℕ = c.deref.result.now in
    let are = c.deref.ensures.value ∙ c.in_ok-numbers.ensures.value in
    let receivers = rw c.in-Ok.is at c.in_ok-arrived.ensures.receivers in
    c.from_plane-receivers.ensures ∙ receivers ∙ ap (λ k. receivers_of k (senders addresses selected)) c.requires.addresses ∙ receivers_are n L addresses numbers x selected c.requires.addresses are
