use Rattle.std.proofs.Common.{◌≡◌, ◌∙◌, ℕ, List, Some, None, ap, arith, length, replicate, sym}
use Rattle.std.specs.Prelude.{nat_lt}
use Rattle.paris_model.specs.Mail.{arrivals, collision_at, first_cause}
use Rattle.paris_field.proofs.Places.{length-bits_everywhere}
use Rattle.paris_plane.proofs.Bits.{written}
use Rattle.paris_router.specs.Mail.{first_numbers, senders}
use Rattle.paris_router.proofs.Least.{least_one}
use Rattle.paris_router.proofs.sends.first_arrivals.Goals as goal

pub overflow_cast-result : goal.overflow_cast-result
overflow_cast-result g c =
    let count = ap length c.deref_mut.ensures.value ∙ c.requires.zeros in
    let crowded = ap length c.deliver.ensures.crowded ∙ length-bits_everywhere _ _ ∙ count in
    omega (arith, c.in-Some.ensures.within, crowded, c.requires.few)

pub returns-in-Some-clause-refused : goal.returns-in-Some-clause-refused
returns-in-Some-clause-refused g c =
    let mail : List (ℕ × ℕ) = senders c.args.addresses.now c.args.selected.now in
    let count = ap length c.deref_mut.ensures.value ∙ c.requires.zeros in
    let met : Some c.in-Some.r ≡ collision_at (length c.args.addresses.now) mail = c.in-Some.ensures.value
    ∙ least_one (length c.deref_mut.result.now) (λ r. nat_lt 1 (length (arrivals mail r))) c.deliver.new.crowded c.deliver.ensures.crowded
    ∙ ap (λ k. collision_at k mail) count in
    ap (first_cause None) met

pub returns-in-None-clause-refused : goal.returns-in-None-clause-refused
returns-in-None-clause-refused g c =
    let mail : List (ℕ × ℕ) = senders c.args.addresses.now c.args.selected.now in
    let count = ap length c.deref_mut.ensures.value ∙ c.requires.zeros in
    let met : None ≡ collision_at (length c.args.addresses.now) mail = c.in-None.ensures.value
    ∙ least_one (length c.deref_mut.result.now) (λ r. nat_lt 1 (length (arrivals mail r))) c.deliver.new.crowded c.deliver.ensures.crowded
    ∙ ap (λ k. collision_at k mail) count in
    ap (first_cause None) met

pub returns-in-None-clause-numbers : goal.returns-in-None-clause-numbers
returns-in-None-clause-numbers g c =
    λ zero empty.
    let mail : List (ℕ × ℕ) = senders c.args.addresses.now c.args.selected.now in
    let count = ap length c.deref_mut.ensures.value ∙ c.requires.zeros in
    written _ c.deliver.new.values _ (c.deliver.auto.values ∙ c.deref_mut.ensures.len)
    ∙ c.deliver.ensures.values zero (c.deref_mut.ensures.value ∙ empty ∙ ap (λ k. replicate k zero) (sym count))
    ∙ ap (λ k. first_numbers k c.args.numbers.now zero mail) count
