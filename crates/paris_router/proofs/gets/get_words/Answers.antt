use Rattle.std.proofs.Common.{◌≡◌, ℕ, ◌∙◌, Bool, List, None, ap, arith, cond, false, get_or, length, replicate, subst, sym}
use Rattle.std.proofs.lemmas.List.{length-replicate}
use Rattle.paris_model.specs.Mail.{first_cause}
use Rattle.paris_model.specs.Store.{low}
use Rattle.paris_plane.proofs.Bits.{written}
use Rattle.paris_field.specs.Fields.{operand}
use Rattle.paris_field.specs.Numbers.{AllOf, has, number_at, value_of_planes}
use Rattle.paris_field.proofs.Places.{field_is}
use Rattle.paris_field.proofs.Values.{all_replicated}
use Rattle.paris_router.proofs.Fetched.{length-everywhere, put_at}
use Rattle.paris_router.proofs.Least.{same_bad_sender}
use Rattle.paris_router.proofs.gets.get_words.Goals as goal

pub fetch_all-requires-clause-selected : goal.fetch_all-requires-clause-selected
fetch_all-requires-clause-selected c =
    c.requires.selected ∙ sym (ap length (c.deref.ensures.value ∙ c.in_ok-words.ensures.value) ∙ length-everywhere _ _)

pub fetch_all-requires-clause-addresses : goal.fetch_all-requires-clause-addresses
fetch_all-requires-clause-addresses c = λ k h.
    c.planes.ensures.long k h ∙ c.requires.addresses
    ∙ sym (ap length (c.deref.ensures.value ∙ c.in_ok-words.ensures.value) ∙ length-everywhere _ _)

pub fetch_all-requires-clause-values : goal.fetch_all-requires-clause-values
fetch_all-requires-clause-values c =
    let n : ℕ = c.len-vps.result in
    let count : n ≡ length c.deref.result.now = c.len-vps.ensures ∙ sym (ap length (c.deref.ensures.value ∙ c.in_ok-words.ensures.value) ∙ length-everywhere _ _) in
    let all : AllOf n c.deref_mut.result.now = subst (AllOf n) (sym (c.deref_mut.ensures.value ∙ c.in_ok-planes.ensures)) (all_replicated n c.args.bits) in
    λ k h. all k h ∙ count

pub overflow_cast-result : goal.overflow_cast-result
overflow_cast-result c =
    let count : length c.deref.result.now ≡ length c.args.x.now.numbers = ap length (c.deref.ensures.value ∙ c.in_ok-words.ensures.value) ∙ length-everywhere _ _ in
    omega (arith, c.in-Some.ensures.inside, count, c.requires.few)

pub returns-in-Some-clause-refused : goal.returns-in-Some-clause-refused
returns-in-Some-clause-refused c =
    let count : length c.deref.result.now ≡ length c.args.addresses.now.numbers = ap length (c.deref.ensures.value ∙ c.in_ok-words.ensures.value) ∙ length-everywhere _ _ ∙ sym c.requires.addresses in
    ap (λ o. first_cause o None)
    (sym c.in-Some.is ∙ c.fetch_all.ensures.bad
    ∙ same_bad_sender (length c.deref.result.now) (length c.args.addresses.now.numbers) (has c.args.selected.now) (number_at c.planes.result.now) (λ v. get_or c.args.addresses.now.numbers v 0) count c.planes.ensures.at)

pub from_planes-requires-clause-long : goal.from_planes-requires-clause-long
from_planes-requires-clause-long c =
    let ps : List (List Bool) = c.fetch_all.new.values in
    let count : length c.deref.result.now ≡ c.len-vps.result = ap length (c.deref.ensures.value ∙ c.in_ok-words.ensures.value) ∙ length-everywhere _ _ ∙ sym c.len-vps.ensures in
    subst (AllOf c.len-vps.result) (sym (written _ ps _ (c.fetch_all.auto.values ∙ c.deref_mut.ensures.len))) (λ k h. c.fetch_all.ensures.long k h ∙ count)

pub returns-clause-refused : goal.returns-clause-refused
returns-clause-refused c =
    let count : length c.deref.result.now ≡ length c.args.addresses.now.numbers = ap length (c.deref.ensures.value ∙ c.in_ok-words.ensures.value) ∙ length-everywhere _ _ ∙ sym c.requires.addresses in
    ap (λ o. first_cause o None)
    (sym c.in-None.is ∙ c.fetch_all.ensures.bad
    ∙ same_bad_sender (length c.deref.result.now) (length c.args.addresses.now.numbers) (has c.args.selected.now) (number_at c.planes.result.now) (λ v. get_or c.args.addresses.now.numbers v 0) count c.planes.ensures.at)

pub returns-clause-value : goal.returns-clause-value
returns-clause-value c =
    let n : ℕ = length c.args.x.now.numbers in
    let L : ℕ = c.args.bits in
    let ps : List (List Bool) = c.fetch_all.new.values in
    let words : List ℕ = c.deref.result.now in
    let sel : ℕ → Bool = has c.args.selected.now in
    let width : length c.deref_mut.result.now ≡ L = ap length (c.deref_mut.ensures.value ∙ c.in_ok-planes.ensures) ∙ length-replicate L (replicate c.len-vps.result false) in
    let many : length words ≡ n = ap length (c.deref.ensures.value ∙ c.in_ok-words.ensures.value) ∙ length-everywhere _ _ in
    c.in_ok-value-in-None.ensures
    ∙ ap (value_of_planes c.len-vps.result) (written _ ps _ (c.fetch_all.auto.values ∙ c.deref_mut.ensures.len))
    ∙ ap (λ m. value_of_planes m ps) c.len-vps.ensures
    ∙ field_is n L ps (λ v. cond (sel v) (operand L c.args.x.now (get_or c.args.addresses.now.numbers v 0)) 0) (c.fetch_all.auto.values ∙ width) (λ v h.
    c.fetch_all.ensures.values c.in-None.is v (omega (arith, h, many))
    ∙ ap (λ w. low w (cond (sel v) (get_or words (number_at c.planes.result.now v) 0) 0)) width
    ∙ put_at L (sel v) c.args.x.now words (number_at c.planes.result.now v) (get_or c.args.addresses.now.numbers v 0) (c.deref.ensures.value ∙ c.in_ok-words.ensures.value) (c.planes.ensures.at v (omega (arith, h, c.requires.addresses))))
