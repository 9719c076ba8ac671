-- What arrives in each processor, by who sends it.
use Rattle.std.proofs.Common.{◌≡◌, ℕ, ◌<◌, ◌^◌, All, Bool, true, false, List, [], ◌∷◌, length, get_or, map, cond, refl, sym, ap, ◌∙◌, arith}
use Rattle.std.specs.Prelude.{◌==◌, filter, nat_lt}
use Rattle.std.proofs.lemmas.List.{length-map}
use Rattle.std.proofs.lemmas.Nat.{mod_below}
use lib.Pow.{pow_pos}
use Rattle.paris_geometry.specs.Geometry.{numbers_below}
use Rattle.paris_model.specs.Mail.{arrivals, collision_at, messages}
use Rattle.paris_model.specs.Store.{everywhere}
use Rattle.paris_field.specs.Fields.{FieldNumbers, operand}
use Rattle.paris_field.specs.Numbers.{has}
use Rattle.paris_field.proofs.Places.{bits_same, everywhere_same}
use Rattle.paris_router.specs.Mail.{first_numbers, mail_in, mail_to, number_of_first, receivers_of, selected_addresses, senders}
use Rattle.paris_router.proofs.Fetched.{address_at, everywhere_all, get_or-everywhere, small}
use Rattle.paris_router.proofs.Least.{find_same}
use Rattle.paris_router.proofs.Sent.{agreeing_messages, arrivals_fit, messages_all, same_messages}

arrives_first : (message : ℕ × ℕ) (mail : List (ℕ × ℕ)) (r : ℕ) → arrivals (message ∷ mail) r ≡ cond (message.0 == r) (message.1 ∷ arrivals mail r) (arrivals mail r)
arrives_first message mail r = go (message.0 == r) refl
  where
    go : (b : Bool) → (message.0 == r) ≡ b → arrivals (message ∷ mail) r ≡ cond (message.0 == r) (message.1 ∷ arrivals mail r) (arrivals mail r)
    go true e = simp e
    go false e = simp e

map_cond : (b : Bool) (f : ℕ → ℕ) (xs ys : List ℕ) → cond b (map f xs) (map f ys) ≡ map f (cond b xs ys)
map_cond true f xs ys = refl
map_cond false f xs ys = refl

-- what arrives of some senders is what each of them sends
those_of : (ps : List ℕ) (address value : ℕ → ℕ) (r : ℕ) → arrivals (map (λ p. (address p, value p)) ps) r ≡ map value (arrivals (map (λ p. (address p, p)) ps) r)
those_of [] address value r = refl
those_of (p ∷ ps) address value r =
    let from : List ℕ = arrivals (map (λ p. (address p, p)) ps) r in
    arrives_first (address p, value p) (map (λ p. (address p, value p)) ps) r
    ∙ ap (λ l. cond (address p == r) (value p ∷ l) l) (those_of ps address value r)
    ∙ map_cond (address p == r) value (p ∷ from) from
    ∙ ap (map value) (sym (arrives_first (address p, p) (map (λ p. (address p, p)) ps) r))

pub arrivals_from : (n : ℕ) (selected : ℕ → Bool) (address value : ℕ → ℕ) (r : ℕ) → arrivals (messages n selected address value) r ≡ map value (arrivals (messages n selected address (λ p. p)) r)
arrivals_from n selected address value r = those_of (filter selected (numbers_below n)) address value r

-- messages with numbers that are the low bits of a field
pub mail_is : (L : ℕ) (addresses numbers : List ℕ) (x : FieldNumbers) (selected : List Bool) → length addresses ≡ length x.numbers → numbers ≡ everywhere (length x.numbers) (operand L x)
    → messages (length addresses) (has selected) (λ p. get_or addresses p 0) (λ p. get_or numbers p 0) ≡ mail_to L addresses x selected
mail_is L addresses numbers x selected count is =
    ap (λ n. messages n (has selected) (λ p. get_or addresses p 0) (λ p. get_or numbers p 0)) count
    ∙ same_messages (length x.numbers) (has selected) (λ p. get_or addresses p 0) (λ p. get_or addresses p 0) (λ p. get_or numbers p 0) (operand L x) (λ p h does. refl) (λ p h.
    ap (λ l. get_or l p 0) is ∙ get_or-everywhere (length x.numbers) (operand L x) p h)

arrivals_are : (L : ℕ) (addresses numbers : List ℕ) (x : FieldNumbers) (selected : List Bool) → length addresses ≡ length x.numbers → numbers ≡ everywhere (length x.numbers) (operand L x)
    → (r : ℕ) → map (λ p. get_or numbers p 0) (arrivals (senders addresses selected) r) ≡ arrivals (mail_to L addresses x selected) r
arrivals_are L addresses numbers x selected count is r =
    sym (arrivals_from (length addresses) (has selected) (λ p. get_or addresses p 0) (λ p. get_or numbers p 0) r)
    ∙ ap (λ mail. arrivals mail r) (mail_is L addresses numbers x selected count is)

as_many : (L : ℕ) (addresses numbers : List ℕ) (x : FieldNumbers) (selected : List Bool) → length addresses ≡ length x.numbers → numbers ≡ everywhere (length x.numbers) (operand L x)
    → (r : ℕ) → length (arrivals (senders addresses selected) r) ≡ length (arrivals (mail_to L addresses x selected) r)
as_many L addresses numbers x selected count is r =
    sym (length-map (arrivals (senders addresses selected) r) (λ p. get_or numbers p 0))
    ∙ ap length (arrivals_are L addresses numbers x selected count is r)

pub receivers_are : (n L : ℕ) (addresses numbers : List ℕ) (x : FieldNumbers) (selected : List Bool) → length addresses ≡ length x.numbers → numbers ≡ everywhere (length x.numbers) (operand L x)
    → receivers_of n (senders addresses selected) ≡ receivers_of n (mail_to L addresses x selected)
receivers_are n L addresses numbers x selected count is =
    bits_same n (λ r. nat_lt 0 (length (arrivals (senders addresses selected) r))) (λ r. nat_lt 0 (length (arrivals (mail_to L addresses x selected) r))) (λ r h.
    ap (nat_lt 0) (as_many L addresses numbers x selected count is r))

pub collision_is : (n L : ℕ) (addresses numbers : List ℕ) (x : FieldNumbers) (selected : List Bool) → length addresses ≡ length x.numbers → numbers ≡ everywhere (length x.numbers) (operand L x)
    → collision_at n (senders addresses selected) ≡ collision_at n (mail_to L addresses x selected)
collision_is n L addresses numbers x selected count is =
    find_same (λ r. nat_lt 1 (length (arrivals (senders addresses selected) r))) (λ r. nat_lt 1 (length (arrivals (mail_to L addresses x selected) r))) (numbers_below n) (λ r.
    ap (nat_lt 1) (as_many L addresses numbers x selected count is r))

first_is : (numbers ps : List ℕ) → number_of_first numbers 0 ps ≡ get_or (map (λ p. get_or numbers p 0) ps) 0 0
first_is numbers [] = refl
first_is numbers (p ∷ ps) = refl

pub first_are : (n L : ℕ) (addresses numbers : List ℕ) (x : FieldNumbers) (selected : List Bool) → length addresses ≡ length x.numbers → numbers ≡ everywhere (length x.numbers) (operand L x)
    → first_numbers n numbers 0 (senders addresses selected) ≡ everywhere n (λ r. get_or (arrivals (mail_to L addresses x selected) r) 0 0)
first_are n L addresses numbers x selected count is =
    everywhere_same n (λ r. number_of_first numbers 0 (arrivals (senders addresses selected) r)) (λ r. get_or (arrivals (mail_to L addresses x selected) r) 0 0) (λ r h.
    first_is numbers (arrivals (senders addresses selected) r) ∙ ap (λ l. get_or l 0 0) (arrivals_are L addresses numbers x selected count is r))

pub delivered_fit : (n L : ℕ) (addresses : List ℕ) (x : FieldNumbers) (selected : List Bool) → All (λ y. y < 2 ^ L) (everywhere n (λ r. get_or (arrivals (mail_to L addresses x selected) r) 0 0))
delivered_fit n L addresses x selected =
    let mail : List (ℕ × ℕ) = mail_to L addresses x selected in
    let fit : All (λ (m : ℕ × ℕ). m.1 < 2 ^ L) mail = messages_all (λ (m : ℕ × ℕ). m.1 < 2 ^ L) (length x.numbers) (has selected) (λ p. get_or addresses p 0) (operand L x) (λ p h. mod_below (get_or x.numbers p 0) (2 ^ L) (pow_pos L)) in
    everywhere_all (λ y. y < 2 ^ L) n (λ r. get_or (arrivals mail r) 0 0) (λ r h. small L (arrivals mail r) 0 (arrivals_fit L mail r fit))

-- the list of the selected processors' addresses serves as well as their field
pub mail_of_selected : (L : ℕ) (list : List ℕ) (addresses x : FieldNumbers) (selected : List Bool) → length addresses.numbers ≡ length x.numbers → list ≡ selected_addresses addresses selected → mail_to L list x selected ≡ mail_in L addresses x selected
mail_of_selected L list addresses x selected same is =
    ap (λ l. mail_to L l x selected) is
    ∙ same_messages (length x.numbers) (has selected) (λ p. get_or (selected_addresses addresses selected) p 0) (λ p. get_or addresses.numbers p 0) (operand L x) (operand L x) (λ p h does.
    address_at addresses selected p (omega arith) does) (λ p h. refl)

-- the messages of senders whose addresses and numbers lie in planes
pub mail_of_planes : (m L : ℕ) (addresses x : FieldNumbers) (selected : List Bool) (address value : ℕ → ℕ) → m ≡ length x.numbers → length addresses.numbers ≡ length x.numbers → ((v : ℕ) → v < length addresses.numbers → address v ≡ get_or addresses.numbers v 0) → ((v : ℕ) → v < length x.numbers → value v ≡ operand L x v)
    → messages m (has selected) address value ≡ mail_in L addresses x selected
mail_of_planes m L addresses x selected address value many same addresses_are values_are =
    ap (λ k. messages k (has selected) address value) many
    ∙ agreeing_messages (length x.numbers) (has selected) (has selected) address (λ v. get_or addresses.numbers v 0) value (operand L x) (λ p h. refl) (λ p h. addresses_are p (omega (arith, h, same))) values_are
