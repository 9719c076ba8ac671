-- Messages between processors whose addresses and values lie in fields.
use Rattle.std.specs.Prelude.{◌≡◌, ℕ, ◌-◌, ◌^◌, min, Bool, nat_lt, List, [], ◌∷◌, map, length, slice_index, slice_index_or, Option, Some, None, Result, Ok, Err, if◌then◌else◌}
use Rattle.paris_geometry.specs.Geometry.{numbers_below}
use Rattle.paris_model.specs.declared.actions.Refusal.{Refusal}
use Rattle.paris_model.specs.Mail.{arrivals, bad_sender, gets_mail, messages}
use Rattle.paris_model.specs.Store.{everywhere}
use Rattle.paris_field.specs.Fields.{FieldNumbers, operand}
use Rattle.paris_field.specs.Numbers.{bits_everywhere, has}

-- why something is refused, if it is
abbrev pub refusal_of : {X : Type 0} → Result X Refusal → Option Refusal
refusal_of (Ok x) = None
refusal_of (Err cause) = Some cause

-- the least selected processor that holds an address outside the set
abbrev pub bad_sender_of : FieldNumbers → List Bool → Option ℕ
bad_sender_of addresses selected = bad_sender (length addresses.numbers) (has selected) (slice_index addresses.numbers)

-- the address of each selected processor, and 0 for the others
abbrev pub selected_addresses : FieldNumbers → List Bool → List ℕ
selected_addresses addresses selected = everywhere (length addresses.numbers) (λ v. if has selected v then slice_index addresses.numbers v else 0)

-- a number as a word, and the greatest word for one that is too wide
abbrev pub clipped : ℕ → ℕ
clipped x = min x (2 ^ 64 - 1)

-- in each selected processor the low L bits at its address, where a list has the addresses
abbrev pub fetched_from : ℕ → List ℕ → FieldNumbers → List Bool → FieldNumbers
fetched_from L addresses x selected = record { width = L; numbers = everywhere (length x.numbers) (λ v. if has selected v then operand L x (slice_index addresses v) else 0) }

-- in each selected processor the low L bits at its address
abbrev pub fetched_field : ℕ → FieldNumbers → FieldNumbers → List Bool → FieldNumbers
fetched_field L addresses x selected = record { width = L; numbers = everywhere (length x.numbers) (λ v. if has selected v then operand L x (slice_index addresses.numbers v) else 0) }

-- the messages of the selected processors
abbrev pub mail_in : ℕ → FieldNumbers → FieldNumbers → List Bool → List (ℕ × ℕ)
mail_in L addresses x selected = messages (length x.numbers) (has selected) (slice_index addresses.numbers) (operand L x)

-- the messages of the selected processors, where a list has the addresses
abbrev pub mail_to : ℕ → List ℕ → FieldNumbers → List Bool → List (ℕ × ℕ)
mail_to L addresses x selected = messages (length x.numbers) (has selected) (slice_index addresses) (operand L x)

-- the selected processors as messages, each with its own number
abbrev pub senders : List ℕ → List Bool → List (ℕ × ℕ)
senders addresses selected = messages (length addresses) (has selected) (slice_index addresses) (λ p. p)

-- the number of the first of some processors, and zero where there is none
abbrev pub number_of_first : {X : Type 0} → List X → X → List ℕ → X
number_of_first numbers zero [] = zero
number_of_first numbers zero (p ∷ ps) = slice_index_or numbers p zero

-- in each of n processors the number of the first sender to it, and zero where there is none
abbrev pub first_numbers : {X : Type 0} → ℕ → List X → X → List (ℕ × ℕ) → List X
first_numbers n numbers zero mail = map (λ r. number_of_first numbers zero (arrivals mail r)) (numbers_below n)

-- in each of n processors the first number that arrives
abbrev pub delivered_field : ℕ → ℕ → List (ℕ × ℕ) → FieldNumbers
delivered_field L n mail = record { width = L; numbers = everywhere n (λ r. slice_index (arrivals mail r) 0) }

-- where mail arrives
abbrev pub receivers_of : ℕ → List (ℕ × ℕ) → List Bool
receivers_of n mail = bits_everywhere n (gets_mail mail)

-- where two messages meet
abbrev pub crowded_in : ℕ → List (ℕ × ℕ) → List Bool
crowded_in n mail = bits_everywhere n (λ r. nat_lt 1 (length (arrivals mail r)))

-- what n processors have of mail: the first value that arrives, whether one does, and whether more do
abbrev pub HasCome : ℕ → List (ℕ × ℕ) → List ℕ → List Bool → List Bool → Type 0
HasCome n mail values receivers crowded = (values ≡ everywhere n (λ r. slice_index (arrivals mail r) 0)) × ((receivers ≡ receivers_of n mail) × (crowded ≡ crowded_in n mail))
