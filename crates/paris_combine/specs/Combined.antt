-- Messages combined with what their receivers hold.
use Rattle.std.specs.Prelude.{◌≡◌, ℕ, ◌-◌, ◌^◌, ◌≤◌, Bool, List, length, slice_index}
use Rattle.paris_model.specs.declared.operators.Combiner.{Combiner}
use Rattle.paris_model.specs.Combine.{combined}
use Rattle.paris_model.specs.Mail.{arrivals}
use Rattle.paris_model.specs.Store.{everywhere}
use Rattle.paris_field.specs.Fields.{FieldNumbers, operand}
use Rattle.paris_router.specs.Mail.{receivers_of}

-- in each processor the low L bits that it holds, combined with those that arrive, by sender
abbrev pub combined_mail : Combiner → ℕ → FieldNumbers → List (ℕ × ℕ) → FieldNumbers
combined_mail operator L old mail = record { width = L; numbers = everywhere (length old.numbers) (λ r. combined operator L (operand L old r) (arrivals mail r)) }

-- what processors that began with numbers of so many bits, as many as the mask has, have of mail: the numbers combined with those that
-- arrive, and where one does
abbrev pub HasJoined : Combiner → ℕ → List ℕ → List (ℕ × ℕ) → ℕ → List ℕ → List Bool → Type 0
HasJoined operator mask start mail kept words receivers = (kept ≡ mask) × (((L : ℕ) → L ≤ 64 → mask ≡ 2 ^ L - 1 → words ≡ everywhere (length start) (λ r. combined operator L (slice_index start r) (arrivals mail r))) × (receivers ≡ receivers_of (length start) mail))
