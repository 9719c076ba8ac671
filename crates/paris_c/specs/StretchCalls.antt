-- What a call tells of a value in place of its numbers, where the handle is open.
use Rattle.std.specs.Prelude.{◌≡◌, ◌<◌, ◌⊎◌, ℕ, ◌+◌, ◌*◌, ◌^◌, List, length, map, Option, Some, None, Result, Ok, sum}
use Rattle.std.specs.List.{range_with_len}
use Rattle.paris_names.specs.declared.faults.Fault.{Fault}
use Rattle.paris_events.specs.declared.events.Shown.{Shown}
use Rattle.paris_events.specs.declared.events.Shown.TheVariants.{Settled, Pending}
use Rattle.paris_stretches.specs.Stretches.{count_others, differences, greatest, least, stretch, sum_number}
use Rattle.paris_c.specs.declared.stretches.Summary.{Summary}
use Rattle.paris_c.specs.Calls.{IsShown, wide_number}

-- so many of the numbers that are shown are other than 0
abbrev pub ShowsOthers : Option (Result Shown Fault) → ℕ → Type 0
ShowsOthers (Some (Ok (Settled value))) count = count ≡ count_others value.numbers
ShowsOthers _ count = ⊥

-- what some numbers come to
pub record SummaryNumbers : Type 0 where
  pub least : ℕ
  pub greatest : ℕ
  pub sum : ℕ
  pub others : ℕ

abbrev pub summed_up : List ℕ → SummaryNumbers
summed_up numbers = record { least = least numbers; greatest = greatest numbers; sum = sum numbers; others = count_others numbers }

-- the same in words
abbrev pub summary_number : Summary → SummaryNumbers
summary_number words = record { least = wide_number words.least; greatest = wide_number words.greatest; sum = sum_number words.sum; others = words.others }

-- what the numbers of each of so many stretches come to
abbrev pub summaries : ℕ → List ℕ → List SummaryNumbers
summaries parts numbers = map (λ i. summed_up (stretch parts numbers i)) (range_with_len 0 parts)

-- the room has what the numbers that are shown come to in each of so many stretches
abbrev pub ShowsSummaries : Option (Result Shown Fault) → ℕ → List Summary → Type 0
ShowsSummaries (Some (Ok (Settled value))) parts room = map summary_number room ≡ summaries parts value.numbers
ShowsSummaries _ parts room = ⊥

-- so many processors can't be cut into so many parts, each with a processor
abbrev pub IsNoCut : ℕ → ℕ → Type 0
IsNoCut parts count = (parts ≡ 0) ⊎ (count < parts)

-- of two looks the first tells this, or it shows a value and the other one tells it
abbrev pub OfTwo : (Option (Result Shown Fault) → ℕ → Type 0) → Option (Result Shown Fault) → Option (Result Shown Fault) → ℕ → Type 0
OfTwo Tells first other told = Tells first told ⊎ (IsShown first × Tells other told)

-- the room has a 1 for each of so many stretches in which the values that two looks show differ, and a 0 for each other one
abbrev pub ShowsDifferences : Option (Result Shown Fault) → Option (Result Shown Fault) → ℕ → List ℕ → Type 0
ShowsDifferences (Some (Ok (Settled x))) (Some (Ok (Settled y))) parts room = room ≡ differences parts x.numbers y.numbers
ShowsDifferences _ _ parts room = ⊥

-- the values that two looks show have not the same width and as many processors
abbrev pub AreUnlike : Option (Result Shown Fault) → Option (Result Shown Fault) → Type 0
AreUnlike (Some (Ok (Settled x))) (Some (Ok (Settled y))) = (x.width ≡ y.width) × (length x.numbers ≡ length y.numbers) → ⊥
AreUnlike _ _ = ⊥
