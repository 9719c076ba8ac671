-- When a history and the receipts of its seats agree.
use Rattle.std.specs.Prelude.{◌≡◌, ◌<◌, ◌+◌, ◌-◌, ◌==◌, ℕ, List, [], ◌∷◌, length, if◌then◌else◌, slice_get, slice_index_or, Some}
use Rattle.paris_names.specs.declared.profiles.Profile.{Profile}
use Rattle.paris_records.specs.declared.records.Entry.{Entry}
use Rattle.paris_records.specs.declared.records.Receipt.{Receipt}
use Rattle.paris_records.specs.History.{Legal, entry}

-- how many entries a seat has
abbrev pub calls_of : ℕ → List Entry → ℕ
calls_of seat [] = 0
calls_of seat (e ∷ es) = (if e.seat == seat then 1 else 0) + calls_of seat es

-- a receipt is of this seat, its number is above another one, and the entry of its number, which counts from 1, has the seat and the
-- receipt's event and reply
abbrev pub InPlace : List Entry → ℕ → ℕ → Receipt → Type 0
InPlace h seat above r = (above < r.number) × (r.seat ≡ seat) × (slice_get h (r.number - 1) ≡ Some (entry seat r.event r.reply))

-- each receipt is in its place, and the numbers rise
abbrev pub InPlaces : List Entry → ℕ → ℕ → List Receipt → Type 0
InPlaces h seat above [] = Unit {0}
InPlaces h seat above (r ∷ rs) = InPlace h seat above r × InPlaces h seat r.number rs

-- a seat's receipts are in their places, and there are as many as the seat has entries
abbrev pub Accounted : List Entry → ℕ → List Receipt → Type 0
Accounted h seat rs = InPlaces h seat 0 rs × (calls_of seat h ≡ length rs)

-- the list of a seat, by its number; a seat past the last list has no receipts
abbrev pub receipts_of_seat : List (List Receipt) → ℕ → List Receipt
receipts_of_seat rss seat = slice_index_or rss seat []

-- the history is legal in a profile, and each seat's receipts account for its entries
abbrev pub Agree : Profile → List Entry → List (List Receipt) → Type 0
Agree p h rss = Legal p h × ((seat : ℕ) → Accounted h seat (receipts_of_seat rss seat))
