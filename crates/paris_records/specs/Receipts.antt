-- Which entries of a history a seat's receipts are of.
use Rattle.std.specs.Prelude.{◌≡◌, ◌⊎◌, ◌+◌, ◌==◌, ℕ, List, [], ◌∷◌, if◌then◌else◌}
use Rattle.paris_records.specs.declared.records.Entry.{Entry}
use Rattle.paris_records.specs.declared.records.Receipt.{Receipt}
use Rattle.paris_records.specs.History.{receipt}

-- the receipts are those of some of a seat's entries, in order. The first entry here has the number n + 1
abbrev pub IsPart : ℕ → ℕ → List Receipt → List Entry → Type 0
IsPart seat n rs [] = rs ≡ []
IsPart seat n rs (e ∷ es) =
    IsPart seat (n + 1) rs es ⊎ ((rest : List Receipt) × (rs ≡ receipt seat (n + 1) e.event e.reply ∷ rest) × (e.seat ≡ seat) × IsPart seat (n + 1) rest es)

-- a receipt of each of a seat's entries, in order. The first entry here has the number n + 1
abbrev pub receipts_in : ℕ → ℕ → List Entry → List Receipt
receipts_in seat n [] = []
receipts_in seat n (e ∷ es) = if e.seat == seat then receipt seat (n + 1) e.event e.reply ∷ receipts_in seat (n + 1) es else receipts_in seat (n + 1) es
