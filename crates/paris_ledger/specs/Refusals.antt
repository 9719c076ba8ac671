-- Why a call is not recorded.
use Rattle.std.specs.Prelude.{◌≡◌, ◌<◌, ◌≤◌, length}
use Rattle.paris_names.specs.declared.faults.Fault.{Fault}
use Rattle.paris_names.specs.declared.faults.Fault.TheVariants.{HistoryFull, NoMemory}
use Rattle.paris_ledger.specs.Ledgers.{Chapter}

-- the chapter has as many entries as there may be; or it has fewer, and memory was refused
abbrev pub IsRefused : Chapter → Fault → Type 0
IsRefused c (HistoryFull limit) = (limit ≡ c.limit) × (c.limit ≤ length c.history)
IsRefused c NoMemory = length c.history < c.limit
IsRefused c _ = ⊥
