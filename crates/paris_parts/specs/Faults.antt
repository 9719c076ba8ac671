-- Why a run at a desk is stopped, and which fault is told where several were met.
use Rattle.std.specs.Prelude.{◌≡◌, ◌<◌, ℕ, Option, Some, None, nat_lt, if◌then◌else◌, ⊤}
use Rattle.paris_names.specs.declared.faults.Fault.{Fault}
use Rattle.paris_names.specs.declared.faults.Fault.TheVariants.{HistoryFull, NoEntry, StrangeSeat}
use Rattle.paris_names.specs.declared.faults.Fault.TheVariants as faults
use Rattle.paris_desk.specs.declared.closing.Cause.{Cause}
use Rattle.paris_desk.specs.declared.closing.Cause.TheVariants.{Missing, Ahead, NoMemory}

-- what stops a run at a desk whose history has room for so many entries: it is full, a seat was told of more entries than there are, there is
-- no entry to look at or to close by, or memory is refused
abbrev pub StopsRun : ℕ → Fault → Type 0
StopsRun limit (HistoryFull n) = n ≡ limit
StopsRun limit (StrangeSeat front len) = len < front
StopsRun limit NoEntry = ⊤
StopsRun limit faults.NoMemory = ⊤
StopsRun limit _ = ⊥

-- which fault is told where several were met: a full history before all others, and want of memory behind them
abbrev pub rank : Fault → ℕ
rank (HistoryFull limit) = 2
rank faults.NoMemory = 0
rank _ = 1

-- the next fault, where it ranks above the one before
abbrev pub worse : Option Fault → Fault → Fault
worse None next = next
worse (Some fault) next = if nat_lt (rank fault) (rank next) then next else fault

-- the fault of a desk that isn't closed
abbrev pub closing_fault : Cause → Fault
closing_fault (Missing number) = NoEntry
closing_fault (Ahead number len) = NoEntry
closing_fault NoMemory = faults.NoMemory
