-- Why a seat doesn't begin to read.
use Rattle.std.specs.Prelude.{◌≡◌}
use Rattle.paris_names.specs.declared.faults.Fault.{Fault}
use Rattle.paris_names.specs.declared.faults.Fault.TheVariants.{StrangeSeat, NoEntry}
use Rattle.paris_names.specs.declared.profiles.Profile.{Profile}
use Rattle.paris_desk.specs.Seats.{SeatState}
use Rattle.paris_view.specs.declared.entered.Unmet.{Unmet}
use Rattle.paris_view.specs.declared.entered.Unmet.TheVariants.{Nothing, Short}
use Rattle.paris_view.specs.Looks.{FallsShort}

-- why a seat doesn't meet a history
abbrev pub IsUnmet : Profile → SeatState → SeatState → Unmet → Type 0
IsUnmet p s s' Nothing = s' ≡ s
IsUnmet p s s' (Short f l) = FallsShort p f l s s'

abbrev pub fault_of : Unmet → Fault
fault_of Nothing = NoEntry
fault_of (Short f l) = StrangeSeat f l
