-- Laws of a book: what its parts promise of numbers and plans, and that the run of its program is the direct one.
use Rattle.std.specs.Prelude.{◌≡◌, ◌<◌, ℕ, List, map, take, All, IsSome}
use Rattle.paris_names.specs.declared.keys.FlagName.{FlagName}
use Rattle.paris_names.specs.declared.keys.Key.{Key}
use Rattle.paris_names.specs.declared.profiles.Profile.{Profile}
use Rattle.paris_model.specs.Frame.{World}
use Rattle.paris_model.specs.Fits.{IsFit}
use Rattle.paris_model.specs.Run.{direct_run}
use Rattle.paris_field.specs.Fields.{AllFit}
use Rattle.paris_events.specs.declared.inputs.Input.{Input}
use Rattle.paris_events.specs.declared.inputs.FlagInputs.{FlagInputs}
use Rattle.paris_book.specs.Entries.{Entry}
use Rattle.paris_events.specs.State.{Inputs, State, empty_state_of, flag_input, start_world, row_plan}
use Rattle.paris_events.specs.Events.{after_all}
use Rattle.paris_events.specs.Orders.{after_release, take_reply}
use Rattle.paris_events.specs.Settling.{all_settled, due, ran_orders}
use Rattle.paris_events.specs.Show.{now}
use Rattle.paris_events.specs.declared.events.Event.{Event}

-- the numbers of input data fit its width
abbrev pub InputFits : Input → Type 0
InputFits i = AllFit i.value.width i.value.numbers

-- and those of each flag
abbrev pub FlagsFit : FlagInputs → Type 0
FlagsFit x = (flag : FlagName) → InputFits (flag_input x flag)

-- all input data fits
pub record InputsFit (inputs : Inputs) : Type 0 where
  pub fields : All InputFits inputs.fields
  pub flags : All FlagsFit inputs.flags

-- the plan of an entry fits its set's axes and its operands' widths
abbrev pub ActionFits : Entry → Type 0
ActionFits e = IsFit e.1.plan.axes e.1.plan.action

abbrev pub ActionsFit : List Entry → Type 0
ActionsFit es = All ActionFits es

-- the world just before the row at a place, of running the program once from the input data where each instruction sees the whole world
abbrev pub direct_now : State → ℕ → World
direct_now s place = direct_run (start_world s.inputs) (map row_plan (take place s.rows))

-- at each place that is the world of which all else is said
abbrev pub NowIsDirect : State → Type 0
NowIsDirect s = (place : ℕ) (k : Key) → now s place k ≡ direct_now s place k

-- once the orders that are out are given up, takes and brings leave every row settled, and as many takes give an order as rows are due
abbrev pub OrdersSettle : State → Type 0
OrdersSettle s = (ran_orders (due s) (after_release s) ≡ all_settled s) × ((n : ℕ) → n < due s → IsSome (take_reply (ran_orders n (after_release s))))

-- a state that a book can have: some events lead to it from an empty book of a profile, whose count of edits begins anywhere
abbrev pub IsBookState : State → Type 0
IsBookState s = (profile : Profile) × (count : ℕ) × (events : List Event) × (s ≡ after_all (empty_state_of profile count) events)

-- whatever events come next, they lead to such a state
abbrev pub EventsGoOn : Type 0
EventsGoOn = (s : State) (more : List Event) → IsBookState s → IsBookState (after_all s more)

-- and so does settling
abbrev pub SettlingGoesOn : Type 0
SettlingGoesOn = (s : State) → IsBookState s → IsBookState (all_settled s)

-- in each such state the run is the direct one
abbrev pub StatesAreDirect : Type 0
StatesAreDirect = (s : State) → IsBookState s → NowIsDirect s

-- and orders settle it
abbrev pub StatesSettle : Type 0
StatesSettle = (s : State) → IsBookState s → OrdersSettle s
