-- Orders: which row is ready, what its order says, and what is left when the orders that are out are given up.
use Rattle.std.specs.Prelude.{◌≡◌, ℕ, List, [], ◌∷◌, Bool, true, false, ◌&&◌, Option, Some, None, map}
use Rattle.std.specs.List.{list_all, find, enumerate_from}
use Rattle.std.specs.Option.{option_map}
use Rattle.paris_model.specs.Instructions.{Plan, reads}
use Rattle.paris_field.specs.Fields.{FieldNumbers}
use Rattle.paris_exec.specs.Tasks.{Task, field_of}
use Rattle.paris_edits.specs.Rows.{is_settled, is_waiting}
use Rattle.paris_edits.specs.declared.rows.Status.{Status}
use Rattle.paris_edits.specs.declared.rows.Status.TheVariants.{Waiting, Out, Settled}
use Rattle.paris_events.specs.State.{Row, State, with_status}
use Rattle.paris_events.specs.Show.{now, origin_at}

-- whether an origin is the start or settled
abbrev pub is_firm : Option Row → Bool
is_firm None = true
is_firm (Some r) = is_settled r.status

abbrev pub is_ready : State → ℕ → Row → Bool
is_ready s place r = is_waiting r.status && list_all (λ k. is_firm (origin_at s place k)) (reads r.plan)

-- the first row that waits and whose keys read have the start or settled rows as origins, with its place
abbrev pub next_ready : State → Option (ℕ × Row)
next_ready s = find (λ e. is_ready s e.0 e.1) (enumerate_from 0 s.rows)

-- the values at the keys that a plan reads
abbrev pub inputs_now : State → ℕ → Plan → List FieldNumbers
inputs_now s place p = map (λ k. field_of p k (now s place k)) (reads p)

abbrev pub order_of : State → ℕ × Row → Task
order_of s e = record { id = e.1.id; edition = e.1.edition; plan = e.1.plan; inputs = inputs_now s e.0 e.1.plan }

abbrev pub take_reply : State → Option Task
take_reply s = option_map (order_of s) (next_ready s)

abbrev pub taken : State → Option (ℕ × Row) → State
taken s None = s
taken s (Some e) = with_status s e Out

abbrev pub after_take : State → State
after_take s = taken s (next_ready s)

-- the status of a row when the orders that are out are given up
abbrev pub recalled_status : Status → Status
recalled_status Waiting = Waiting
recalled_status Out = Waiting
recalled_status Settled = Settled

-- no row is out
abbrev pub IsIdle : List Row → Type 0
IsIdle [] = Unit {0}
IsIdle (r ∷ rs) = (is_settled r.status ≡ false → is_waiting r.status ≡ true) × IsIdle rs

-- a row that is out waits, and every other one is as it was
abbrev pub recalled_row : Row → Row
recalled_row r = record r { status = recalled_status r.status }

-- every row that was out waits, with its edition
abbrev pub after_release : State → State
after_release s = record s { rows = map recalled_row s.rows }
