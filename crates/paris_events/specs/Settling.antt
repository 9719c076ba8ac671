-- Settling: every row settled, and one order after another.
use Rattle.std.specs.Prelude.{ℕ, zero, suc, ◌+◌, List, [], ◌∷◌, Bool, false, ◌||◌, not, Option, Some, None, if◌then◌else◌, map}
use Rattle.paris_model.specs.Frame.{World}
use Rattle.paris_model.specs.Instructions.{Plan, reads, one}
use Rattle.paris_exec.specs.Tasks.{Task, field_of}
use Rattle.paris_edits.specs.Rows.{is_settled}
use Rattle.paris_edits.specs.declared.rows.Status.TheVariants.{Settled}
use Rattle.paris_events.specs.State.{Row, State, Work, start_world}
use Rattle.paris_events.specs.CutOff.{same_work}
use Rattle.paris_events.specs.Orders.{take_reply, after_take}
use Rattle.paris_events.specs.Results.{after_bring}

-- how many rows are unsettled
abbrev pub unsettled_rows : List Row → ℕ
unsettled_rows [] = 0
unsettled_rows (r ∷ rs) = (if is_settled r.status then 0 else 1) + unsettled_rows rs

-- the present work of a plan, where this world stands before it
abbrev pub work_in : World → Plan → Work
work_in w p = record { plan = p; inputs = map (λ k. field_of p k (w k)) (reads p) }

-- whether a row's last kept result is of its present work
abbrev pub is_last : Option Work → Work → Bool
is_last None work = false
is_last (Some last) work = same_work work last

abbrev pub is_same : World → Row → Bool
is_same w r = is_last r.last (work_in w r.plan)

-- whether a row must be run before it is settled: it is unsettled, and its last kept result is of another work
abbrev pub is_due : World → Row → Bool
is_due w r = not (is_settled r.status || is_same w r)

-- how many rows must be run
abbrev pub due_in : World → List Row → ℕ
due_in w [] = 0
due_in w (r ∷ rs) = (if is_due w r then 1 else 0) + due_in (one r.plan w) rs

abbrev pub due : State → ℕ
due s = due_in (start_world s.inputs) s.rows

-- a row settled with what it has
abbrev pub settled_row : Row → Row
settled_row r = record r { status = Settled }

-- a row settled by the result of its present work
abbrev pub run_row : World → Row → Row
run_row w r = record r { status = Settled; last = Some (work_in w r.plan) }

-- a row when all are settled: one that had to be run keeps that result, and every other one is settled with what it has
abbrev pub settled_due : World → Row → Row
settled_due w r = if is_due w r then run_row w r else settled_row r

abbrev pub settled_in : World → List Row → List Row
settled_in w [] = []
settled_in w (r ∷ rs) = settled_due w r ∷ settled_in (one r.plan w) rs

-- every row settled, and all else as it was
abbrev pub all_settled : State → State
all_settled s = record s { rows = settled_in (start_world s.inputs) s.rows }

-- the state after the result of an order is brought, if there is an order
abbrev pub brought_back : State → Option Task → State
brought_back s None = s
brought_back s (Some t) = after_bring s t

-- the state after a take and the bring of the order that it gave
abbrev pub after_run : State → State
after_run s = brought_back (after_take s) (take_reply s)

-- the state after so many of these, one after another
abbrev pub ran_orders : ℕ → State → State
ran_orders zero s = s
ran_orders (suc n) s = after_run (ran_orders n s)
