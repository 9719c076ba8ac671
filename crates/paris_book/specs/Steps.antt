-- Steps of a book between two passes: a result that is kept, the order that a row would give now, and a row that has its turn.
use Rattle.std.specs.Prelude.{◌≡◌, ℕ, Bool, true, false, ◌&&◌, ◌||◌, not, Option, Some, None, if◌then◌else◌, slice_get, slice_set}
use Rattle.std.specs.List.{list_all}
use Rattle.paris_names.specs.declared.keys.Key.{Key}
use Rattle.paris_depends.specs.Sweeps.{touches}
use Rattle.paris_model.specs.Instructions.{reads}
use Rattle.paris_exec.specs.Tasks.{Task}
use Rattle.paris_edits.specs.Rows.{is_settled}
use Rattle.paris_edits.specs.declared.verdicts.Verdict.{Verdict}
use Rattle.paris_edits.specs.declared.verdicts.Verdict.TheVariants.{Kept}
use Rattle.paris_events.specs.State.{Row, State, Work, work_of, find_row}
use Rattle.paris_events.specs.Show.{now, origin_at}
use Rattle.paris_events.specs.Orders.{is_firm, order_of}
use Rattle.paris_events.specs.CutOff.{IsAtRest, is_cut, cut_found}
use Rattle.paris_events.specs.Results.{kept_at, verdict_of}
use Rattle.paris_events.specs.Settling.{run_row}

-- the state with a result kept, where it is, before any other row is settled
abbrev pub kept_on : State → Verdict → Option (ℕ × Row) → Work → State
kept_on s Kept (Some e) work = kept_at s e work
kept_on s _ _ work = s

abbrev pub after_keep : State → Task → State
after_keep s t = kept_on s (verdict_of s t) (find_row s t.id) (work_of t)

-- whether the keys that a row reads have the start or settled rows as origins
abbrev pub is_free : State → ℕ → Row → Bool
is_free s place r = list_all (λ k. is_firm (origin_at s place k)) (reads r.plan)

-- the order that the row at a place would give now, where they have
abbrev pub order_on : State → ℕ → Option Row → Option Task
order_on s place None = None
order_on s place (Some r) = if is_free s place r then Some (order_of s (place, r)) else None

abbrev pub own_order : State → ℕ → Option Task
own_order s place = order_on s place (slice_get s.rows place)

-- the state with the row at a place settled by the result of its present work
abbrev pub run_on : State → ℕ → Option Row → State
run_on s place None = s
run_on s place (Some r) = record s { rows = slice_set s.rows place (run_row (now s place) r) }

abbrev pub run_at : State → ℕ → State
run_at s place = run_on s place (slice_get s.rows place)

-- whether there is a row, and it is settled
abbrev pub settled_on : Option Row → Bool
settled_on None = false
settled_on (Some r) = is_settled r.status

-- whether there is a row at a place, and it is cut off
abbrev pub cuts_on : State → ℕ → Option Row → Bool
cuts_on s place None = false
cuts_on s place (Some r) = is_cut s place r

abbrev pub cuts_at : State → ℕ → Bool
cuts_at s place = cuts_on s place (slice_get s.rows place)

-- whether a row is unsettled, and isn't cut off
abbrev pub is_left : State → ℕ → Row → Bool
is_left s place r = not (is_settled r.status || is_cut s place r)

abbrev pub left_on : State → ℕ → Option Row → Bool
left_on s place None = false
left_on s place (Some r) = is_left s place r

abbrev pub left_at : State → ℕ → Bool
left_at s place = left_on s place (slice_get s.rows place)

-- whether a row is run when it has its turn: it is such a row, and no key that it reads waits
abbrev pub is_run : State → ℕ → Row → Bool
is_run s place r = is_left s place r && is_free s place r

abbrev pub runs_on : State → ℕ → Option Row → Bool
runs_on s place None = false
runs_on s place (Some r) = is_run s place r

abbrev pub runs_at : State → ℕ → Bool
runs_at s place = runs_on s place (slice_get s.rows place)

-- the order by which it is run then
abbrev pub turn_order : State → ℕ → Option Task
turn_order s place = if runs_at s place then own_order s place else None

-- the state once the row at a place had its turn: run, or settled where it is cut off
abbrev pub turned_on : State → ℕ → Option Row → State
turned_on s place None = s
turned_on s place (Some r) = if is_run s place r then run_on s place (Some r) else cut_found s place (Some r)

abbrev pub turned_at : State → ℕ → State
turned_at s place = turned_on s place (slice_get s.rows place)

-- whether a sweep settles the row at a place: it reads a key of these, and is cut off
abbrev pub sweeps_on : (Key → Bool) → State → ℕ → Option Row → Bool
sweeps_on d s place None = false
sweeps_on d s place (Some r) = touches d r.plan && is_cut s place r

abbrev pub sweeps_at : (Key → Bool) → State → ℕ → Bool
sweeps_at d s place = sweeps_on d s place (slice_get s.rows place)

-- the state once a sweep has come past a place
abbrev pub swept_on : (Key → Bool) → State → ℕ → Option Row → State
swept_on d s place None = s
swept_on d s place (Some r) = if touches d r.plan then cut_found s place (Some r) else s

abbrev pub swept_at : (Key → Bool) → State → ℕ → State
swept_at d s place = swept_on d s place (slice_get s.rows place)

-- a state that was at rest until the row at a place was settled
pub record WasSettled (s : State) (place : ℕ) : Type 0 where
  pub before : State
  pub row : Row
  pub next : Row
  pub rests : IsAtRest before
  pub here : slice_get before.rows place ≡ Some row
  pub settled : is_settled next.status ≡ true
  pub plan : next.plan ≡ row.plan
  pub now : s ≡ record before { rows = slice_set before.rows place next }
