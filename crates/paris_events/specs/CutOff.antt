-- Cut-off: a row that would compute again what it computed last is settled with that.
use Rattle.std.specs.Prelude.{◌≡◌, ℕ, zero, suc, Bool, false, ◌&&◌, not, Option, Some, None, if◌then◌else◌, length, slice_get}
use Rattle.std.specs.List.{list_all}
use Rattle.std.specs.Cmp.Lexicographic.{pointwise}
use Rattle.paris_model.specs.Instructions.{reads}
use Rattle.paris_instr.specs.PlanEq.{plan_eq}
use Rattle.paris_field.specs.Fields.{field_eq}
use Rattle.paris_edits.specs.Rows.{is_settled}
use Rattle.paris_edits.specs.declared.rows.Status.TheVariants.{Settled}
use Rattle.paris_events.specs.State.{Row, State, Work, with_status}
use Rattle.paris_events.specs.Show.{origin_at}
use Rattle.paris_events.specs.Orders.{is_firm, inputs_now}

-- whether two are the same work
abbrev pub same_work : Work → Work → Bool
same_work a b = plan_eq a.plan b.plan && pointwise field_eq a.inputs b.inputs

-- whether work is of the row's plan and of the present values at the keys that it reads, whose origins are the start or settled
abbrev pub is_present : State → ℕ → Row → Work → Bool
is_present s place r work =
    plan_eq r.plan work.plan && (list_all (λ k. is_firm (origin_at s place k)) (reads r.plan) && pointwise field_eq (inputs_now s place r.plan) work.inputs)

abbrev pub is_last_present : State → ℕ → Row → Option Work → Bool
is_last_present s place r None = false
is_last_present s place r (Some last) = is_present s place r last

-- whether a row is unsettled, and its last kept result would be kept now
abbrev pub is_cut : State → ℕ → Row → Bool
is_cut s place r = not (is_settled r.status) && is_last_present s place r r.last

-- the state once the row at a place was looked at: settled where it is cut off, with its edition
abbrev pub cut_found : State → ℕ → Option Row → State
cut_found s place None = s
cut_found s place (Some r) = if is_cut s place r then with_status s (place, r) Settled else s

abbrev pub cut_at : State → ℕ → State
cut_at s place = cut_found s place (slice_get s.rows place)

-- the state once the rows at so many places were looked at, one after another from the first on
abbrev pub cut_to : ℕ → State → State
cut_to zero s = s
cut_to (suc n) s = cut_at (cut_to n s) n

-- the same of all rows
abbrev pub cut_off : State → State
cut_off s = cut_to (length s.rows) s

-- one more pass changes nothing
abbrev pub IsAtRest : State → Type 0
IsAtRest s = cut_off s ≡ s
