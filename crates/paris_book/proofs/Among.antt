-- What the machine says of a book's rows, by the entries.
use Rattle.std.specs.Prelude.{ℕ, Bool, List, take, map, Option, Some, None, ◌&&◌, if◌then◌else◌}
use Rattle.std.specs.Option.{option_map}
use Rattle.std.specs.List.{list_all, find, enumerate_from}
use Rattle.std.specs.Cmp.Lexicographic.{pointwise}
use Rattle.paris_names.specs.declared.keys.Key.{Key}
use Rattle.paris_model.specs.Instructions.{Plan, reads}
use Rattle.paris_model.specs.Recipe.{origin}
use Rattle.paris_instr.specs.PlanEq.{plan_eq}
use Rattle.paris_field.specs.Fields.{FieldNumbers, field_eq}
use Rattle.paris_exec.specs.Tasks.{Task, field_of}
use Rattle.paris_edits.specs.Rows.{is_waiting}
use Rattle.paris_events.specs.State.{Inputs, Row}
use Rattle.paris_events.specs.Show.{shown_of}
use Rattle.paris_events.specs.Orders.{is_firm}
use Rattle.paris_events.specs.declared.events.Shown.{Shown}
use Rattle.paris_book.specs.Among.{width_in_shape}
use Rattle.paris_book.specs.Entries.{Entry, id_of, entry_plan, machine_row}
use Rattle.paris_book.specs.Kept.{present}
use Rattle.paris_book.specs.Whole.{shape_in}

-- the last row before a place that writes a key
abbrev pub origin_among : List Entry → ℕ → Key → Option Entry
origin_among es place k = origin entry_plan k (take place es)

-- the value of a key at a place
abbrev pub value_among : Inputs → List Entry → ℕ → Key → FieldNumbers
value_among inputs es place k = record { width = width_in_shape (shape_in inputs k); numbers = present inputs es place k }

-- what is shown of it
abbrev pub look_among : Inputs → List Entry → ℕ → Key → Shown
look_among inputs es place k = shown_of (option_map machine_row (origin_among es place k)) (value_among inputs es place k)

-- whether the origin of a key is the start or settled
abbrev pub firm_among : List Entry → ℕ → Key → Bool
firm_among es place k = is_firm (option_map machine_row (origin_among es place k))

abbrev pub ready_among : List Entry → ℕ × Row → Bool
ready_among es e = is_waiting e.1.status && list_all (firm_among es e.0) (reads e.1.plan)

abbrev pub next_among : List Entry → Option (ℕ × Row)
next_among es = find (ready_among es) (enumerate_from 0 (map machine_row es))

-- the values at the keys that a plan reads
abbrev pub inputs_among : Inputs → List Entry → ℕ → Plan → List FieldNumbers
inputs_among inputs es place p = map (λ k. field_of p k (present inputs es place k)) (reads p)

abbrev pub order_among : Inputs → List Entry → ℕ → Entry → Task
order_among inputs es place e = record { id = id_of e; edition = e.1.edition; plan = e.1.plan; inputs = inputs_among inputs es place e.1.plan }

abbrev pub own_among : Inputs → List Entry → ℕ → Entry → Option Task
own_among inputs es place e = if list_all (firm_among es place) (reads e.1.plan) then Some (order_among inputs es place e) else None

-- whether an order is of the row's plan and of the present values, whose origins are the start or settled
abbrev pub present_among : Inputs → List Entry → ℕ → Entry → Task → Bool
present_among inputs es place e t = plan_eq e.1.plan t.plan && (list_all (firm_among es place) (reads e.1.plan) && pointwise field_eq (inputs_among inputs es place e.1.plan) t.inputs)
