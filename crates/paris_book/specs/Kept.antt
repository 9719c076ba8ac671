-- What the book keeps beside the machine, and that it is right.
use Rattle.std.specs.Prelude.{◌≡◌, ℕ, List, [], ◌∷◌, Bool, true, Option, Some, if◌then◌else◌, map, take}
use Rattle.std.specs.Option.{option_map}
use Rattle.std.specs.List.{list_all}
use Rattle.paris_names.specs.declared.keys.Key.{Key}
use Rattle.paris_names.specs.Keys.{has_key}
use Rattle.paris_model.specs.Frame.{World}
use Rattle.paris_model.specs.Instructions.{Plan, reads, writes, one}
use Rattle.paris_model.specs.Run.{run}
use Rattle.paris_exec.specs.Tasks.{Task, numbers_of}
use Rattle.paris_edits.specs.Rows.{is_settled}
use Rattle.paris_events.specs.State.{Inputs, start_world}
use Rattle.paris_book.specs.Entries.{Entry, entry_plan}

-- the plan and inputs of the result that a row keeps
abbrev pub last_kept : Option Task → Option (Plan × List (List ℕ))
last_kept t = option_map (λ d. (d.plan, numbers_of d.inputs)) t

-- whether each key's origin is settled, or the start, just after a row
unfoldable pub ripen : (Key → Bool) → Entry → Key → Bool
ripen h e k = if has_key (writes e.1.plan) k then is_settled e.1.status else h k

-- a settled row keeps the result of its plan on the present numbers, and its origins are settled
pub record Right (w : World) (h : Key → Bool) (e : Entry) : Type 0 where
  pub kept : is_settled e.1.status ≡ true → last_kept e.1.done ≡ Some (e.1.plan, map w (reads e.1.plan))
  pub origins : is_settled e.1.status ≡ true → list_all h (reads e.1.plan) ≡ true

-- each row of a program that begins with this world
abbrev pub Sound : World → (Key → Bool) → List Entry → Type 0
Sound w h [] = Unit {0}
Sound w h (e ∷ es) = Right w h e × Sound (one e.1.plan w) (ripen h e) es

-- the world before the row at a place
abbrev pub present : Inputs → List Entry → ℕ → World
present inputs es place = run (start_world inputs) (map entry_plan (take place es))
