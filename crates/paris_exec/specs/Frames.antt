-- What an executed order says of every world that holds its inputs.
use Rattle.std.specs.Prelude.{◌≡◌, Option, Some, None, false, true, map}
use Rattle.paris_names.specs.declared.keys.Key.{Key}
use Rattle.paris_names.specs.Keys.{has_key}
use Rattle.paris_model.specs.Frame.{World}
use Rattle.paris_model.specs.declared.actions.Refusal.{Refusal}
use Rattle.paris_model.specs.Instructions.{reads, writes, one, given, refusal}
use Rattle.paris_model.specs.Laws.{UnreadFit}
use Rattle.paris_model.specs.Run.{direct_one}
use Rattle.paris_exec.specs.Tasks.{Task, numbers_of, task_outcome}
use Rattle.paris_exec.specs.declared.orders.Outcome.{Outcome}
use Rattle.paris_exec.specs.declared.orders.Outcome.TheVariants.{Values, Refused}

-- in every world that holds the order's inputs at its reads, its plan leaves what the result holds at the keys that it writes, and all other keys as they were
abbrev pub GivesInAnyWorld : Task → Type 0
GivesInAnyWorld t = (w : World) → map w (reads t.plan) ≡ numbers_of t.inputs → (k : Key)
    → (has_key (writes t.plan) k ≡ true → one t.plan w k ≡ given t.plan (numbers_of t.inputs) k) × (has_key (writes t.plan) k ≡ false → one t.plan w k ≡ w k)

-- so does its instruction, which sees the whole world and not only what it reads, where the numbers that it writes and doesn't read fit
abbrev pub GivesDirectly : Task → Type 0
GivesDirectly t = (w : World) → map w (reads t.plan) ≡ numbers_of t.inputs → UnreadFit t.plan w → (k : Key)
    → (has_key (writes t.plan) k ≡ true → direct_one t.plan w k ≡ given t.plan (numbers_of t.inputs) k) × (has_key (writes t.plan) k ≡ false → direct_one t.plan w k ≡ w k)

-- the cause for which an outcome says that the instruction is refused, if it does
abbrev pub refusal_told : Outcome → Option Refusal
refusal_told (Values values) = None
refusal_told (Refused cause) = Some cause

-- in every such world the plan is refused exactly as the outcome says, for the same cause
abbrev pub RefusedInAnyWorld : Task → Type 0
RefusedInAnyWorld t = (w : World) → map w (reads t.plan) ≡ numbers_of t.inputs → refusal t.plan w ≡ refusal_told (task_outcome t)
