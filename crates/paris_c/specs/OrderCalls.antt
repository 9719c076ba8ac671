-- What a call does to an order of a handle, which is none where that is closed, and to a session by an order.
use Rattle.std.specs.Prelude.{◌≡◌, ℕ, Bool, true, false, [], Option, Some, None}
use Rattle.paris_exec.specs.Tasks.{Task}
use Rattle.paris_edits.specs.declared.verdicts.Verdict.{Verdict}
use Rattle.paris_edits.specs.declared.verdicts.Verdict.TheVariants as verdict
use Rattle.paris_events.specs.Orders.{take_reply, after_take, after_release}
use Rattle.paris_events.specs.Results.{verdict_of, after_bring}
use Rattle.paris_session.specs.Transcript.{with_book}
use Rattle.paris_c.specs.declared.contents.Contents.{Contents}
use Rattle.paris_c.specs.declared.order_state.OrderState.{OrderState}
use Rattle.paris_c.specs.declared.order_state.OrderState.TheVariants.{Order, Done, Nothing}

-- whether no order stands there: it was taken out to be executed, or there is none yet
abbrev pub is_spent : OrderState → Bool
is_spent (Order task) = false
is_spent (Done task) = false
is_spent Nothing = true

abbrev pub is_held_spent : Option OrderState → Bool
is_held_spent None = false
is_held_spent (Some order) = is_spent order

-- the task of an order, executed or not
abbrev pub task_in : OrderState → Option Task
task_in (Order task) = Some task
task_in (Done task) = Some task
task_in Nothing = None

abbrev pub is_executed : OrderState → Bool
is_executed (Order task) = false
is_executed (Done task) = true
is_executed Nothing = false

-- the task of an order that is executed
abbrev pub result_in : Option OrderState → Option Task
result_in (Some (Done task)) = Some task
result_in _ = None

-- an order was taken: it is the one for the first ready row, and isn't executed. Of the session the book alone is another
abbrev pub IsTaken : Option Contents → Option Contents → Option OrderState → Type 0
IsTaken (Some old) (Some new) (Some order) =
    (task_in order ≡ take_reply old.session.state)
    × (is_executed order ≡ false)
    × (new ≡ record old { session = with_book old.session (after_take old.session.state) old.session.hand.tray })
IsTaken _ _ _ = ⊥

-- no row is ready
abbrev pub HasNoneReady : Option Contents → Type 0
HasNoneReady None = ⊥
HasNoneReady (Some contents) = take_reply contents.session.state ≡ None

-- an order was executed, or was it before: it has the same task
abbrev pub IsExecuted : Option OrderState → Option OrderState → Type 0
IsExecuted (Some old) (Some new) = (task_in new ≡ task_in old) × (is_executed new ≡ true)
IsExecuted _ _ = ⊥

-- an order isn't executed
abbrev pub IsToExecute : Option OrderState → Type 0
IsToExecute None = ⊥
IsToExecute (Some order) = is_executed order ≡ false

-- the result of a task was brought: of the session the book alone is another
abbrev pub IsBrought : Option Contents → Option Contents → Option Task → Type 0
IsBrought (Some old) (Some new) (Some task) =
    new ≡ record old { session = with_book old.session (after_bring old.session.state task) old.session.hand.tray }
IsBrought _ _ _ = ⊥

-- a verdict by its number
abbrev pub verdict_number : Verdict → ℕ
verdict_number verdict.Kept = 1
verdict_number verdict.Repeated = 2
verdict_number (verdict.Stale present) = 3
verdict_number verdict.Gone = 4
verdict_number verdict.Foreign = 5

-- the verdict on the result of a task has this number
abbrev pub HasVerdict : Option Contents → Option Task → ℕ → Type 0
HasVerdict (Some contents) (Some task) number = number ≡ verdict_number (verdict_of contents.session.state task)
HasVerdict _ _ number = ⊥

-- where a verdict tells an edition, it is this
abbrev pub TellsEdition : Verdict → ℕ → Type 0
TellsEdition (verdict.Stale present) edition = edition ≡ present.0
TellsEdition _ edition = Unit {0}

-- where the row has another edition than a task, it is this
abbrev pub HasEdition : Option Contents → Option Task → ℕ → Type 0
HasEdition (Some contents) (Some task) edition = TellsEdition (verdict_of contents.session.state task) edition
HasEdition _ _ edition = ⊥

-- a task is of this row and edition
abbrev pub IsTaskOf : Option Task → ℕ → ℕ → Type 0
IsTaskOf None row edition = ⊥
IsTaskOf (Some task) row edition = (row ≡ task.id.0) × (edition ≡ task.edition.0)

-- an order is of this row and edition, and executed or not
abbrev pub IsOrderOf : Option OrderState → ℕ → ℕ → Bool → Type 0
IsOrderOf None row edition executed = ⊥
IsOrderOf (Some order) row edition executed = IsTaskOf (task_in order) row edition × (executed ≡ is_executed order)

-- a session was opened in the state of another, orders and counts too. It keeps no reply
abbrev pub IsSnapshot : Option Contents → Option Contents → Type 0
IsSnapshot (Some old) (Some new) = (new.session ≡ old.session) × (new.reply.items ≡ [])
IsSnapshot _ _ = ⊥

-- the orders that are out were given up: of the session the book alone is another
abbrev pub IsReleased : Option Contents → Option Contents → Type 0
IsReleased (Some old) (Some new) = new ≡ record old { session = with_book old.session (after_release old.session.state) old.session.hand.tray }
IsReleased _ _ = ⊥
