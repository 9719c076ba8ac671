-- What a session has in hand beside its book: what its lines ask for, and what it tells of the replies.
use Rattle.std.specs.Prelude.{◌<◌, ℕ, ◌+◌, ◌-◌, ◌==◌, Bool, true, false, List, [], ◌∷◌, ◌++◌, length, nat_eq, nat_lt, slice_get, slice_index, Option, Some, None, Result, Ok, Err, if◌then◌else◌}
use Rattle.paris_names.specs.declared.faults.Fault.{Fault}
use Rattle.paris_names.specs.declared.faults.Fault.TheVariants.{NoOrder, Syntax}
use Rattle.paris_names.specs.declared.limits.TheConstants.{MAX_LINE}
use Rattle.paris_edits.specs.declared.rows.RowFault.{RowFault}
use Rattle.paris_edits.specs.declared.rows.RowLook.{RowLook}
use Rattle.paris_exec.specs.Tasks.{Task}
use Rattle.paris_events.specs.Lists.{fault_by}
use Rattle.paris_events.specs.declared.events.Event.{Event}
use Rattle.paris_events.specs.declared.events.Event.TheVariants as event
use Rattle.paris_events.specs.declared.events.Reply.{Reply}
use Rattle.paris_events.specs.declared.events.Reply.TheVariants as reply
use Rattle.paris_events.specs.declared.events.Shown.{Shown}
use Rattle.paris_events.specs.declared.events.Shown.TheVariants.{Settled, Pending}
use Rattle.paris_text.specs.CommandReading.{command_in}
use Rattle.paris_text.specs.declared.verbs.Setting.{Setting}
use Rattle.paris_text.specs.declared.commands.Command.{Command}
use Rattle.paris_text.specs.declared.commands.Command.TheVariants as command
use Rattle.paris_session.specs.Replies.{ok_text, edit_text, order_text, nothing_text, verdict_text, values_text, pending_text, list_text, faults_text, refusal_text}
use Rattle.paris_session.specs.declared.asked.Asked.{Asked}
use Rattle.paris_session.specs.declared.asked.Asked.TheVariants as asks

-- whether the next command may choose the profile, the orders that were taken, and how many commands were answered and refused
pub record Hand : Type 0 where
  pub first : Bool
  pub tray : List Task
  pub commands : ℕ
  pub refusals : ℕ

abbrev pub hand : Bool → List Task → ℕ → ℕ → Hand
hand first tray commands refusals = record { first = first; tray = tray; commands = commands; refusals = refusals }

abbrev pub empty_hand : Bool → Hand
empty_hand first = hand first [] 0 0

-- no command chooses the profile any more
abbrev pub begun : Hand → Hand
begun h = hand false h.tray h.commands h.refusals

-- a hand, and for how many orders its tray has room
pub record Held : Type 0 where
  pub hand : Hand
  pub places : ℕ

abbrev pub held : Hand → ℕ → Held
held h places = record { hand = h; places = places }

-- the longest line that is read
abbrev pub longest_line : ℕ
longest_line = MAX_LINE

-- whether a line is skipped: it is empty, or begins with `#`
abbrev pub is_skipped : List ℕ → Bool
is_skipped line = if length line == 0 then true else (slice_index line 0 == 35)

-- where the next line stands, of a book that sessions share or of one's own
abbrev pub setting_of : Bool → Hand → Setting
setting_of is_shared h = record { is_shared = is_shared; is_first = h.first }

-- orders are numbered from 1
abbrev pub order_at : List Task → ℕ → Option Task
order_at tray number = if nat_eq number 0 then None else slice_get tray (number - 1)

abbrev pub bring_asked : Option Task → Asked
bring_asked None = asks.Refused NoOrder
bring_asked (Some order) = asks.Call (event.Bring order)

-- what a command asks for, where these orders were taken
abbrev pub asked_by : List Task → Command → Asked
asked_by tray (command.Edit e) = asks.Call (event.Edit e)
asked_by tray command.Take = asks.Call event.Take
asked_by tray (command.Bring number) = bring_asked (order_at tray number)
asked_by tray command.Release = asks.Call event.Release
asked_by tray (command.Show key spot) = asks.Look key spot
asked_by tray command.List = asks.Call event.List
asked_by tray command.Faults = asks.Faults
asked_by tray command.Settle = asks.Settle
asked_by tray (command.Paris profile) = asks.Chosen profile

-- a line that is no command is refused, with the column from which it is none
abbrev pub asked_by_read : List Task → Result Command ℕ → Asked
asked_by_read tray (Ok c) = asked_by tray c
asked_by_read tray (Err column) = asks.Refused (Syntax column)

-- what a line asks for that isn't skipped: one that is too long is refused from its first byte past the longest line
abbrev pub asked_by_line : Bool → Hand → List ℕ → Asked
asked_by_line is_shared h line =
    if nat_lt longest_line (length line) then asks.Refused (Syntax (longest_line + 1))
    else asked_by_read h.tray (command_in (setting_of is_shared h) line)

-- what a line asks for: one that is skipped for nothing
abbrev pub asked : Bool → Hand → List ℕ → Option Asked
asked is_shared h line = if is_skipped line then None else Some (asked_by_line is_shared h line)

-- what is told of a command, which is counted: where nothing is refused, where it is refused, and where it took an order, which stays in the
-- tray under the next number
abbrev pub plainly : Hand → List ℕ → Hand × List ℕ
plainly h text = (hand false h.tray (h.commands + 1) h.refusals, text)

abbrev pub refused : Hand → Fault → Hand × List ℕ
refused h fault = (hand false h.tray (h.commands + 1) (h.refusals + 1), refusal_text fault)

abbrev pub kept : Hand → Task → Hand × List ℕ
kept h order = (hand false (h.tray ++ order ∷ []) (h.commands + 1) h.refusals, order_text (length h.tray + 1) order.id order.edition)

abbrev pub shown_text : Shown → List ℕ
shown_text (Settled value) = values_text value.numbers
shown_text (Pending id) = pending_text id

-- what is told of a reply
abbrev pub told : Hand → Reply → Hand × List ℕ
told h (reply.Edit (Ok answer)) = plainly h (edit_text answer)
told h (reply.Edit (Err fault)) = refused h fault
told h (reply.Take None) = plainly h nothing_text
told h (reply.Take (Some order)) = kept h order
told h (reply.Bring verdict) = plainly h (verdict_text verdict)
told h reply.Release = plainly h ok_text
told h (reply.Show (Ok shown)) = plainly h (shown_text shown)
told h (reply.Show (Err fault)) = refused h fault
told h (reply.List looks) = plainly h (list_text looks)

-- the rows of a list that are refused
abbrev pub faults_among : List RowLook → List RowFault
faults_among [] = []
faults_among (look ∷ looks) = fault_by look.id look.cause ++ faults_among looks

-- what `faults` is told of the rows that are listed
abbrev pub faults_told : Hand → List RowLook → Hand × List ℕ
faults_told h looks = plainly h (faults_text (faults_among looks))

-- whether a reply is to a look at a key or at the rows, so that its text may take memory
abbrev pub is_look : Reply → Bool
is_look (reply.Show shown) = true
is_look (reply.List looks) = true
is_look _ = false

-- the tray has room for what an event may add to it, and for what a reply adds
abbrev pub IsReady : Held → Event → Type 0
IsReady h event.Take = length h.hand.tray < h.places
IsReady h _ = Unit {0}

abbrev pub HasPlace : Held → Reply → Type 0
HasPlace h (reply.Take (Some order)) = length h.hand.tray < h.places
HasPlace h _ = Unit {0}
