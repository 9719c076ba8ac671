-- Any list of events: the machine's replies, and the state that they leave.
use Rattle.std.specs.Prelude.{List, [], ◌∷◌, Bool, true, false, is_none, is_some, Result, Ok, Err}
use Rattle.paris_names.specs.declared.faults.Fault.{Fault}
use Rattle.paris_events.specs.State.{State}
use Rattle.paris_events.specs.Show.{show_reply}
use Rattle.paris_events.specs.Orders.{take_reply, after_take, after_release}
use Rattle.paris_events.specs.Results.{verdict_of, after_bring}
use Rattle.paris_events.specs.Edits.{edit_fault, edit_reply, after_edit}
use Rattle.paris_events.specs.Lists.{list_of}
use Rattle.paris_events.specs.declared.events.Shown.{Shown}
use Rattle.paris_events.specs.declared.events.Shown.TheVariants.{Settled, Pending}
use Rattle.paris_events.specs.declared.events.Event.{Event}
use Rattle.paris_events.specs.declared.events.Event.TheVariants.{Edit, Take, Bring, Release, Show, List as ListRows}
use Rattle.paris_events.specs.declared.events.Reply.{Reply}
use Rattle.paris_events.specs.declared.events.Reply.TheVariants.{Edit as EditReply, Take as TakeReply, Bring as BringReply, Release as ReleaseReply, Show as ShowReply, List as ListReply}

-- the reply to an event
abbrev pub reply_to : State → Event → Reply
reply_to s (Edit e) = EditReply (edit_reply s e)
reply_to s Take = TakeReply (take_reply s)
reply_to s (Bring t) = BringReply (verdict_of s t)
reply_to s Release = ReleaseReply
reply_to s (Show name spot) = ShowReply (show_reply s name spot)
reply_to s ListRows = ListReply (list_of s)

-- the state after an event
abbrev pub after : State → Event → State
after s (Edit e) = after_edit s e
after s Take = after_take s
after s (Bring t) = after_bring s t
after s Release = after_release s
after s (Show name spot) = s
after s ListRows = s

-- whether a look has a value, of which its reply holds a copy
abbrev pub has_value : Result Shown Fault → Bool
has_value (Ok (Settled value)) = true
has_value (Ok (Pending id)) = false
has_value (Err fault) = false

-- whether an event takes memory: an edit that is not refused, a take where a row is ready, a look at a value, and a list
abbrev pub grows : State → Event → Bool
grows s (Edit e) = is_none (edit_fault s e)
grows s Take = is_some (take_reply s)
grows s (Bring t) = false
grows s Release = false
grows s (Show name spot) = has_value (show_reply s name spot)
grows s ListRows = true

-- the replies to a list of events, and the state after them
abbrev pub replies_to : State → List Event → List Reply
replies_to s [] = []
replies_to s (e ∷ es) = reply_to s e ∷ replies_to (after s e) es

abbrev pub after_all : State → List Event → State
after_all s [] = s
after_all s (e ∷ es) = after_all (after s e) es
