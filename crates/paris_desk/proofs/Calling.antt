-- A fault by which the book refuses an edit is none of those that say that a call is not recorded.
use Rattle.std.proofs.Common.{◌≡◌, ℕ, ◌≤◌, false, Option, Some, None, Result, Ok, Err, refl, sym, subst, arith}
use Rattle.std.specs.Prelude.{MatchBool, IfOk, IfErr}
use Rattle.std.proofs.lemmas.Bool.Decides.{nat_tests}
use Rattle.paris_names.specs.Faults.{number_of}
use Rattle.paris_names.specs.declared.faults.Fault.{Fault}
use Rattle.paris_names.specs.declared.faults.Fault.TheVariants.{NoField, NoRow}
use Rattle.paris_names.specs.declared.profiles.Profile.{Profile}
use Rattle.paris_edits.specs.declared.edits.Edit.{Edit}
use Rattle.paris_edits.specs.declared.edits.EditReply.{EditReply}
use Rattle.paris_events.specs.State.{State}
use Rattle.paris_events.specs.Edits.{edit_fault, edit_reply, edit_reply_by}
use Rattle.paris_events.specs.declared.events.Event.{Event}
use Rattle.paris_events.specs.declared.events.Event.TheVariants as EventCase
use Rattle.paris_events.specs.declared.events.Reply.{Reply}
use Rattle.paris_events.specs.declared.events.Reply.TheVariants as ReplyCase
use Rattle.paris_events.specs.declared.events.Shown.{Shown}
use Rattle.paris_events.specs.Show.{show_reply, show_key, show_from}
use Rattle.paris_names.specs.declared.keys.Key.{Key}
use Rattle.paris_names.specs.declared.ids.Spot.{Spot}
use Rattle.paris_names.specs.declared.names.KeyName.{KeyName}
use Rattle.paris_board.specs.Board.{key_named}
use Rattle.paris_events.specs.State.{place_of_spot}
use Rattle.paris_book.proofs.DueFaults.{edit_number}
use Rattle.paris_records.specs.History.{state_of}
use Rattle.paris_desk.specs.Seats.{SeatState}
use Rattle.paris_desk.specs.Calls.{Called, Unrecorded, is_unrecorded}

-- a recorded call by the reply that it was
pub told_as : (p : Profile) (s s' : SeatState) (event : Event) (r r' : Reply) → r ≡ r' → Called p s s' event r → Called p s s' event r'
told_as p s s' event r r' is c = subst (λ (x : Reply). Called p s s' event x) is c

-- what a call answers that the book refuses by a fault of its own
is_made : (fault : Fault) (X Y : Type 0) → number_of fault ≤ 17 → Y → MatchBool (is_unrecorded fault) X Y
is_made fault X Y few y =
    let no : is_unrecorded fault ≡ false = grind (arith, nat_tests, few) in
    subst (λ b. MatchBool b X Y) (sym no) y

edit_due : (z : State) (edit : Edit) (fault : Fault) → Err fault ≡ edit_reply z edit → number_of fault ≤ 17
edit_due z edit fault e = by_fault (edit_fault z edit) refl e
  where
    by_fault : (o : Option Fault) → edit_fault z edit ≡ o → Err fault ≡ edit_reply_by z edit o → number_of fault ≤ 17
    by_fault None is e = cc
    by_fault (Some f) is e = let same : fault ≡ f = cc in subst (λ x. number_of x ≤ 17) (sym same) (edit_number z edit f is)

pub edit_made : (p : Profile) (limit : ℕ) (s s' : SeatState) (edit : Edit) (o : Result EditReply Fault) → Called p s s' (EventCase.Edit edit) (ReplyCase.Edit o)
    → IfErr o (λ fault. MatchBool (is_unrecorded fault) (Unrecorded limit s s' fault) (Called p s s' (EventCase.Edit edit) (ReplyCase.Edit (Err fault))))
edit_made p limit s s' edit (Ok answer) c = tt
edit_made p limit s s' edit (Err fault) c =
    let answer : ReplyCase.Edit (Err fault) ≡ ReplyCase.Edit (edit_reply (state_of p c.history) edit) = c.answer in
    let same : Err fault ≡ edit_reply (state_of p c.history) edit = cc in
    is_made fault (Unrecorded limit s s' fault) (Called p s s' (EventCase.Edit edit) (ReplyCase.Edit (Err fault))) (edit_due (state_of p c.history) edit fault same) c

pub edit_told : (p : Profile) (s s' : SeatState) (edit : Edit) (o : Result EditReply Fault) → Called p s s' (EventCase.Edit edit) (ReplyCase.Edit o)
    → IfOk o (λ answer. Called p s s' (EventCase.Edit edit) (ReplyCase.Edit (Ok answer)))
edit_told p s s' edit (Ok answer) c = c
edit_told p s s' edit (Err fault) c = tt

show_from_due : (z : State) (k : Key) (o : Option ℕ) (fault : Fault) → Err fault ≡ show_from z k o → number_of fault ≤ 17
show_from_due z k None fault e = let same : fault ≡ NoRow = cc in subst (λ x. number_of x ≤ 17) (sym same) (omega arith)
show_from_due z k (Some place) fault e = cc

show_key_due : (z : State) (spot : Spot) (o : Option Key) (fault : Fault) → Err fault ≡ show_key z spot o → number_of fault ≤ 17
show_key_due z spot None fault e = let same : fault ≡ NoField = cc in subst (λ x. number_of x ≤ 17) (sym same) (omega arith)
show_key_due z spot (Some k) fault e = show_from_due z k (place_of_spot z spot) fault e

pub show_made : (p : Profile) (limit : ℕ) (s s' : SeatState) (name : KeyName) (spot : Spot) (o : Result Shown Fault) → Called p s s' (EventCase.Show name spot) (ReplyCase.Show o)
    → IfErr o (λ fault. MatchBool (is_unrecorded fault) (Unrecorded limit s s' fault) (Called p s s' (EventCase.Show name spot) (ReplyCase.Show (Err fault))))
show_made p limit s s' name spot (Ok shown) c = tt
show_made p limit s s' name spot (Err fault) c =
    let answer : ReplyCase.Show (Err fault) ≡ ReplyCase.Show (show_reply (state_of p c.history) name spot) = c.answer in
    let same : Err fault ≡ show_reply (state_of p c.history) name spot = cc in
    let z = state_of p c.history in
    is_made fault (Unrecorded limit s s' fault) (Called p s s' (EventCase.Show name spot) (ReplyCase.Show (Err fault))) (show_key_due z spot (key_named z.board name) fault same) c

pub show_told : (p : Profile) (s s' : SeatState) (name : KeyName) (spot : Spot) (o : Result Shown Fault) → Called p s s' (EventCase.Show name spot) (ReplyCase.Show o)
    → IfOk o (λ shown. Called p s s' (EventCase.Show name spot) (ReplyCase.Show (Ok shown)))
show_told p s s' name spot (Ok shown) c = c
show_told p s s' name spot (Err fault) c = tt
