-- What a session answers, and how many commands it has answered then.
use Rattle.std.proofs.Common.{◌≡◌, ◌≤◌, ℕ, ◌+◌, List, [], ◌∷◌, ◌++◌, Option, None, Some, Ok, Err, true, false, refl, ap, arith}
use Rattle.paris_model.specs.Frame.{World}
use Rattle.paris_model.specs.Instructions.{one}
use Rattle.paris_edits.specs.declared.rows.RowFault.{RowFault}
use Rattle.paris_exec.specs.Tasks.{Task}
use Rattle.paris_events.specs.Events.{reply_to, after}
use Rattle.paris_events.specs.Lists.{cause_in, fault_by, faults_in, faults_of, list_of, listed_in}
use Rattle.paris_events.specs.Orders.{take_reply}
use Rattle.paris_events.specs.State.{Row, State, start_world}
use Rattle.paris_events.specs.declared.events.Event.{Event}
use Rattle.paris_events.specs.declared.events.Event.TheVariants as event
use Rattle.paris_events.specs.declared.events.Reply.{Reply}
use Rattle.paris_events.specs.declared.events.Reply.TheVariants as reply
use Rattle.paris_session.specs.Hands.{Hand, Held, HasPlace, IsReady, asked, faults_among, is_look, told}
use Rattle.paris_session.specs.Transcript.{Sitting, answer, answer_if, answer_to}
use Rattle.paris_session.specs.declared.asked.Asked.{Asked}
use Rattle.paris_session.specs.declared.asked.Asked.TheVariants as asks

-- a look leaves the book
pub look_stays : (s : State) (e : Event) → is_look (reply_to s e) ≡ true → after s e ≡ s
look_stays s (event.Edit e) look = absurd (let no : false ≡ true = look in cc)
look_stays s event.Take look = absurd (let no : false ≡ true = look in cc)
look_stays s (event.Bring t) look = absurd (let no : false ≡ true = look in cc)
look_stays s event.Release look = absurd (let no : false ≡ true = look in cc)
look_stays s (event.Show name spot) look = refl
look_stays s event.List look = refl

-- the refused rows are those of the rows that are listed
pub faults_listed : (s : State) → faults_of s ≡ faults_among (list_of s)
faults_listed s = go (start_world s.inputs) s.rows
  where
    go : (w : World) (rows : List Row) → faults_in w rows ≡ faults_among (listed_in w rows)
    go w [] = refl
    go w (r ∷ rs) = ap (λ (l : List RowFault). fault_by r.id (cause_in w r) ++ l) (go (one r.plan w) rs)

-- room for what an event adds to the tray is room for what its reply adds
pub has_place : (h : Held) (s : State) (e : Event) → IsReady h e → HasPlace h (reply_to s e)
has_place h s (event.Edit e) ready = tt
has_place h s event.Take ready = by_reply (take_reply s)
  where
    by_reply : (o : Option Task) → HasPlace h (reply.Take o)
    by_reply None = tt
    by_reply (Some t) = ready
has_place h s (event.Bring t) ready = tt
has_place h s event.Release ready = tt
has_place h s (event.Show name spot) ready = tt
has_place h s event.List ready = tt

pub told_count : (h : Hand) (r : Reply) → (told h r).0.commands ≡ h.commands + 1
told_count h (reply.Edit (Ok answer)) = refl
told_count h (reply.Edit (Err fault)) = refl
told_count h (reply.Take None) = refl
told_count h (reply.Take (Some order)) = refl
told_count h (reply.Bring verdict) = refl
told_count h reply.Release = refl
told_count h (reply.Show (Ok shown)) = refl
told_count h (reply.Show (Err fault)) = refl
told_count h (reply.List looks) = refl

answer_to_count : (s : Sitting) (a : Asked) → (answer_to s a).0.hand.commands ≡ s.hand.commands + 1
answer_to_count s (asks.Call e) = told_count s.hand (reply_to s.state e)
answer_to_count s (asks.Look key spot) = told_count s.hand (reply_to s.state (event.Show key spot))
answer_to_count s asks.Faults = refl
answer_to_count s asks.Settle = refl
answer_to_count s (asks.Chosen profile) = refl
answer_to_count s (asks.Refused fault) = refl

-- a line is one command at most
pub answer_count : (s : Sitting) (line : List ℕ) → (answer s line).0.hand.commands ≤ s.hand.commands + 1
unfolding answer
answer_count s line = by_asked (asked false s.hand line)
  where
    by_asked : (o : Option Asked) → (answer_if s o).0.hand.commands ≤ s.hand.commands + 1
    by_asked None = omega arith
    by_asked (Some a) = let one = answer_to_count s a in omega (arith, one)
