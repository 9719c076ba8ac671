-- What a script in parts comes to.
use Rattle.std.proofs.Common.{◌≡◌, ℕ, ◌+◌, ◌<◌, ◌≤◌, true, Ok, Err, List, [], ◌++◌, length, sym, ap, ◌∙◌, subst, append_assoc}
use Rattle.std.specs.Prelude.{IfOk, Result}
use Rattle.paris_names.specs.declared.faults.Fault.{Fault}
use Rattle.paris_names.specs.declared.profiles.Profile.{Profile}
use Rattle.paris_parts.specs.declared.last.Transcript.{Transcript}
use mathlib.Core.List.{IsPrefix}
use Rattle.paris_events.specs.State.{State}
use Rattle.paris_events.specs.Settling.{all_settled}
use Rattle.paris_session.specs.Transcript.{start, with_book, replies, after_lines}
use Rattle.paris_session.specs.declared.answers.Summary.{Summary}
use Rattle.paris_records.specs.declared.records.Entry.{Entry}
use Rattle.paris_records.specs.declared.records.Receipt.{Receipt}
use Rattle.paris_records.specs.Agreement.{Agree, receipts_of_seat}
use Rattle.paris_records.specs.History.{state_of}
use Rattle.paris_records.specs.Receipts.{receipts_in}
use Rattle.paris_desk.specs.Closing.{by_number, past_of}
use Rattle.paris_desk.specs.Seats.{SeatState, fresh}
use Rattle.paris_parts.specs.Jobs.{AreDone, Doing}
use Rattle.paris_parts.proofs.Runs.{each_done, first_before_others}
use Rattle.paris_parts.specs.Texts.{edits_in, closed_text}
use Rattle.paris_parts.specs.Run.{Concludes, LeftBy, PartsPlay, last_session}

pub concludes : (p : Profile) (seats : ℕ) (sat : List SeatState) (last : List (List ℕ)) (text all closing told : List ℕ) (history : List Entry) (book left : State) (receipts : List (List Receipt)) (s s' rest : Summary)
    → left ≡ state_of p history → receipts ≡ by_number seats sat → Agree p history receipts → ((n : ℕ) → n < seats → IsPrefix (past_of n sat) history) → ((n : ℕ) → receipts_of_seat receipts n ≡ receipts_in n 0 history)
    → book ≡ left → closing ≡ closed_text (edits_in history) true → told ≡ replies (with_book start (all_settled book) []) last → all ≡ (text ++ closing) ++ told
    → rest ≡ record { commands = (after_lines (with_book start (all_settled book) []) last).hand.commands; refusals = (after_lines (with_book start (all_settled book) []) last).hand.refusals }
    → s'.commands ≡ s.commands + rest.commands → s'.refusals ≡ s.refusals + rest.refusals
    → Concludes p seats sat last text all s s'
concludes p seats sat last text all closing told history book left receipts s s' rest left_is are agreed begins each own closing_is told_is all_is counted commands refusals =
    let same : book ≡ state_of p history = own ∙ left_is in record {
      history = history;
      agree = subst (Agree p history) are agreed;
      begins = begins;
      each = λ n. (ap (λ (l : List (List Receipt)). receipts_of_seat l n) (sym are) ∙ each n);
      written =
          all_is ∙ append_assoc text closing told ∙ (λ i. text ++ (closing_is i ++ told_is i))
          ∙ ap (λ (z : State). text ++ (closed_text (edits_in history) true ++ replies (with_book start (all_settled z) []) last)) same;
      commands = commands ∙ ap (λ (x : Summary). s.commands + x.commands) counted ∙ ap (λ (z : State). s.commands + (after_lines (with_book start (all_settled z) []) last).hand.commands) same;
      refusals = refusals ∙ ap (λ (x : Summary). s.refusals + x.refusals) counted ∙ ap (λ (z : State). s.refusals + (after_lines (with_book start (all_settled z) []) last).hand.refusals) same;
    }

pub plays_done : (p : Profile) (seats : ℕ) (played : List (List (List ℕ))) (last : List (List ℕ)) (sat : List SeatState) (text text' : List ℕ) (s s' : Summary) → 1 ≤ length played → 1 ≤ seats
    → ((ds : List Doing) × AreDone p played (fresh seats) ds × LeftBy ds (length played) sat text s) → Concludes p seats sat last text text' s s' → PartsPlay p seats played last text' s'
plays_done p seats played last sat text text' s s' some any (ds, done, (sat_is, text_is, commands, refusals)) end =
    let begins = subst (λ (ss : List SeatState). (n : ℕ) → n < seats → IsPrefix (past_of n ss) end.history) sat_is end.begins in
    let each = subst (λ (ss : List SeatState). (n : ℕ) → receipts_of_seat (by_number seats ss) n ≡ receipts_in n 0 end.history) sat_is end.each in record {
      done = ds;
      history = end.history;
      each = each_done p played seats ds end.history done some any begins each;
      order = first_before_others p played seats ds end.history done some any begins each;
      agree = subst (λ (ss : List SeatState). Agree p end.history (by_number seats ss)) sat_is end.agree;
      written = end.written ∙ ap (λ (l : List ℕ). l ++ (closed_text (edits_in end.history) true ++ replies (last_session p end.history) last)) text_is;
      commands = end.commands ∙ ap (λ (n : ℕ). n + (after_lines (last_session p end.history) last).hand.commands) commands;
      refusals = end.refusals ∙ ap (λ (n : ℕ). n + (after_lines (last_session p end.history) last).hand.refusals) refusals;
    }

-- the same of what a run came to
pub plays_if : (p : Profile) (seats : ℕ) (played : List (List (List ℕ))) (last : List (List ℕ)) (sat : List SeatState) (text : List ℕ) (s : Summary) (result : Result Transcript Fault) → 1 ≤ length played → 1 ≤ seats
    → ((ds : List Doing) × AreDone p played (fresh seats) ds × LeftBy ds (length played) sat text s) → IfOk result (λ t. Concludes p seats sat last text t.text.items s t.summary)
    → IfOk result (λ t. PartsPlay p seats played last t.text.items t.summary)
plays_if p seats played last sat text s (Ok t) some any done end = plays_done p seats played last sat text t.text.items s t.summary some any done end
plays_if p seats played last sat text s (Err fault) some any done end = tt
