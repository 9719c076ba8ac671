-- A part is played line by line.
use Rattle.std.proofs.Common.{◌≡◌, ℕ, ◌+◌, ◌<◌, ◌≤◌, Bool, true, false, List, [], ◌∷◌, ◌++◌, length, get_or, take, map, Some, None, Ok, Err, Vec, Global, refl, sym, ap, ◌∙◌, subst, arith, append_assoc, append-nil}
use Rattle.std.specs.Prelude.{IfOk, OnErr, Option, Result, ◌&&◌, if◌then◌else◌, zero, suc}
use Rattle.std.specs.List.{list_all}
use mathlib.Core.List.{IsPrefix}
use Rattle.paris_names.specs.declared.faults.Fault.{Fault}
use Rattle.paris_names.specs.declared.faults.Fault.TheVariants as faults
use Rattle.paris_names.specs.declared.profiles.Profile.{Profile}
use Rattle.paris_names.specs.declared.ids.Spot.{Spot}
use Rattle.paris_names.specs.declared.names.KeyName.{KeyName}
use Rattle.paris_edits.specs.declared.rows.RowLook.{RowLook}
use Rattle.paris_events.specs.Show.{show_reply}
use Rattle.paris_events.specs.declared.events.Event.{Event}
use Rattle.paris_events.specs.declared.events.Event.TheVariants as event
use Rattle.paris_events.specs.declared.events.Reply.{Reply}
use Rattle.paris_events.specs.declared.events.Reply.TheVariants as reply
use Rattle.paris_session.specs.declared.asked.Asked.{Asked}
use Rattle.paris_session.specs.declared.asked.Asked.TheVariants as asks
use Rattle.paris_parts.proofs.Doings.{lines_more}
use Rattle.paris_parts.proofs.Steps.{calls, from_first, knew, looks, moves_on, stays, still}
use Rattle.paris_records.specs.History.{state_of}
use Rattle.paris_records.specs.declared.records.Entry.{Entry}
use Rattle.paris_records.specs.declared.records.Receipt.{Receipt}
use Rattle.paris_desk.specs.Calls.{Called}
use Rattle.paris_desk.specs.Seats.{SeatState}
use Rattle.paris_desk.proofs.Prefixes.{prefix_none, prefix_trans}
use Rattle.paris_view.specs.Looks.{Looked, Missed}
use Rattle.paris_session.specs.Hands.{Hand, asked, asked_by_line, faults_told, is_skipped, told}
use Rattle.paris_session.proofs.AnswerLemmas.{told_count}
use Rattle.paris_parts.specs.Hands.{Answers, AnswersAsked, AnswersIf, HandPlays}
use Rattle.paris_parts.specs.Moving.{Answered, HasAnswered, HasPlayed, is_unmet}
use Rattle.paris_parts.specs.Beginning.{hand_at}
use Rattle.paris_parts.specs.Seeing.{Glimpses, IsInTime}

-- a call answers what is asked for
pub by_call : (p : Profile) (s s' : SeatState) (h h' : Hand) (e : Event) (r : Reply) (text : List ℕ) → IsInTime s → Called p s s' e r → (h', text) ≡ told h r → Answered p s s' h (asks.Call e) h' text
by_call p s s' h h' e r text time called said =
    let (own, moved, event_is, reply_is) = calls p s s' e r called time in
    (own ∷ [], s.past, knew s s' (own ∷ []) time moved, (own, refl, event_is, said ∙ ap (told h) (sym reply_is)))

-- a list of the rows answers `faults`
pub by_list : (p : Profile) (s s' : SeatState) (h h' : Hand) (rows : List RowLook) (text : List ℕ) → IsInTime s → Called p s s' event.List (reply.List rows) → (h', text) ≡ faults_told h rows
    → Answered p s s' h asks.Faults h' text
by_list p s s' h h' rows text time called said =
    let (own, moved, event_is, reply_is) = calls p s s' event.List (reply.List rows) called time in
    (own ∷ [], s.past, knew s s' (own ∷ []) time moved, (own, rows, refl, event_is, reply_is, said))

-- a look answers what is asked for
pub by_look : (p : Profile) (s s' : SeatState) (h h' : Hand) (key : KeyName) (spot : Spot) (text : List ℕ) → IsInTime s → Looked p s s'
    → (h', text) ≡ told h (reply.Show (show_reply (state_of p s'.past) key spot)) → Answered p s s' h (asks.Look key spot) h' text
by_look p s s' h h' key spot text time looked said = ([], s'.past, looks p s s' looked time, (refl, said))

-- what is asked for is answered with no call and no look
pub by_none : (p : Profile) (s : SeatState) (h h' : Hand) (a : Asked) (text : List ℕ) → IsInTime s → AnswersAsked p s.past h a [] h' text → Answered p s s h a h' text
by_none p s h h' a text time answers = ([], s.past, knew s s [] time (stays s time), answers)

-- a line is skipped
pub line_skipped : (p : Profile) (s : SeatState) (h : Hand) (line text : List ℕ) → IsInTime s → None ≡ asked true h line → text ≡ [] → HasAnswered p s s h line h text
line_skipped p s h line text time none empty =
    ([], s.past, knew s s [] time (stays s time), subst (λ (o : Option Asked). AnswersIf p s.past h o [] h text) none (refl, refl, empty))

-- a line is answered by what it asks for
line_asked : (p : Profile) (s s' : SeatState) (h h' : Hand) (line text : List ℕ) (a : Asked) → Some a ≡ asked true h line → Answered p s s' h a h' text → HasAnswered p s s' h line h' text
line_asked p s s' h h' line text a some (rs, seen, moved, answers) =
    (rs, seen, moved, subst (λ (o : Option Asked). AnswersIf p seen h o rs h' text) some answers)

-- the same of what came of answering
pub line_if : {X : Type 0} (p : Profile) (result : Result X Fault) (seat_of : X → SeatState) (text_of : X → List ℕ) (s : SeatState) (h h' : Hand) (line : List ℕ) (a : Asked) → Some a ≡ asked true h line
    → IfOk result (λ x. Answered p s (seat_of x) h a h' (text_of x)) → IfOk result (λ x. HasAnswered p s (seat_of x) h line h' (text_of x))
line_if p (Ok x) seat_of text_of s h h' line a some answered = line_asked p s (seat_of x) h h' line (text_of x) a some answered
line_if p (Err fault) seat_of text_of s h h' line a some answered = tt

-- a look is refused
pub missed_so : (p : Profile) (name : KeyName) (spot : Spot) (s s' : SeatState) (fault : Fault) → is_unmet fault ≡ false → Missed p name spot s s' fault
    → Looked p s s' × (Err fault ≡ show_reply (state_of p s'.past) name spot)
missed_so p name spot s s' fault met = by_fault fault met
  where
    by_fault : (f : Fault) → is_unmet f ≡ false → Missed p name spot s s' f → Looked p s s' × (Err f ≡ show_reply (state_of p s'.past) name spot)
    by_fault faults.SetsFull met missed = missed
    by_fault faults.BadAxes met missed = missed
    by_fault faults.NameTaken met missed = missed
    by_fault faults.NoSet met missed = missed
    by_fault faults.FieldsFull met missed = missed
    by_fault faults.BadWidth met missed = missed
    by_fault faults.NoField met missed = missed
    by_fault faults.WrongCount met missed = missed
    by_fault (faults.TooWide n) met missed = missed
    by_fault faults.NoRow met missed = missed
    by_fault faults.RowsFull met missed = missed
    by_fault faults.BadLength met missed = missed
    by_fault faults.WrongSet met missed = missed
    by_fault faults.BadAxis met missed = missed
    by_fault faults.BadOperand met missed = missed
    by_fault faults.Overlap met missed = missed
    by_fault faults.EditionsSpent met missed = missed
    by_fault (faults.HistoryFull n) met missed = missed
    by_fault faults.NoMemory met missed = missed
    by_fault (faults.Syntax n) met missed = missed
    by_fault (faults.StrangeSeat n m) met missed = absurd (let e : true ≡ false = met in cc)
    by_fault faults.NoOrder met missed = missed
    by_fault faults.NoEntry met missed = absurd (let e : true ≡ false = met in cc)

-- what is seen may be said by more
pub plays_so : (p : Profile) (P Q : List Receipt → List Entry → Type 0) (made : List Receipt) (before : List Entry) (h : Hand) (lines : List (List ℕ)) (rs : List Receipt) (h' : Hand) (text : List ℕ)
    → ((m : List Receipt) (seen : List Entry) → P m seen → Q m seen) → HandPlays p P made before h lines rs h' text → HandPlays p Q made before h lines rs h' text
plays_so p P Q made before h [] rs h' text so plays = plays
plays_so p P Q made before h (line ∷ lines) rs h' text so (seen, m, first, rest, begun, more, grows, sees, answers, plays, rs_are, text_is) = (
  seen,
  m,
  first,
  rest,
  begun,
  more,
  grows,
  so made seen sees,
  answers,
  plays_so p P Q (made ++ first) seen m lines rest h' more so plays,
  rs_are,
  text_is,
)

-- one line more. All that was seen before is the beginning of a history, with which begins what is seen then
plays_more : (p : Profile) (P Q : List Receipt → List Entry → Type 0) (made : List Receipt) (before top : List Entry) (h : Hand) (lines : List (List ℕ)) (rs : List Receipt) (m : Hand) (text line : List ℕ) (seen : List Entry) (more : List Receipt) (h' : Hand) (reply : List ℕ)
    → ((made : List Receipt) (old : List Entry) → P made old → Q made old × IsPrefix old top) → IsPrefix before top → IsPrefix top seen → Q (made ++ rs) seen
    → HandPlays p P made before h lines rs m text → Answers p seen m line more h' reply → HandPlays p Q made before h (lines ++ line ∷ []) (rs ++ more) h' (text ++ reply)
plays_more p P Q made before top h [] rs m text line seen more h' reply so low high sees (none, same, empty) a = (
  seen,
  h',
  more,
  [],
  reply,
  [],
  prefix_trans before top seen low high,
  subst (λ (l : List Receipt). Q l seen) (ap (λ (l : List Receipt). made ++ l) none ∙ append-nil made) sees,
  subst (λ (x : Hand). Answers p seen x line more h' reply) same a,
  (refl, refl, refl),
  ap (λ (l : List Receipt). l ++ more) none ∙ sym (append-nil more),
  ap (λ (l : List ℕ). l ++ reply) empty ∙ sym (append-nil reply),
)
plays_more p P Q made before top h (l ∷ lines) rs m text line seen more h' reply so low high sees (old, m1, first, rest, begun, first_told, grows, saw, answers, plays, rs_are, text_is) a = (
  old,
  m1,
  first,
  rest ++ more,
  begun,
  first_told ++ reply,
  grows,
  (so made old saw).0,
  answers,
  plays_more p P Q (made ++ first) old top m1 lines rest m first_told line seen more h' reply so (so made old saw).1 high
      (subst (λ (x : List Receipt). Q x seen) (ap (λ (x : List Receipt). made ++ x) rs_are ∙ sym (append_assoc made first rest)) sees) plays a,
  ap (λ (x : List Receipt). x ++ more) rs_are ∙ append_assoc first rest more,
  ap (λ (x : List ℕ). x ++ reply) text_is ∙ append_assoc begun first_told reply,
)

pub played_none : (p : Profile) (s : SeatState) → IsInTime s → HasPlayed p s s [] (hand_at s) []
played_none p s time = ([], stays s time, (refl, refl, refl))

-- one line more
pub played_more : (p : Profile) (s s1 s2 : SeatState) (lines : List (List ℕ)) (h h' : Hand) (text line reply : List ℕ) → HasPlayed p s s1 lines h text
    → HasAnswered p s1 s2 h line h' reply → HasPlayed p s s2 (lines ++ line ∷ []) h' (text ++ reply)
played_more p s s1 s2 lines h h' text line reply (rs, moved, plays) (more, seen, (next, sees), answers) = (
  rs ++ more,
  moves_on s s1 s2 rs more moved next,
  plays_more p (Glimpses s.past s1) (Glimpses s.past s2) s.receipts [] s1.past (hand_at s) lines rs h text line seen more h' reply
      (λ made old g. (still s.past s1 s2 more made old moved.1 next.0 g, g.past)) (prefix_none s1.past) sees.begins (from_first s s1 s2 rs seen moved.0 sees) plays answers,
)

asked_count : (p : Profile) (seen : List Entry) (h : Hand) (a : Asked) (rs : List Receipt) (h' : Hand) (text : List ℕ) → AnswersAsked p seen h a rs h' text → h'.commands ≡ h.commands + 1
asked_count p seen h (asks.Call e) rs h' text (r, one, event, said) = ap (λ (p : Hand × List ℕ). p.0.commands) said ∙ told_count h r.reply
asked_count p seen h (asks.Look key spot) rs h' text (none, said) = ap (λ (p : Hand × List ℕ). p.0.commands) said ∙ told_count h (reply.Show (show_reply (state_of p seen) key spot))
asked_count p seen h asks.Faults rs h' text (r, looks, one, event, reply, said) = ap (λ (p : Hand × List ℕ). p.0.commands) said
asked_count p seen h asks.Settle rs h' text (none, said) = ap (λ (p : Hand × List ℕ). p.0.commands) said
asked_count p seen h (asks.Chosen chosen) rs h' text (none, said) = ap (λ (p : Hand × List ℕ). p.0.commands) said
asked_count p seen h (asks.Refused fault) rs h' text (none, said) = ap (λ (p : Hand × List ℕ). p.0.commands) said

answers_count : (p : Profile) (seen : List Entry) (h : Hand) (line : List ℕ) (rs : List Receipt) (h' : Hand) (text : List ℕ) → Answers p seen h line rs h' text → h'.commands ≤ h.commands + 1
answers_count p seen h line rs h' text = by_asked (asked true h line)
  where
    by_asked : (o : Option Asked) → AnswersIf p seen h o rs h' text → h'.commands ≤ h.commands + 1
    by_asked None (none, same, empty) = let as_before : h'.commands ≡ h.commands = ap (λ (x : Hand). x.commands) same in omega (arith, as_before)
    by_asked (Some a) answers = let one = asked_count p seen h a rs h' text answers in omega (arith, one)

-- a line of a part is answered
pub play_next : (p : Profile) (s s1 s2 : SeatState) (ls : List (Vec ℕ Global)) (i : ℕ) (line : Vec ℕ Global) (h h' : Hand) (text text' reply line' : List ℕ) → i < length ls → line ≡ get_or ls i line
    → line' ≡ line.items → text' ≡ text ++ reply → HasPlayed p s s1 (map (λ (v : Vec ℕ Global). v.items) (take i ls)) h text → h.commands ≤ i → HasAnswered p s1 s2 h line' h' reply
    → HasPlayed p s s2 (map (λ (v : Vec ℕ Global). v.items) (take (i + 1) ls)) h' text' × (h'.commands ≤ i + 1)
play_next p s s1 s2 ls i line h h' text text' reply line' within is same longer played few answered =
    let here : HasAnswered p s1 s2 h line.items h' reply = subst (λ (x : List ℕ). HasAnswered p s1 s2 h x h' reply) same answered in
    let next = played_more p s s1 s2 (map (λ (v : Vec ℕ Global). v.items) (take i ls)) h h' text line.items reply played here in
    let count = answers_count p here.1 h line.items here.0 h' reply here.3 in (
      subst (λ (x : List ℕ). HasPlayed p s s2 (map (λ (v : Vec ℕ Global). v.items) (take (i + 1) ls)) h' x) (sym longer)
          (subst (λ (x : List (List ℕ)). HasPlayed p s s2 x h' (text ++ reply)) (sym (lines_more ls i line within is)) next),
      omega (arith, count, few),
    )

-- a line that is told something is not skipped
pub told_line : (p : Profile) (s s' : SeatState) (h h' : Hand) (line text : List ℕ) → HasAnswered p s s' h line h' text → 0 < length text → is_skipped line ≡ false
told_line p s s' h h' line text (rs, seen, moved, answers) some = by_test (is_skipped line) answers
  where
    by_test : (b : Bool) → AnswersIf p seen h (if b then None else Some (asked_by_line true h line)) rs h' text → b ≡ false
    by_test true (none, same, empty) = let no : length text ≡ 0 = ap length empty in absurd (omega (arith, some, no))
    by_test false a = refl

-- where one of some lines is not skipped, not all are
pub not_all : (ls : List (Vec ℕ Global)) (i : ℕ) (line : Vec ℕ Global) → i < length ls → line ≡ get_or ls i line → is_skipped line.items ≡ false
    → list_all (λ l. is_skipped l) (map (λ (v : Vec ℕ Global). v.items) ls) ≡ false
not_all [] i line within is kept = absurd (omega (arith, within))
not_all (l ∷ ls) zero line within is kept = rw (← is, kept) refl
not_all (l ∷ ls) (suc i) line within is kept = rw (not_all ls i line (omega (arith, within)) is kept) (never (is_skipped l.items))
  where
    never : (b : Bool) → (b && false) ≡ false
    never true = refl
    never false = refl

-- what holds anyhow holds at an error
pub on_err : {X : Type 0} (r : Result X Fault) (P : Type 0) → P → OnErr r P
on_err (Ok x) P h = tt
on_err (Err fault) P h = h
