-- A history with one more entry.
use Rattle.std.proofs.Common.{◌≡◌, ℕ, ◌+◌, ◌<◌, ◌≤◌, List, [], ◌∷◌, ◌++◌, length, map, None, false, refl, sym, ap, ◌∙◌, subst, arith, length-append, Bool, true, cond, Some}
use Rattle.std.specs.Prelude.{nat_lt, ◌==◌}
use mathlib.Core.List.{IsPrefix}
use Rattle.std.proofs.lemmas.Bool.Decides.{nat_tests}
use Rattle.paris_names.specs.declared.profiles.Profile.{Profile}
use Rattle.paris_events.specs.State.{State, empty_state_of}
use Rattle.paris_events.specs.Events.{after, after_all, reply_to}
use Rattle.paris_events.specs.declared.events.Event.{Event}
use Rattle.paris_events.specs.declared.events.Reply.{Reply}
use Rattle.paris_names.specs.declared.faults.Fault.TheVariants.{HistoryFull, StrangeSeat}
use Rattle.paris_records.specs.declared.records.Entry.{Entry}
use Rattle.paris_records.specs.declared.records.Receipt.{Receipt}
use Rattle.paris_records.specs.History.{Legal, LegalFrom, state_of, entry, receipt}
use Rattle.paris_desk.specs.Rules.{MayFollow}
use Rattle.paris_desk.specs.Seats.{sitting}
use Rattle.paris_desk.specs.Calls.{Recorded, hold_fault}

state_snoc : (s : State) (es : List Entry) (e : Entry)
    → after_all s (map (λ (x : Entry). x.event) (es ++ e ∷ [])) ≡ after (after_all s (map (λ (x : Entry). x.event) es)) e.event
state_snoc s [] e = refl
state_snoc s (x ∷ es) e = state_snoc (after s x.event) es e

legal_snoc : (s : State) (es : List Entry) (e : Entry) → LegalFrom s es → e.reply ≡ reply_to (after_all s (map (λ (x : Entry). x.event) es)) e.event
    → LegalFrom s (es ++ e ∷ [])
legal_snoc s [] e legal is = (is, tt)
legal_snoc s (x ∷ es) e legal is = (legal.0, legal_snoc (after s x.event) es e legal.1 is)

pub legal_more : (p : Profile) (h : List Entry) (e : Entry) → Legal p h → MayFollow p h e → Legal p (h ++ e ∷ [])
legal_more p h e legal may = legal_snoc (empty_state_of p 0) h e legal may

pub state_more : (p : Profile) (h : List Entry) (e : Entry) → state_of p (h ++ e ∷ []) ≡ after (state_of p h) e.event
state_more p h e = state_snoc (empty_state_of p 0) h e

-- the book after one entry more
pub state_next : (p : Profile) (h k k' : List Entry) (s t : State) (e : Entry) (ev : Event) → s ≡ state_of p h → k ≡ h → k' ≡ k ++ e ∷ [] → e.event ≡ ev → t ≡ after s ev → t ≡ state_of p k'
state_next p h k k' s t e ev is same more event step =
    step ∙ ap (λ z. after z ev) is ∙ ap (λ z. after (state_of p h) z) (sym event) ∙ sym (state_more p h e) ∙ ap (λ l. state_of p (l ++ e ∷ [])) (sym same) ∙ ap (state_of p) (sym more)

-- what a lock keeps of a history, with a book in a state and a ledger's count
abbrev pub Kept : Profile → ℕ → List Entry → State → ℕ → Type 0
Kept p limit h s t = Legal p h × (s ≡ state_of p h) × (t ≡ length h) × (length h ≤ limit)

-- it is kept where the history gets an entry with the machine's reply
pub keeps : (p : Profile) (limit : ℕ) (h h' : List Entry) (s s' : State) (t t' : ℕ) (e : Entry) → Kept p limit h s t → length h < limit → h' ≡ h ++ e ∷ []
    → e.reply ≡ reply_to s e.event → s' ≡ after s e.event → t' ≡ t + 1 → Kept p limit h' s' t'
keeps p limit h h' s s' t t' e kept room more answer step count =
    let legal : Legal p (h ++ e ∷ []) = legal_more p h e kept.0 (answer ∙ ap (λ z. reply_to z e.event) kept.1) in
    let state : s' ≡ state_of p (h ++ e ∷ []) = step ∙ ap (λ z. after z e.event) kept.1 ∙ sym (state_more p h e) in
    let long : length (h ++ e ∷ []) ≡ length h + 1 = length-append h (e ∷ []) in
    let total : t' ≡ length (h ++ e ∷ []) = omega (arith, count, kept.2, long) in
    subst (λ z. Kept p limit z s' t') (sym more) (legal, state, total, omega (arith, long, room))

-- where no fault is due, the seat was told of no more entries than there are, and there is room for one
pub none_due : (limit len front : ℕ) → len ≤ limit → hold_fault limit len front ≡ None → (front ≤ len) × (len < limit)
none_due limit len front few is = by_tests (nat_lt len front) refl (len == limit) refl is
  where
    by_tests : (a : Bool) → nat_lt len front ≡ a → (b : Bool) → (len == limit) ≡ b → cond a (Some (StrangeSeat front len)) (cond b (Some (HistoryFull limit)) None) ≡ None → (front ≤ len) × (len < limit)
    by_tests true lt b eq is = cc
    by_tests false lt true eq is = cc
    by_tests false lt false eq is = (grind (arith, nat_tests, lt), grind (arith, nat_tests, eq, few))

-- where the seat was told of more entries than there are, that is the fault
pub strange_due : (limit len len' front : ℕ) → len' ≡ len → len' < front → Some (StrangeSeat front len') ≡ hold_fault limit len front
strange_due limit len len' front same less =
    let lt : nat_lt len front ≡ true = grind (arith, nat_tests) in rw (same, lt) refl

-- what a hold that makes an event leaves: the lock keeps its history, and the call is recorded
pub recorded : (p : Profile) (limit n : ℕ) (h h' : List Entry) (number front : ℕ) (rs rs' : List Receipt) (past past' : List Entry) (s s' : State) (t t' : ℕ) (ev : Event) (r : Reply) (e : Entry) (rc : Receipt)
    → Kept p limit h s t → n ≡ length h + 1 → hold_fault limit (length h) front ≡ None → IsPrefix past h → r ≡ reply_to s ev → e ≡ entry number ev (reply_to s ev) → rc ≡ receipt number n ev (reply_to s ev) → s' ≡ after s ev → t' ≡ t + 1
    → h' ≡ h ++ e ∷ [] → rs' ≡ rs ++ rc ∷ [] → past' ≡ h'
    → Kept p limit h' s' t' × Recorded p limit h h' (sitting number rs front past) (sitting number rs' n past') ev r
recorded p limit n h h' number front rs rs' past past' s s' t t' ev r e rc kept count due begins answer made told step total more noted knows =
    let made' : e ≡ entry number ev r = made ∙ ap (λ z. entry number ev z) (sym answer) in
    let history : h' ≡ h ++ entry number ev r ∷ [] = more ∙ ap (λ z. h ++ z ∷ []) made' in
    let room = (none_due limit (length h) front kept.3 due).1 in
    let keeping = keeps p limit h h' s s' t t' (entry number ev r) kept room history answer step total in
    let long : length (h ++ e ∷ []) ≡ length h + 1 = length-append h (e ∷ []) in
    let number_is : n ≡ length h' = count ∙ sym long ∙ sym (ap length more) in
    let told' : rc ≡ receipt number (length h') ev r = told ∙ (λ i. receipt number (number_is i) ev (sym answer i)) in
    let receipts : rs' ≡ rs ++ receipt number (length h') ev r ∷ [] = noted ∙ ap (λ z. rs ++ z ∷ []) told' in (
      keeping,
      record {
        due = due;
        begins = begins;
        answer = answer ∙ ap (λ z. reply_to z ev) kept.1;
        history = history;
        legal = keeping.0;
        seat = λ i. sitting number (receipts i) (number_is i) (knows i);
      },
    )
