-- Turns of the loops that compare a history with receipts.
use Rattle.std.proofs.Common.{◌≡◌, ◌≢◌, ℕ, suc, ◌+◌, ◌<◌, ◌≤◌, Bool, true, false, List, [], ◌∷◌, length, get_or, drop, map, Vec, Global, refl, sym, ap, ◌∙◌, subst, arith, add-one}
use Rattle.std.specs.Prelude.{◌↔◌, ◌==◌, IsTrue, nat_lt, if◌then◌else◌}
use Rattle.std.specs.List.{list_all}
use Rattle.std.proofs.Math.Seq.{drop-cons}
use Rattle.std.proofs.lemmas.Bool.{and_parts, and_from}
use Rattle.std.proofs.lemmas.Bool.Decides.{nat_tests}
use Rattle.std.proofs.lemmas.List.{get_or_past, length-map}
use Rattle.paris_events.specs.State.{State}
use Rattle.paris_events.specs.Events.{after, reply_to}
use Rattle.paris_events.specs.declared.events.Event.{Event}
use Rattle.paris_events.specs.declared.events.Reply.{Reply}
use Rattle.paris_records.specs.declared.records.Entry.{Entry}
use Rattle.paris_records.specs.declared.records.Receipt.{Receipt}
use Rattle.paris_records.specs.History.{LegalFrom, entry}
use Rattle.paris_records.specs.Agreement.{Accounted, InPlace, InPlaces, calls_of, receipts_of_seat}

pub turn : {X : Type 0} (i : ℕ) (xs : List X) (x : X) → i < length xs → x ≡ get_or xs i x → drop i xs ≡ x ∷ drop (i + 1) xs
turn i xs x lt is = rw add-one (drop-cons xs i x lt ∙ ap (λ z. z ∷ drop (suc i) xs) (sym is))

pub not_true : ¬ (IsTrue false)
not_true h = let e : false ≡ true = h in cc

-- a reply that is compared with the entry's
pub answered : (s : State) (event : Event) (r : Reply) (e : Entry) (b : Bool) → r ≡ reply_to s event → event ≡ e.event → (IsTrue b ↔ (r ≡ e.reply)) → IsTrue b ↔ (e.reply ≡ reply_to s e.event)
answered s event r e b answer same is =
    let made : r ≡ reply_to s e.event = answer ∙ ap (λ z. reply_to s z) same in
    ((λ t. sym (is.0 t) ∙ made), (λ right. is.1 (made ∙ sym right)))

-- an entry's reply is another one: the history is not legal
pub legal_stops : (i : ℕ) (h : List Entry) (e : Entry) (z s : State) → i < length h → e ≡ get_or h i e → (LegalFrom z h ↔ LegalFrom s (drop i h)) → e.reply ≢ reply_to s e.event → ¬ (LegalFrom z h)
legal_stops i h e z s lt is left apart legal =
    let l : LegalFrom s (e ∷ drop (i + 1) h) = subst (λ zs. LegalFrom s zs) (turn i h e lt is) (left.0 legal) in apart l.0

-- it is the machine's
pub legal_goes : (i : ℕ) (h : List Entry) (e : Entry) (z s s' : State) → i < length h → e ≡ get_or h i e → (LegalFrom z h ↔ LegalFrom s (drop i h)) → e.reply ≡ reply_to s e.event → s' ≡ after s e.event
    → LegalFrom z h ↔ LegalFrom s' (drop (i + 1) h)
legal_goes i h e z s s' lt is left right step =
    let t = turn i h e lt is in (
      (λ legal. let l : LegalFrom s (e ∷ drop (i + 1) h) = subst (λ zs. LegalFrom s zs) t (left.0 legal) in subst (λ y. LegalFrom y (drop (i + 1) h)) (sym step) l.1),
      (λ rest. left.1 (subst (λ zs. LegalFrom s zs) (sym t) (right, subst (λ y. LegalFrom y (drop (i + 1) h)) step rest))),
    )

-- an entry that has a seat and a receipt's event has its reply, or is another one
pub of_entry : (kept : Entry) (seat : ℕ) (r : Receipt) (b : Bool) → kept.seat ≡ seat → kept.event ≡ r.event → (IsTrue b ↔ (kept.reply ≡ r.reply)) → IsTrue b ↔ (kept ≡ entry seat r.event r.reply)
of_entry kept seat r b at made is = (λ t i. entry (at i) (made i) (is.0 t i), λ same. is.1 (ap (λ (x : Entry). x.reply) same))

-- a receipt is out of its place
pub places_stop : (h : List Entry) (seat above i : ℕ) (rs : List Receipt) (r : Receipt) → i < length rs → r ≡ get_or rs i r → (InPlaces h seat 0 rs ↔ InPlaces h seat above (drop i rs)) → ¬ (InPlace h seat above r) → ¬ (InPlaces h seat 0 rs)
places_stop h seat above i rs r lt is left out all =
    let l : InPlaces h seat above (r ∷ drop (i + 1) rs) = subst (λ zs. InPlaces h seat above zs) (turn i rs r lt is) (left.0 all) in out l.0

-- it is in its place
pub places_go : (h : List Entry) (seat above i : ℕ) (rs : List Receipt) (r : Receipt) → i < length rs → r ≡ get_or rs i r → (InPlaces h seat 0 rs ↔ InPlaces h seat above (drop i rs)) → InPlace h seat above r
    → InPlaces h seat 0 rs ↔ InPlaces h seat r.number (drop (i + 1) rs)
places_go h seat above i rs r lt is left here =
    let t = turn i rs r lt is in (
      (λ all. let l : InPlaces h seat above (r ∷ drop (i + 1) rs) = subst (λ zs. InPlaces h seat above zs) t (left.0 all) in l.1),
      (λ rest. left.1 (subst (λ zs. InPlaces h seat above zs) (sym t) (here, rest))),
    )

-- where all seats are below a number, no other one has an entry
none_above : (n : ℕ) (h : List Entry) → list_all (λ (e : Entry). nat_lt e.seat n) h ≡ true → (t : ℕ) → n ≤ t → calls_of t h ≡ 0
none_above n [] all t le = refl
none_above n (e ∷ es) all t le =
    let parts = and_parts (nat_lt e.seat n) (list_all (λ (x : Entry). nat_lt x.seat n) es) all in
    let rest = none_above n es parts.1 t le in
    let other : (e.seat == t) ≡ false = grind (arith, nat_tests, parts.0, le) in
    rw other (let none : 0 + calls_of t es ≡ 0 = omega (arith, rest) in none)

-- and the other way round
all_below : (n : ℕ) (h : List Entry) → ((t : ℕ) → n ≤ t → calls_of t h ≡ 0) → list_all (λ (e : Entry). nat_lt e.seat n) h ≡ true
all_below n [] none = refl
all_below n (e ∷ es) none = and_from (nat_lt e.seat n) (list_all (λ (x : Entry). nat_lt x.seat n) es) (own (nat_lt e.seat n) refl) (all_below n es rest)
  where
    rest : (t : ℕ) → n ≤ t → calls_of t es ≡ 0
    rest t le = let c : (if e.seat == t then 1 else 0) + calls_of t es ≡ 0 = none t le in omega (arith, c)

    own : (b : Bool) → nat_lt e.seat n ≡ b → nat_lt e.seat n ≡ true
    own true is = is
    own false is =
        let le : n ≤ e.seat = grind (arith, nat_tests, is) in
        let c : (if e.seat == e.seat then 1 else 0) + calls_of e.seat es ≡ 0 = none e.seat le in
        let self : (e.seat == e.seat) ≡ true = grind (arith, nat_tests) in
        absurd (grind (arith, self, c))

-- each list accounts for its seat's entries, and each entry's seat has a list: so all seats are accounted for
all_seats : (n : ℕ) (h : List Entry) (rss : List (List Receipt)) → length rss ≡ n → list_all (λ (e : Entry). nat_lt e.seat n) h ≡ true → ((seat : ℕ) → seat < n → Accounted h seat (receipts_of_seat rss seat)) → (seat : ℕ) → Accounted h seat (receipts_of_seat rss seat)
all_seats n h rss count below lists seat = by_test (nat_lt seat n) refl
  where
    by_test : (b : Bool) → nat_lt seat n ≡ b → Accounted h seat (receipts_of_seat rss seat)
    by_test true is = lists seat (grind (arith, nat_tests, is))
    by_test false is =
        let le : n ≤ seat = grind (arith, nat_tests, is) in
        let none : calls_of seat h ≡ 0 = none_above n h below seat le in
        subst (λ rs. Accounted h seat rs) (sym (get_or_past rss seat [] (omega (arith, count, le)))) (tt, none)

-- where each entry's seat has a list, the lists that account for their seats' entries account for all
pub each_listed : (h : List Entry) (vs : List (Vec Receipt Global)) (b : Bool) → list_all (λ (e : Entry). nat_lt e.seat (length vs)) h ≡ true
    → (IsTrue b ↔ ((seat : ℕ) → seat < length vs → Accounted h seat (receipts_of_seat (map (λ (r : Vec Receipt Global). r.items) vs) seat)))
    → IsTrue b ↔ ((seat : ℕ) → Accounted h seat (receipts_of_seat (map (λ (r : Vec Receipt Global). r.items) vs) seat))
each_listed h vs b below is =
    let f : Vec Receipt Global → List Receipt = λ r. r.items in
    (λ t. all_seats (length vs) h (map f vs) (length-map vs f) below (is.0 t), λ all. is.1 (λ seat lt. all seat))

-- where all seats are accounted for, each entry's seat has a list
pub are_listed : (h : List Entry) (vs : List (Vec Receipt Global)) → ((seat : ℕ) → Accounted h seat (receipts_of_seat (map (λ (r : Vec Receipt Global). r.items) vs) seat)) → list_all (λ (e : Entry). nat_lt e.seat (length vs)) h ≡ true
are_listed h vs all =
    let f : Vec Receipt Global → List Receipt = λ r. r.items in
    let count = length-map vs f in
    all_below (length vs) h (λ t le. (all t).1 ∙ ap length (get_or_past (map f vs) t [] (omega (arith, count, le))))
