-- Seats that are taken apart and put together, on plain variables.
use Rattle.std.proofs.Common.{◌≡◌, ◌⊎◌, ℕ, ◌+◌, ◌<◌, ◌≤◌, max, List, [], ◌∷◌, ◌++◌, length, sym, ap, ◌∙◌, subst, ⊎_elim, arith}
use mathlib.Core.List.{IsPrefix}
use Rattle.paris_events.specs.declared.events.Event.{Event}
use Rattle.paris_events.specs.declared.events.Reply.{Reply}
use Rattle.paris_records.specs.declared.records.Entry.{Entry}
use Rattle.paris_records.specs.declared.records.Receipt.{Receipt}
use Rattle.paris_records.specs.History.{entry, receipt}
use Rattle.paris_records.specs.Receipts.{IsPart}
use Rattle.paris_records.proofs.Counting.{part_grows, part_snoc}
use Rattle.paris_desk.specs.Pasts.{Joined}
use Rattle.paris_desk.specs.Seats.{SeatState, sitting}
use Rattle.paris_desk.proofs.Prefixes.{prefix_self, prefix_length}

-- the past that a join takes: the rest's own where that is longer
abbrev pub Takes : List Entry → List Entry → List Entry → Type 0
Takes past known taken = ((taken ≡ known) × (length past < length known)) ⊎ ((taken ≡ past) × (length known ≤ length past))

pub joined : (rest : SeatState) (number number' front front' : ℕ) (rs : List Receipt) (past known taken : List Entry) → rest ≡ sitting number rs front known → Takes past known taken
    → (length past ≤ length known → IsPrefix past known) → (length known ≤ length past → IsPrefix known past) → number' ≡ rest.number → front' ≡ max front (length taken)
    → Joined past rest (sitting number' rs front' taken)
joined rest number number' front front' rs past known taken is t shorter longer same at =
    ⊎_elim (λ (a : (taken ≡ known) × (length past < length known)).
    let rest_is : rest.past ≡ taken = ap (λ (s : SeatState). s.past) is ∙ sym a.0 in
    let pre : IsPrefix past taken = subst (λ (z : List Entry). IsPrefix past z) (sym a.0) (shorter (omega (arith, a.1))) in
    made (λ p. absurd (let l = prefix_length rest.past past p in let e = ap length (ap (λ (s : SeatState). s.past) is) in omega (arith, l, e, a.1))) pre (subst (λ (z : List Entry). IsPrefix z taken) (sym rest_is) (prefix_self taken)))
    (λ (b : (taken ≡ past) × (length known ≤ length past)).
    let pre : IsPrefix known past = longer b.1 in
    let rest_is : rest.past ≡ known = ap (λ (s : SeatState). s.past) is in
    made (λ p. b.0) (subst (λ (z : List Entry). IsPrefix past z) (sym b.0) (prefix_self past)) (subst (λ (z : List Entry). IsPrefix rest.past z) (sym b.0) (subst (λ (z : List Entry). IsPrefix z past) (sym rest_is) pre))) t
  where
    made : (IsPrefix rest.past past → taken ≡ past) → IsPrefix past taken → IsPrefix rest.past taken → Joined past rest (sitting number' rs front' taken)
    made k a b = record { same = (same, sym (ap (λ (s : SeatState). s.receipts) is)); keeps = k; begins = (a, b); front = at ∙ ap (λ (f : ℕ). max f (length taken)) (sym (ap (λ (s : SeatState). s.front) is)) }

-- the receipts are still a part of what is taken
pub part_taken : (number number' : ℕ) (rs : List Receipt) (past known taken : List Entry) → number' ≡ number → IsPart number 0 rs known → Takes past known taken → (length known ≤ length past → IsPrefix known past) → IsPart number' 0 rs taken
part_taken number number' rs past known taken same p t longer =
    let p' : IsPart number' 0 rs known = subst (λ (n : ℕ). IsPart n 0 rs known) (sym same) p in
    ⊎_elim (λ (a : (taken ≡ known) × (length past < length known)). subst (λ (z : List Entry). IsPart number' 0 rs z) (sym a.0) p')
    (λ (b : (taken ≡ past) × (length known ≤ length past)). subst (λ (z : List Entry). IsPart number' 0 rs z) (sym b.0) (part_grows number' 0 rs known past (longer b.1) p')) t

-- the seat is as before where its own past is put back
pub back : (past : List Entry) (rest s t : SeatState) → Joined past rest s → rest ≡ t → past ≡ t.past → length t.past ≤ t.front → s ≡ t
back past rest s t j is same within =
    let pre : IsPrefix rest.past past = subst (λ (z : List Entry). IsPrefix rest.past z) (ap (λ (z : SeatState). z.past) is ∙ sym same) (prefix_self rest.past) in
    let p : s.past ≡ t.past = j.keeps pre ∙ same in
    let front : s.front ≡ t.front = let e = j.front in let l = ap length p in let r = ap (λ (z : SeatState). z.front) is in omega (arith, e, l, r, within) in
    let number : s.number ≡ t.number = j.same.0 ∙ ap (λ (z : SeatState). z.number) is in
    let receipts : s.receipts ≡ t.receipts = j.same.1 ∙ ap (λ (z : SeatState). z.receipts) is in
    λ i. sitting (number i) (receipts i) (front i) (p i)

-- a recorded call: its receipt stands in the history
pub part_called : (number n : ℕ) (h known k' : List Entry) (rs rs' : List Receipt) (e : Entry) (rc : Receipt) (ev : Event) (r : Reply) → n ≡ length h + 1 → IsPart number 0 rs known → IsPrefix known h → e ≡ entry number ev r → rc ≡ receipt number n ev r
    → rs' ≡ rs ++ rc ∷ [] → k' ≡ h ++ e ∷ [] → IsPart number 0 rs' k'
part_called number n h known k' rs rs' e rc ev r count p pre made told noted more =
    let q = part_snoc number 0 rs h e (ap (λ (x : Entry). x.seat) made) (part_grows number 0 rs known h pre p) in
    let at : 0 + length h + 1 ≡ n = omega (arith, count) in
    let a : receipt number (0 + length h + 1) e.event e.reply ≡ rc = ap (λ (k : ℕ). receipt number k e.event e.reply) at ∙ ap (λ (x : Entry). receipt number n x.event x.reply) made ∙ sym told in
    subst (λ (z : List Receipt). IsPart number 0 z k') (ap (λ (x : Receipt). rs ++ x ∷ []) a ∙ sym noted) (subst (λ (z : List Entry). IsPart number 0 (rs ++ receipt number (0 + length h + 1) e.event e.reply ∷ []) z) (sym more) q)
