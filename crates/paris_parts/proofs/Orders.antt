-- A history in which the calls of the first seat come before those of the others. On lists alone.
use Rattle.std.proofs.Common.{◌≡◌, ◌⊎◌, ℕ, ◌+◌, ◌<◌, ◌≤◌, Bool, true, false, List, [], ◌∷◌, refl, ap, subst, inl, inr, arith}
use Rattle.std.specs.Prelude.{◌==◌, if◌then◌else◌}
use Rattle.std.specs.List.{All}
use Rattle.std.proofs.lemmas.Bool.{cases_lt}
use Rattle.std.proofs.lemmas.Bool.Decides.{nat_tests}
use Rattle.std.proofs.lemmas.List.Elements.{All-cons, All-head, All-nil, All-tail}
use Rattle.paris_records.specs.declared.records.Entry.{Entry}
use Rattle.paris_records.specs.declared.records.Receipt.{Receipt}
use Rattle.paris_records.specs.History.{receipt}
use Rattle.paris_records.specs.Receipts.{receipts_in}
use Rattle.paris_desk.proofs.Moving.{Behind}
use Rattle.paris_parts.specs.Run.{FirstBeforeOthers}
use Rattle.paris_parts.proofs.Sights.{UpTo}

abbrev IsFirsts : Entry → Type 0
IsFirsts e = e.seat ≡ 0

abbrev IsOthers : Entry → Type 0
IsOthers e = 1 ≤ e.seat

-- what holds of a seat's receipts holds of those behind an entry
later : (P : Receipt → Type 0) (s n : ℕ) (e : Entry) (es : List Entry) → All P (receipts_in s n (e ∷ es)) → All P (receipts_in s (n + 1) es)
later P s n e es = by_test (e.seat == s)
  where
    by_test : (b : Bool) → All P (if b then receipt s (n + 1) e.event e.reply ∷ receipts_in s (n + 1) es else receipts_in s (n + 1) es) → All P (receipts_in s (n + 1) es)
    by_test true h = All-tail P (receipt s (n + 1) e.event e.reply) (receipts_in s (n + 1) es) h
    by_test false h = h

-- and of that of an entry of the seat
own : (P : Receipt → Type 0) (s n : ℕ) (e : Entry) (es : List Entry) → e.seat ≡ s → All P (receipts_in s n (e ∷ es)) → P (receipt s (n + 1) e.event e.reply)
own P s n e es is h =
    let hit : (e.seat == s) ≡ true = grind (arith, nat_tests, is) in
    All-head P (receipt s (n + 1) e.event e.reply) (receipts_in s (n + 1) es)
    (subst (λ (b : Bool). All P (if b then receipt s (n + 1) e.event e.reply ∷ receipts_in s (n + 1) es else receipts_in s (n + 1) es)) hit h)

-- where the first seat's receipts are up to a number, no entry behind it is of that seat
others_only : (k n : ℕ) (es : List Entry) → k ≤ n → All (UpTo k) (receipts_in 0 n es) → All IsOthers es
others_only k n [] high low = All-nil IsOthers
others_only k n (e ∷ es) high low =
    All-cons IsOthers e es (by_seat (cases_lt 0 e.seat)) (others_only k (n + 1) es (omega (arith, high)) (later (UpTo k) 0 n e es low))
  where
    by_seat : (0 < e.seat) ⊎ (e.seat ≤ 0) → 1 ≤ e.seat
    by_seat (inl pos) = omega (arith, pos)
    by_seat (inr none) = absurd (let few : n + 1 ≤ k = own (UpTo k) 0 n e es (omega (arith, none)) low in omega (arith, few, high))

-- where the others' receipts are behind it too, the history is the first seat's entries, and then those of the others
pub first_before : (k n : ℕ) (es : List Entry) → ((s : ℕ) → 1 ≤ s → All (Behind k) (receipts_in s n es)) → All (UpTo k) (receipts_in 0 n es) → FirstBeforeOthers es
first_before k n [] late low = ([], [], refl, All-nil IsFirsts, All-nil IsOthers)
first_before k n (e ∷ es) late low =
    by_place (first_before k (n + 1) es (λ s other. later (Behind k) s n e es (late s other)) (later (UpTo k) 0 n e es low)) (cases_lt n k)
  where
    by_seat : n < k → (0 < e.seat) ⊎ (e.seat ≤ 0) → e.seat ≡ 0
    by_seat less (inl pos) = absurd (let far : k < n + 1 = own (Behind k) e.seat n e es refl (late e.seat (omega (arith, pos))) in omega (arith, far, less))
    by_seat less (inr none) = omega (arith, none)

    by_place : FirstBeforeOthers es → (n < k) ⊎ (k ≤ n) → FirstBeforeOthers (e ∷ es)
    by_place (first, others, are, firsts, rest) (inl less) =
        (e ∷ first, others, ap (λ (l : List Entry). e ∷ l) are, All-cons IsFirsts e first (by_seat less (cases_lt 0 e.seat)) firsts, rest)
    by_place next (inr high) = ([], e ∷ es, refl, All-nil IsFirsts, others_only k n (e ∷ es) high low)
