-- Receipts that are a part of a history. On lists alone.
use Rattle.std.proofs.Common.{◌≡◌, ℕ, suc, ◌+◌, ◌≤◌, Bool, true, false, List, [], ◌∷◌, ◌++◌, length, refl, sym, ap, ◌∙◌, subst, inl, inr, ⊎_elim, arith}
use Rattle.std.specs.Prelude.{◌==◌, if◌then◌else◌}
use Rattle.std.proofs.lemmas.Bool.Decides.{nat_tests}
use mathlib.Core.List.{IsPrefix}
use Rattle.paris_records.specs.declared.records.Entry.{Entry}
use Rattle.paris_records.specs.declared.records.Receipt.{Receipt}
use Rattle.paris_records.specs.History.{receipt}
use Rattle.paris_records.specs.Agreement.{calls_of}
use Rattle.paris_records.specs.Receipts.{IsPart, receipts_in}

part_none : (s n : ℕ) (es : List Entry) → IsPart s n [] es
part_none s n [] = refl
part_none s n (e ∷ es) = inl (part_none s (n + 1) es)

-- a longer history
part_more : (s n : ℕ) (rs : List Receipt) (es more : List Entry) → IsPart s n rs es → IsPart s n rs (es ++ more)
part_more s n rs [] more p = subst (λ (z : List Receipt). IsPart s n z more) (sym p) (part_none s n more)
part_more s n rs (e ∷ es) more p =
    ⊎_elim (λ (a : IsPart s (n + 1) rs es). inl (part_more s (n + 1) rs es more a))
    (λ (b : (rest : List Receipt) × (rs ≡ receipt s (n + 1) e.event e.reply ∷ rest) × (e.seat ≡ s) × IsPart s (n + 1) rest es). inr (b.0, b.1, b.2, part_more s (n + 1) b.0 es more b.3)) p

pub part_grows : (s n : ℕ) (rs : List Receipt) (es es' : List Entry) → IsPrefix es es' → IsPart s n rs es → IsPart s n rs es'
part_grows s n rs es es' pre p = subst (λ (z : List Entry). IsPart s n rs z) pre.1 (part_more s n rs es pre.0 p)

-- one entry more, of this seat, with its receipt
pub part_snoc : (s n : ℕ) (rs : List Receipt) (es : List Entry) (e : Entry) → e.seat ≡ s → IsPart s n rs es → IsPart s n (rs ++ receipt s (n + length es + 1) e.event e.reply ∷ []) (es ++ e ∷ [])
part_snoc s n rs [] e is p =
    let at : n + 0 + 1 ≡ n + 1 = omega arith in
    inr ([], ap (λ (z : List Receipt). z ++ receipt s (n + 0 + 1) e.event e.reply ∷ []) p ∙ ap (λ (k : ℕ). receipt s k e.event e.reply ∷ []) at, is, refl)
part_snoc s n rs (x ∷ es) e is p =
    let at : n + 1 + length es + 1 ≡ n + suc (length es) + 1 = omega arith in
    let P : List Receipt → ℕ → Type 0 = λ z k. IsPart s (n + 1) (z ++ receipt s k e.event e.reply ∷ []) (es ++ e ∷ []) in
    ⊎_elim (λ (a : IsPart s (n + 1) rs es). inl (subst (P rs) at (part_snoc s (n + 1) rs es e is a)))
    (λ (b : (rest : List Receipt) × (rs ≡ receipt s (n + 1) x.event x.reply ∷ rest) × (x.seat ≡ s) × IsPart s (n + 1) rest es).
    inr (b.0 ++ receipt s (n + suc (length es) + 1) e.event e.reply ∷ [], ap (λ (z : List Receipt). z ++ receipt s (n + suc (length es) + 1) e.event e.reply ∷ []) b.1, b.2, subst (P b.0) at (part_snoc s (n + 1) b.0 es e is b.3))) p

-- the seat has no fewer entries than receipts
pub part_count : (s n : ℕ) (rs : List Receipt) (es : List Entry) → IsPart s n rs es → length rs ≤ calls_of s es
part_count s n rs [] p = omega (arith, ap length p)
part_count s n rs (e ∷ es) p =
    ⊎_elim (λ (a : IsPart s (n + 1) rs es). let i = part_count s (n + 1) rs es a in omega arith)
    (λ (b : (rest : List Receipt) × (rs ≡ receipt s (n + 1) e.event e.reply ∷ rest) × (e.seat ≡ s) × IsPart s (n + 1) rest es).
    let i = part_count s (n + 1) b.0 es b.3 in let l = ap length b.1 in grind (arith, nat_tests, i, l, b.2)) p

-- it has an entry more, and no receipt for it, or has not
skipped : (s n : ℕ) (rs : List Receipt) (e : Entry) (es : List Entry) → IsPart s (n + 1) rs es → (if e.seat == s then 1 else 0) + calls_of s es ≤ length rs
    → (calls_of s es ≤ length rs → rs ≡ receipts_in s (n + 1) es) → (b : Bool) → (e.seat == s) ≡ b → rs ≡ receipts_in s n (e ∷ es)
skipped s n rs e es a le all true is =
    let i = part_count s (n + 1) rs es a in
    let big : 1 + calls_of s es ≤ length rs = grind (arith, is, le) in
    absurd (omega (arith, big, i))
skipped s n rs e es a le all false is =
    let few : calls_of s es ≤ length rs = omega (arith, le) in
    all few ∙ rw is refl

-- where it has as many, these are all
pub part_all : (s n : ℕ) (rs : List Receipt) (es : List Entry) → IsPart s n rs es → calls_of s es ≤ length rs → rs ≡ receipts_in s n es
part_all s n rs [] p le = p
part_all s n rs (e ∷ es) p le =
    let le' : (if e.seat == s then 1 else 0) + calls_of s es ≤ length rs = le in
    ⊎_elim (λ (a : IsPart s (n + 1) rs es). skipped s n rs e es a le' (part_all s (n + 1) rs es a) (e.seat == s) refl)
    (λ (b : (rest : List Receipt) × (rs ≡ receipt s (n + 1) e.event e.reply ∷ rest) × (e.seat ≡ s) × IsPart s (n + 1) rest es).
    let l = ap length b.1 in
    let hit : (e.seat == s) ≡ true = grind (arith, nat_tests, b.2) in
    let few : calls_of s es ≤ length b.0 = grind (arith, hit, l, le') in
    let i = part_all s (n + 1) b.0 es b.3 few in
    b.1 ∙ ap (λ (z : List Receipt). receipt s (n + 1) e.event e.reply ∷ z) i ∙ rw hit refl) p
