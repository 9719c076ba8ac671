-- Where the receipts of the seats are as many as the entries of a history, they are of all its entries. On lists alone.
use Rattle.std.proofs.Common.{◌≡◌, ℕ, zero, suc, ◌+◌, ◌<◌, ◌≤◌, Bool, true, false, List, [], ◌∷◌, ◌++◌, length, refl, sym, ap, ◌∙◌, subst, arith, length-append, append_assoc}
use Rattle.std.specs.Prelude.{◌==◌, ◌-◌, if◌then◌else◌, slice_get, Some, nat_lt}
use Rattle.std.proofs.lemmas.Bool.Decides.{nat_tests}
use Rattle.paris_records.specs.declared.records.Entry.{Entry}
use Rattle.paris_records.specs.declared.records.Receipt.{Receipt}
use Rattle.paris_records.specs.Agreement.{Accounted, InPlaces, calls_of}
use Rattle.paris_records.specs.History.{entry, receipt}
use Rattle.paris_records.specs.Receipts.{IsPart, receipts_in}
use Rattle.paris_records.proofs.Counting.{part_count, part_all}

-- whether one of the first seats has a number, as 1 or 0
abbrev pub hits : ℕ → ℕ → ℕ
hits zero s = 0
hits (suc m) s = hits m s + (if s == m then 1 else 0)

hits_none : (m s : ℕ) → m ≤ s → hits m s ≡ 0
hits_none zero s le = refl
hits_none (suc m) s le = let i = hits_none m s (omega arith) in let no : (s == m) ≡ false = grind (arith, nat_tests) in grind (arith, no, i)

hits_one : (m s : ℕ) (b : Bool) → (s == m) ≡ b → hits (suc m) s ≤ 1
hits_one zero s true is = grind (arith, is)
hits_one zero s false is = grind (arith, is)
hits_one (suc m) s true is = let same : s ≡ suc m = grind (arith, nat_tests, is) in let none = hits_none (suc m) s (omega (arith, same)) in grind (arith, is, none)
hits_one (suc m) s false is = let i = hits_one m s (s == m) refl in grind (arith, is, i)

-- with one seat more that is not among the first ones
hits_more : (m s t : ℕ) (b : Bool) → m ≤ t → (s == t) ≡ b → hits m s + (if s == t then 1 else 0) ≤ 1
hits_more zero s t true le is = grind (arith, is)
hits_more zero s t false le is = grind (arith, is)
hits_more (suc m) s t true le is = let same : s ≡ t = grind (arith, nat_tests, is) in let none = hits_none (suc m) s (omega (arith, same, le)) in grind (arith, is, none)
hits_more (suc m) s t false le is = let i = hits_one m s (s == m) refl in grind (arith, is, i)

-- how many entries the first seats have
abbrev pub calls_to : ℕ → List Entry → ℕ
calls_to zero h = 0
calls_to (suc m) h = calls_to m h + calls_of m h

calls_to_none : (m : ℕ) → calls_to m [] ≡ 0
calls_to_none zero = refl
calls_to_none (suc m) = let i = calls_to_none m in omega (arith, i)

calls_to_cons : (m : ℕ) (e : Entry) (h : List Entry) → calls_to m (e ∷ h) ≡ hits m e.seat + calls_to m h
calls_to_cons zero e h = omega arith
calls_to_cons (suc m) e h = let i = calls_to_cons m e h in omega (arith, i)

-- the first seats and another one have no more entries than there are
calls_within : (m t : ℕ) (h : List Entry) → m ≤ t → calls_to m h + calls_of t h ≤ length h
calls_within m t [] le = omega (arith, calls_to_none m)
calls_within m t (e ∷ h) le =
    let i = calls_within m t h le in let c = calls_to_cons m e h in let u = hits_more m e.seat t (e.seat == t) le refl in omega (arith, i, c, u)

-- how many receipts the first seats have
abbrev pub receipts_to : (ℕ → List Receipt) → ℕ → ℕ
receipts_to f zero = 0
receipts_to f (suc m) = receipts_to f m + length (f m)

-- where no seat has more receipts than entries, and together they have as many, each has as many
receipts_few : (f : ℕ → List Receipt) (m : ℕ) (h : List Entry) → ((k : ℕ) → k < m → length (f k) ≤ calls_of k h) → receipts_to f m ≤ calls_to m h
receipts_few f zero h few = omega arith
receipts_few f (suc m) h few = let i = receipts_few f m h (λ k lt. few k (omega arith)) in let o = few m (omega arith) in omega (arith, i, o)

receipts_all : (f : ℕ → List Receipt) (m : ℕ) (h : List Entry) → ((k : ℕ) → k < m → length (f k) ≤ calls_of k h) → calls_to m h ≤ receipts_to f m → (k : ℕ) → k < m → calls_of k h ≤ length (f k)
receipts_all f zero h few all k lt = absurd (omega arith)
receipts_all f (suc m) h few all k lt =
    let rest : (j : ℕ) → j < m → length (f j) ≤ calls_of j h = λ j l. few j (omega arith) in
    let i = receipts_few f m h rest in
    let o = few m (omega arith) in
    by_test (nat_lt k m) refl (receipts_all f m h rest (omega (arith, o, all))) (omega (arith, i, all))
  where
    by_test : (b : Bool) → nat_lt k m ≡ b → ((j : ℕ) → j < m → calls_of j h ≤ length (f j)) → calls_of m h ≤ length (f m) → calls_of k h ≤ length (f k)
    by_test true is before last = before k (grind (arith, nat_tests, is))
    by_test false is before last =
        let same : m ≡ k = (let ge : m ≤ k = grind (arith, nat_tests, is) in omega (arith, ge, lt)) in
        subst (λ (j : ℕ). calls_of j h ≤ length (f j)) same last

-- where the first seats' receipts are parts of a history and together as many as its entries, they are of all entries of each seat
pub all_counted : (f : ℕ → List Receipt) (m : ℕ) (h : List Entry) → ((k : ℕ) → k < m → IsPart k 0 (f k) h) → receipts_to f m ≡ length h → (k : ℕ) → k < m → f k ≡ receipts_in k 0 h
all_counted f m h parts all k lt =
    let few : (j : ℕ) → j < m → length (f j) ≤ calls_of j h = λ j l. part_count j 0 (f j) h (parts j l) in
    let within = calls_within m m h (omega arith) in
    part_all k 0 (f k) h (parts k lt) (receipts_all f m h few (omega (arith, within, all)) k lt)

-- and no other seat has an entry
pub none_counted : (f : ℕ → List Receipt) (m : ℕ) (h : List Entry) → ((k : ℕ) → k < m → IsPart k 0 (f k) h) → receipts_to f m ≡ length h → (t : ℕ) → m ≤ t → calls_of t h ≡ 0
none_counted f m h parts all t le =
    let few = receipts_few f m h (λ j l. part_count j 0 (f j) h (parts j l)) in
    let within = calls_within m t h le in omega (arith, few, within, all)

calls_step : (s n : ℕ) (e : Entry) (es : List Entry) → length (receipts_in s (n + 1) es) ≡ calls_of s es → (b : Bool) → (e.seat == s) ≡ b → length (receipts_in s n (e ∷ es)) ≡ calls_of s (e ∷ es)
calls_step s n e es i true eq = rw eq (omega (arith, i))
calls_step s n e es i false eq = rw eq (omega (arith, i))

calls_count : (s n : ℕ) (es : List Entry) → length (receipts_in s n es) ≡ calls_of s es
calls_count s n [] = refl
calls_count s n (e ∷ es) = calls_step s n e es (calls_count s (n + 1) es) (e.seat == s) refl

-- who has no entry has no receipt
pub no_calls : (s : ℕ) (h : List Entry) → calls_of s h ≡ 0 → [] ≡ receipts_in s 0 h
no_calls s h none = empty (receipts_in s 0 h) (calls_count s 0 h ∙ none)
  where
    empty : (rs : List Receipt) → length rs ≡ 0 → [] ≡ rs
    empty [] is = refl
    empty (r ∷ rs) is = absurd (omega arith)

at_end : (front es : List Entry) (e : Entry) → slice_get (front ++ e ∷ es) (length front) ≡ Some e
at_end [] es e = refl
at_end (x ∷ front) es e = at_end front es e

places_step : (s p : ℕ) (front es h : List Entry) (e : Entry) → h ≡ front ++ e ∷ es → p ≤ length front → (rest : List Receipt) → InPlaces h s (length front + 1) rest → InPlaces h s p rest
    → (b : Bool) → (e.seat == s) ≡ b → InPlaces h s p (if e.seat == s then receipt s (length front + 1) e.event e.reply ∷ rest else rest)
places_step s p front es h e is le rest hit miss true eq =
    let same : e.seat ≡ s = grind (arith, nat_tests, eq) in
    let n : length front ≡ length front + 1 - 1 = omega arith in
    let at : slice_get h (length front + 1 - 1) ≡ Some (entry s e.event e.reply) = subst (λ (k : ℕ). slice_get h k ≡ Some (entry s e.event e.reply)) n (ap (λ (z : List Entry). slice_get z (length front)) is ∙ at_end front es e ∙ ap (λ (k : ℕ). Some (entry k e.event e.reply)) same) in
    rw eq ((omega (arith, le), refl, at), hit)
places_step s p front es h e is le rest hit miss false eq = rw eq miss

-- the receipts of all entries of a seat are in their places
calls_in_places : (s p : ℕ) (front es h : List Entry) → h ≡ front ++ es → p ≤ length front → InPlaces h s p (receipts_in s (length front) es)
calls_in_places s p front [] h is le = tt
calls_in_places s p front (e ∷ es) h is le =
    let n : length (front ++ e ∷ []) ≡ length front + 1 = length-append front (e ∷ []) in
    let is' : h ≡ (front ++ e ∷ []) ++ es = is ∙ sym (append_assoc front (e ∷ []) es) in
    let hit = subst (λ (k : ℕ). InPlaces h s (length front + 1) (receipts_in s k es)) n (calls_in_places s (length front + 1) (front ++ e ∷ []) es h is' (omega (arith, n))) in
    let miss = subst (λ (k : ℕ). InPlaces h s p (receipts_in s k es)) n (calls_in_places s p (front ++ e ∷ []) es h is' (omega (arith, n, le))) in
    places_step s p front es h e is le (receipts_in s (length front + 1) es) hit miss (e.seat == s) refl

-- so they account for them
pub accounted : (s : ℕ) (h : List Entry) (rs : List Receipt) → rs ≡ receipts_in s 0 h → Accounted h s rs
accounted s h rs is =
    (subst (λ (z : List Receipt). InPlaces h s 0 z) (sym is) (calls_in_places s 0 [] h h refl (omega arith)), sym (ap length is ∙ calls_count s 0 h))
