-- Messages, one after the other, and what processors have of them.
use Rattle.std.proofs.Common.{◌≡◌, ◌≢◌, ℕ, ◌+◌, ◌<◌, ◌≤◌, Bool, true, false, List, [], ◌∷◌, ◌++◌, length, get_or, take, set, map, replicate, refl, sym, ap, ◌∙◌, cond, subst, arith, inl, inr}
use Rattle.std.specs.Prelude.{◌==◌, filter, nat_lt}
use Rattle.std.proofs.lemmas.Bool.Decides.{nat_tests}
use Rattle.std.proofs.lemmas.Bool.{cases_eq, ne_eqb}
use Rattle.std.proofs.Common.{eq-eqb}
use Rattle.std.proofs.lemmas.List.{append-nil, get_or-replicate, get_or-set_other, get_or-set_same, length-append, length-replicate, length-set, map-append, take_more}
use Rattle.std.proofs.lemmas.List.Elements.{filter-append}
use Rattle.std.proofs.lemmas.List.FromFn.{fill_by_all, get_or-map-range_with_len, length-map-range_with_len}
use Rattle.paris_geometry.specs.Geometry.{numbers_below}
use Rattle.paris_model.specs.Mail.{arrivals}
use Rattle.paris_router.specs.Mail.{HasCome, number_of_first}

-- what arrives of one message more
posted : (mail : List (ℕ × ℕ)) (message : ℕ × ℕ) (r : ℕ) → arrivals (mail ++ message ∷ []) r ≡ arrivals mail r ++ arrivals (message ∷ []) r
posted mail message r =
    ap (map (λ (m : ℕ × ℕ). m.1)) (filter-append (λ (m : ℕ × ℕ). m.0 == r) mail (message ∷ []))
    ∙ map-append (λ (m : ℕ × ℕ). m.1) (filter (λ (m : ℕ × ℕ). m.0 == r) mail) (filter (λ (m : ℕ × ℕ). m.0 == r) (message ∷ []))

alone : (message : ℕ × ℕ) (r : ℕ) → arrivals (message ∷ []) r ≡ cond (message.0 == r) (message.1 ∷ []) []
alone message r = go (message.0 == r) refl
  where
    go : (b : Bool) → (message.0 == r) ≡ b → arrivals (message ∷ []) r ≡ cond (message.0 == r) (message.1 ∷ []) []
    go true e = simp e
    go false e = simp e

pub arrives_there : (mail : List (ℕ × ℕ)) (message : ℕ × ℕ) (r : ℕ) → message.0 ≡ r → arrivals (mail ++ message ∷ []) r ≡ arrivals mail r ++ message.1 ∷ []
arrives_there mail message r here =
    posted mail message r
    ∙ ap (λ xs. arrivals mail r ++ xs) (alone message r ∙ ap (λ b. cond b (message.1 ∷ []) []) (eq-eqb message.0 r here))

pub passes_by : (mail : List (ℕ × ℕ)) (message : ℕ × ℕ) (r : ℕ) → message.0 ≢ r → arrivals (mail ++ message ∷ []) r ≡ arrivals mail r
passes_by mail message r there =
    posted mail message r
    ∙ ap (λ xs. arrivals mail r ++ xs) (alone message r ∙ ap (λ b. cond b (message.1 ∷ []) []) (ne_eqb message.0 r there))
    ∙ append-nil (arrivals mail r)

-- what each of n processors makes of the values that arrive there
abbrev pub seen : {X : Type 0} → (ℕ → List ℕ → X) → ℕ → List (ℕ × ℕ) → List X
seen h n mail = map (λ r. h r (arrivals mail r)) (numbers_below n)

pub length-seen : {X : Type 0} (h : ℕ → List ℕ → X) (n : ℕ) (mail : List (ℕ × ℕ)) → length (seen h n mail) ≡ n
length-seen h n mail = length-map-range_with_len (λ r. h r (arrivals mail r)) 0 n

pub get_or-seen : {X : Type 0} (h : ℕ → List ℕ → X) (n : ℕ) (mail : List (ℕ × ℕ)) (r : ℕ) (d : X) → r < n → get_or (seen h n mail) r d ≡ h r (arrivals mail r)
get_or-seen h n mail r d inside = get_or-map-range_with_len (λ r. h r (arrivals mail r)) 0 n r r d inside (omega arith)

-- before any message
pub none_seen : {X : Type 0} (h : ℕ → List ℕ → X) (n : ℕ) (x : X) → ((r : ℕ) → h r [] ≡ x) → replicate n x ≡ seen h n []
none_seen h n x all = fill_by_all (λ r. h r []) (replicate n x) n x (length-replicate n x) (λ r inside. get_or-replicate n r x x inside ∙ sym (all r))

-- what each processor makes of what arrives: the first value, whether there is one, and whether there are more
abbrev pub first : ℕ → List ℕ → ℕ
first r xs = get_or xs 0 0

abbrev pub some : ℕ → List ℕ → Bool
some r xs = nat_lt 0 (length xs)

abbrev pub more : ℕ → List ℕ → Bool
more r xs = nat_lt 1 (length xs)

pub none_come : (n : ℕ) (words : List ℕ) (receivers crowded : List Bool) → words ≡ replicate n 0 → receivers ≡ replicate n false → crowded ≡ replicate n false → HasCome (length words) [] words receivers crowded
none_come n words receivers crowded zeros none alone =
    subst (λ k. HasCome k [] words receivers crowded) (sym (ap length zeros ∙ length-replicate n 0))
    (zeros ∙ none_seen first n 0 (λ r. refl), (none ∙ none_seen some n false (λ r. refl), alone ∙ none_seen more n false (λ r. refl)))

-- the receiver of one message more makes x of its values
pub seen_sent : {X : Type 0} (h : ℕ → List ℕ → X) (n : ℕ) (mail : List (ℕ × ℕ)) (message : ℕ × ℕ) (x : X) → message.0 < n → h message.0 (arrivals mail message.0 ++ message.1 ∷ []) ≡ x → set (seen h n mail) message.0 x ≡ seen h n (mail ++ message ∷ [])
seen_sent h n mail message x inside made =
    let before = seen h n mail in
    let long : length before ≡ n = length-seen h n mail in
    let there : message.0 < length before = omega arith in
    fill_by_all (λ r. h r (arrivals (mail ++ message ∷ []) r)) (set before message.0 x) n x (length-set before message.0 x ∙ long) (λ r within.
    elim (cases_eq message.0 r) [
      | inl same ↦
          ap (λ k. get_or (set before message.0 x) k x) (sym same)
          ∙ get_or-set_same before message.0 x x there
          ∙ sym made
          ∙ ap (λ k. h k (arrivals mail k ++ message.1 ∷ [])) same
          ∙ ap (h r) (sym (arrives_there mail message r same))
      | inr other ↦
          get_or-set_other before message.0 r x x (λ e. other (sym e))
          ∙ get_or-seen h n mail r x within
          ∙ ap (h r) (sym (passes_by mail message r other))
    ])

pub seen_more : {X : Type 0} (h : ℕ → List ℕ → X) (n : ℕ) (mail : List (ℕ × ℕ)) (i : ℕ) (d : ℕ × ℕ) (x : X) → i < length mail → (get_or mail i d).0 < n → h (get_or mail i d).0 (arrivals (take i mail) (get_or mail i d).0 ++ (get_or mail i d).1 ∷ []) ≡ x → set (seen h n (take i mail)) (get_or mail i d).0 x ≡ seen h n (take (i + 1) mail)
seen_more h n mail i d x at inside made =
    seen_sent h n (take i mail) (get_or mail i d) x inside made ∙ ap (seen h n) (sym (take_more mail i d at))

-- a message that changes nothing at its receiver
pub seen_kept : {X : Type 0} (h : ℕ → List ℕ → X) (n : ℕ) (mail : List (ℕ × ℕ)) (message : ℕ × ℕ) (x : X) → h message.0 (arrivals mail message.0 ++ message.1 ∷ []) ≡ h message.0 (arrivals mail message.0) → seen h n mail ≡ seen h n (mail ++ message ∷ [])
seen_kept h n mail message x made =
    fill_by_all (λ r. h r (arrivals (mail ++ message ∷ []) r)) (seen h n mail) n x (length-seen h n mail) (λ r within.
    get_or-seen h n mail r x within
    ∙ elim (cases_eq message.0 r) [
      | inl same ↦
          sym (ap (λ k. h k (arrivals mail k ++ message.1 ∷ [])) (sym same) ∙ made ∙ ap (λ k. h k (arrivals mail k)) same)
          ∙ ap (h r) (sym (arrives_there mail message r same))
      | inr other ↦ ap (h r) (sym (passes_by mail message r other))
    ])

-- tests of an order
less : (m n : ℕ) → m < n → nat_lt m n ≡ true
less m n h = grind (arith, nat_tests)

not_less : (m n : ℕ) → n ≤ m → nat_lt m n ≡ false
not_less m n h = grind (arith, nat_tests)

is_less : (m n : ℕ) → nat_lt m n ≡ true → m < n
is_less m n h = grind (arith, nat_tests)

at_most : (m n : ℕ) → nat_lt m n ≡ false → n ≤ m
at_most m n h = grind (arith, nat_tests)

-- how many values a list has, and its first one, with one value more
pub some_more : (xs : List ℕ) (x : ℕ) → nat_lt 0 (length (xs ++ x ∷ [])) ≡ true
some_more xs x = less 0 (length (xs ++ x ∷ [])) (omega (arith, length-append xs (x ∷ [])))

pub two_now : (xs : List ℕ) (x : ℕ) → nat_lt 0 (length xs) ≡ true → nat_lt 1 (length (xs ++ x ∷ [])) ≡ true
two_now xs x some = less 1 (length (xs ++ x ∷ [])) (omega (arith, length-append xs (x ∷ []), is_less 0 (length xs) some))

pub one_now : (xs : List ℕ) (x : ℕ) → nat_lt 0 (length xs) ≡ false → nat_lt 1 (length (xs ++ x ∷ [])) ≡ nat_lt 1 (length xs)
one_now xs x none =
    let empty = at_most 0 (length xs) none in
    not_less 1 (length (xs ++ x ∷ [])) (omega (arith, length-append xs (x ∷ []))) ∙ sym (not_less 1 (length xs) (omega arith))

-- the first sender stays the first
pub first_stays : {X : Type 0} (numbers : List X) (zero : X) (ps : List ℕ) (p : ℕ) → nat_lt 0 (length ps) ≡ true → number_of_first numbers zero (ps ++ p ∷ []) ≡ number_of_first numbers zero ps
first_stays numbers zero [] p some = absurd (omega (arith, is_less 0 0 some))
first_stays numbers zero (q ∷ ps) p some = refl

pub first_comes : {X : Type 0} (numbers : List X) (zero : X) (ps : List ℕ) (p : ℕ) → nat_lt 0 (length ps) ≡ false → number_of_first numbers zero (ps ++ p ∷ []) ≡ get_or numbers p zero
first_comes numbers zero [] p none = refl
first_comes numbers zero (q ∷ ps) p none = absurd (omega (arith, at_most 0 (length (q ∷ ps)) none))

-- the first value stays the first, and comes where there is none
pub value_stays : (xs : List ℕ) (x : ℕ) → nat_lt 0 (length xs) ≡ true → get_or (xs ++ x ∷ []) 0 0 ≡ get_or xs 0 0
value_stays [] x some = absurd (omega (arith, is_less 0 0 some))
value_stays (y ∷ xs) x some = refl

pub value_comes : (xs : List ℕ) (x : ℕ) → nat_lt 0 (length xs) ≡ false → get_or (xs ++ x ∷ []) 0 0 ≡ x
value_comes [] x none = refl
value_comes (y ∷ xs) x none = absurd (omega (arith, at_most 0 (length (y ∷ xs)) none))

-- one message more, where one has come before
pub one_more_comes : (n : ℕ) (mail : List (ℕ × ℕ)) (r word : ℕ) (words : List ℕ) (receivers crowded : List Bool) → r < n → get_or receivers r false ≡ true → HasCome n mail words receivers crowded → HasCome n (mail ++ (r, word) ∷ []) words receivers (set crowded r true)
one_more_comes n mail r word words receivers crowded inside marked h =
    let before : List ℕ = arrivals mail r in
    let there : nat_lt 0 (length before) ≡ true = sym (ap (λ l. get_or l r false) h.1.0 ∙ get_or-seen some n mail r false inside) ∙ marked in (
      h.0 ∙ seen_kept first n mail (r, word) 0 (value_stays before word there),
      (
        h.1.0 ∙ seen_kept some n mail (r, word) false (some_more before word ∙ sym there),
        ap (λ l. set l r true) h.1.1 ∙ seen_sent more n mail (r, word) true inside (two_now before word there),
      ),
    )

-- and where none has
pub first_one_comes : (n : ℕ) (mail : List (ℕ × ℕ)) (r word : ℕ) (words : List ℕ) (receivers crowded : List Bool) → r < n → get_or receivers r false ≡ false → HasCome n mail words receivers crowded → HasCome n (mail ++ (r, word) ∷ []) (set words r word) (set receivers r true) crowded
first_one_comes n mail r word words receivers crowded inside free h =
    let before : List ℕ = arrivals mail r in
    let none : nat_lt 0 (length before) ≡ false = sym (ap (λ l. get_or l r false) h.1.0 ∙ get_or-seen some n mail r false inside) ∙ free in (
      ap (λ l. set l r word) h.0 ∙ seen_sent first n mail (r, word) word inside (value_comes before word none),
      (
        ap (λ l. set l r true) h.1.0 ∙ seen_sent some n mail (r, word) true inside (some_more before word),
        h.1.1 ∙ seen_kept more n mail (r, word) false (one_now before word none),
      ),
    )
