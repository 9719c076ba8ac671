-- Exchanges of the digits of rows with those of places, where rows come eight at a time. B j i is bit i of row j.
use Rattle.std.proofs.Common.{◌≡◌, ◌≢◌, ℕ, zero, suc, ◌+◌, ◌-◌, ◌*◌, ◌/◌, ◌%◌, ◌<◌, ◌≤◌, Bool, List, [], cond, get_or, length, arith, ap, ◌∙◌, sym, eqb, inl, inr}
use Rattle.std.proofs.lemmas.Bool.{cases_eq, cases_lt}
use Rattle.paris_plane.specs.Bits.{word_bit}
use Rattle.paris_plane.specs.Digits.{digit}
use Rattle.paris_plane.proofs.Digits.{digit-add, digit_cases}
use Rattle.paris_field.specs.Square.{FourLanes, lane_bit, replaced}
use Rattle.paris_field.proofs.Sides.{SidesOn, side_1, side_2, side_4}
use Rattle.paris_field.proofs.Turn.{one_at_least}

replaced_is : (s n d a b : ℕ) → digit s n ≡ a → d ≡ b → replaced s n d ≡ n - s * a + s * b
replaced_is s n d a b e f = ap (λ x. n - s * x + s * d) e ∙ ap (λ x. n - s * a + s * x) f

-- the place of a bit after the exchange, by the two digits
placed : (B : ℕ → ℕ → Bool) (s t j i a b row place : ℕ) → digit t j ≡ a → digit s i ≡ b → row ≡ j - t * a + t * b → place ≡ i - s * b + s * a → B row place ≡ B (replaced t j (digit s i)) (replaced s i (digit t j))
placed B s t j i a b row place e f r p =
    ap (λ x. B x place) (r ∙ sym (replaced_is t j (digit s i) a b e f))
    ∙ ap (B (replaced t j (digit s i))) (p ∙ sym (replaced_is s i (digit t j) b a f e))

-- the first of two rows that are exchanged, and the second
pub first_placed : (B : ℕ → ℕ → Bool) (s t j i : ℕ) → digit t j ≡ 0 → cond (eqb (digit s i) 0) (B j i) (B (j + t) (i - s)) ≡ B (replaced t j (digit s i)) (replaced s i (digit t j))
first_placed B s t j i e =
    elim (digit_cases s i) [
      | inl z ↦
          ap (λ d. cond (eqb d 0) (B j i) (B (j + t) (i - s))) z ∙ placed B s t j i 0 0 j i e z (omega arith) (omega arith)
      | inr z ↦
          ap (λ d. cond (eqb d 0) (B j i) (B (j + t) (i - s))) z ∙ placed B s t j i 0 1 (j + t) (i - s) e z (omega arith) (omega arith)
    ]

pub second_placed : (B : ℕ → ℕ → Bool) (s t j i : ℕ) → 0 < t → digit t j ≡ 0 → cond (eqb (digit s i) 0) (B j (i + s)) (B (j + t) i) ≡ B (replaced t (j + t) (digit s i)) (replaced s i (digit t (j + t)))
second_placed B s t j i pos e =
    let one : digit t (j + t) ≡ 1 = digit-add t j pos ∙ ap (λ x. (x + 1) % 2) e in
    elim (digit_cases s i) [
      | inl z ↦
          ap (λ d. cond (eqb d 0) (B j (i + s)) (B (j + t) i)) z ∙ placed B s t (j + t) i 1 0 j (i + s) one z (omega arith) (omega arith)
      | inr z ↦
          let above : s ≤ i = one_at_least s i z in
          ap (λ d. cond (eqb d 0) (B j (i + s)) (B (j + t) i)) z ∙ placed B s t (j + t) i 1 1 (j + t) i one z (omega arith) (omega arith)
    ]

-- what holds of each number below 8
pub each_of_eight : (P : ℕ → Type 0) → P 0 → P 1 → P 2 → P 3 → P 4 → P 5 → P 6 → P 7 → (j : ℕ) → j < 8 → P j
each_of_eight P a b c d e f g h zero _ = a
each_of_eight P a b c d e f g h (suc zero) _ = b
each_of_eight P a b c d e f g h (suc (suc zero)) _ = c
each_of_eight P a b c d e f g h (suc (suc (suc zero))) _ = d
each_of_eight P a b c d e f g h (suc (suc (suc (suc zero)))) _ = e
each_of_eight P a b c d e f g h (suc (suc (suc (suc (suc zero))))) _ = f
each_of_eight P a b c d e f g h (suc (suc (suc (suc (suc (suc zero)))))) _ = g
each_of_eight P a b c d e f g h (suc (suc (suc (suc (suc (suc (suc zero))))))) _ = h
each_of_eight P a b c d e f g h (suc (suc (suc (suc (suc (suc (suc (suc j)))))))) below = absurd (omega (arith, below))

-- the digit of weight t of each of eight rows is exchanged with that of weight s of places
abbrev pub Exchange : ℕ → ℕ → (ℕ → ℕ → Bool) → (ℕ → ℕ → Bool) → Type 0
Exchange s t new old = (j i : ℕ) → j < 8 → i < 64 → new j i ≡ old (replaced t j (digit s i)) (replaced s i (digit t j))

-- the digits of eight rows of a weight below t are exchanged with the same of places
abbrev LowBelow : ℕ → (ℕ → ℕ → Bool) → (ℕ → ℕ → Bool) → Type 0
LowBelow t new old = (j i : ℕ) → j < 8 → i < 64 → new j i ≡ old (j / t * t + i % t) (i / t * t + j % t)

low_none : (A : ℕ → ℕ → Bool) → LowBelow 1 A A
low_none A j i hj hi = ap (λ x. A x i) (omega arith) ∙ ap (A (j / 1 * 1 + i % 1)) (omega arith)

low_more : (s t : ℕ) (A B C : ℕ → ℕ → Bool) → SidesOn s t → ((j i : ℕ) → j < 8 → replaced s j (digit s i) < 8) → Exchange s s C B → LowBelow s B A → LowBelow t C A
low_more s t A B C on inside step h j i hj hi =
    let row : ℕ = replaced s j (digit s i) in
    let place : ℕ = replaced s i (digit s j) in
    step j i hj hi ∙ h row place (inside j i hj) (on.within i j hi)
    ∙ ap (λ x. A x (place / s * s + row % s)) (on.joins j i)
    ∙ ap (A (j / t * t + i % t)) (on.joins i j)

pub low_all : (A B C D : ℕ → ℕ → Bool) → Exchange 1 1 B A → Exchange 2 2 C B → Exchange 4 4 D C → (j i : ℕ) → j < 8 → i < 64 → D j i ≡ A (i % 8) (i / 8 * 8 + j)
low_all A B C D one two three j i hj hi =
    let row : j / 8 * 8 + i % 8 ≡ i % 8 = omega arith in
    let place : i / 8 * 8 + j % 8 ≡ i / 8 * 8 + j = omega arith in
    low_more 4 8 A C D side_4 (λ j i h. omega (arith, h)) three
    (low_more 2 4 A B C side_2 (λ j i h. omega (arith, h)) two
    (low_more 1 2 A A B side_1 (λ j i h. omega (arith, h)) one (low_none A))) j i hj hi
    ∙ ap (λ x. A x (i / 8 * 8 + j % 8)) row ∙ ap (A (i % 8)) place

-- the digits of eight rows of a weight below t are exchanged with those of places of eight times the weight
abbrev HighBelow : ℕ → (ℕ → ℕ → Bool) → (ℕ → ℕ → Bool) → Type 0
HighBelow t new old = (j i : ℕ) → j < 8 → i < 64 → new j i ≡ old (j / t * t + i / 8 % t) (i / (8 * t) * (8 * t) + j % t * 8 + i % 8)

-- after the exchange at the weight s those below t, twice that weight, are exchanged
record HighOn (s t : ℕ) : Type 0 where
  inside : (j i : ℕ) → j < 8 → replaced s j (digit (8 * s) i) < 8
  within : (i j : ℕ) → i < 64 → replaced (8 * s) i (digit s j) < 64
  row : (j i : ℕ) → replaced s j (digit (8 * s) i) / s * s + replaced (8 * s) i (digit s j) / 8 % s ≡ j / t * t + i / 8 % t
  place : (i j : ℕ) → replaced (8 * s) i (digit s j) / (8 * s) * (8 * s) + replaced s j (digit (8 * s) i) % s * 8 + replaced (8 * s) i (digit s j) % 8 ≡ i / (8 * t) * (8 * t) + j % t * 8 + i % 8

high_1 : HighOn 1 2
high_1 = record { inside = λ j i h. omega arith; within = λ i j h. omega arith; row = λ j i. omega arith; place = λ i j. omega arith }

high_2 : HighOn 2 4
high_2 = record { inside = λ j i h. omega arith; within = λ i j h. omega arith; row = λ j i. omega arith; place = λ i j. omega arith }

high_4 : HighOn 4 8
high_4 = record { inside = λ j i h. omega arith; within = λ i j h. omega arith; row = λ j i. omega arith; place = λ i j. omega arith }

high_none : (A : ℕ → ℕ → Bool) → HighBelow 1 A A
high_none A j i hj hi = ap (λ x. A x i) (omega arith) ∙ ap (A (j / 1 * 1 + i / 8 % 1)) (omega arith)

high_more : (s t : ℕ) (A B C : ℕ → ℕ → Bool) → HighOn s t → Exchange (8 * s) s C B → HighBelow s B A → HighBelow t C A
high_more s t A B C on step h j i hj hi =
    let row : ℕ = replaced s j (digit (8 * s) i) in
    let place : ℕ = replaced (8 * s) i (digit s j) in
    step j i hj hi ∙ h row place (on.inside j i hj) (on.within i j hi)
    ∙ ap (λ x. A x (place / (8 * s) * (8 * s) + row % s * 8 + place % 8)) (on.row j i)
    ∙ ap (A (j / t * t + i / 8 % t)) (on.place i j)

pub high_all : (A B C D : ℕ → ℕ → Bool) → Exchange 8 1 B A → Exchange 16 2 C B → Exchange 32 4 D C → (j i : ℕ) → j < 8 → i < 64 → D j i ≡ A (i / 8) (j * 8 + i % 8)
high_all A B C D one two three j i hj hi =
    let row : j / 8 * 8 + i / 8 % 8 ≡ i / 8 = omega arith in
    let place : i / (8 * 8) * (8 * 8) + j % 8 * 8 + i % 8 ≡ j * 8 + i % 8 = omega arith in
    high_more 4 8 A C D high_4 three (high_more 2 4 A B C high_2 two (high_more 1 2 A A B high_1 one (high_none A))) j i hj hi
    ∙ ap (λ x. A x (i / (8 * 8) * (8 * 8) + j % 8 * 8 + i % 8)) row ∙ ap (A (i / 8)) place

-- the rows as far as the exchanges of the low digits have come: those of the blocks below b are done, the others are as they were
pub record LowUpTo (b : ℕ) (rows old : List (List ℕ)) : Type 0 where
  pub done : (q j i : ℕ) → q < 4 → j < 8 * b → i < 64 → lane_bit rows q j i ≡ lane_bit old q (j / 8 * 8 + i % 8) (i / 8 * 8 + j % 8)
  pub left : (k : ℕ) → 8 * b ≤ k → get_or rows k [] ≡ get_or old k []

pub low_block : (b : ℕ) (new rows eight next old : List (List ℕ))
    → ((j : ℕ) → j < 8 → get_or next j [] ≡ get_or rows (8 * b + j) [])
    → ((q j i : ℕ) → q < 4 → j < 8 → i < 64 → lane_bit eight q j i ≡ lane_bit next q (i % 8) (i / 8 * 8 + j))
    → ((j : ℕ) → j < 8 → get_or new (8 * b + j) [] ≡ get_or eight j [])
    → ((k : ℕ) → ((j : ℕ) → j < 8 → k ≢ 8 * b + j) → get_or new k [] ≡ get_or rows k [])
    → LowUpTo b rows old → LowUpTo (b + 1) new old
low_block b new rows eight next old taken turned put others h =
    record {
      done = λ q j i hq hj hi.
          elim (cases_lt j (8 * b)) [
            | inl under ↦
                ap (λ r. word_bit (get_or r q 0) i) (others j (λ m hm e. absurd (omega (arith, under, e)))) ∙ h.done q j i hq under hi
            | inr over ↦
                let m : ℕ = j - 8 * b in
                let at : 8 * b + m ≡ j = omega (arith, over) in
                let few : m < 8 = omega (arith, over, hj) in
                let row : 8 * b + i % 8 ≡ j / 8 * 8 + i % 8 = omega (arith, over, hj) in
                let place : i / 8 * 8 + m ≡ i / 8 * 8 + j % 8 = omega (arith, over, hj) in
                ap (λ k. lane_bit new q k i) (sym at) ∙ ap (λ r. word_bit (get_or r q 0) i) (put m few) ∙ turned q m i hq few hi
                ∙ ap (λ r. word_bit (get_or r q 0) (i / 8 * 8 + m)) (taken (i % 8) (omega arith) ∙ h.left (8 * b + i % 8) (omega arith))
                ∙ ap (λ k. lane_bit old q k (i / 8 * 8 + m)) row ∙ ap (lane_bit old q (j / 8 * 8 + i % 8)) place
          ];
      left = λ k above. others k (λ m hm e. absurd (omega (arith, above, hm, e))) ∙ h.left k (omega (arith, above));
    }

pub low_four : (b : ℕ) (new rows eight : List (List ℕ)) → FourLanes 8 eight → FourLanes 64 rows
    → ((j : ℕ) → j < 8 → get_or new (8 * b + j) [] ≡ get_or eight j [])
    → ((k : ℕ) → ((j : ℕ) → j < 8 → k ≢ 8 * b + j) → get_or new k [] ≡ get_or rows k [])
    → FourLanes 64 new
low_four b new rows eight eight_four rows_four put others k hk =
    elim (cases_lt k (8 * b)) [
      | inl under ↦ ap length (others k (λ m hm e. absurd (omega (arith, under, e)))) ∙ rows_four k hk
      | inr over ↦
          elim (cases_lt k (8 * b + 8)) [
            | inl below ↦
                let m : ℕ = k - 8 * b in
                let at : 8 * b + m ≡ k = omega (arith, over) in
                let few : m < 8 = omega (arith, over, below) in
                ap (λ x. length (get_or new x [])) (sym at) ∙ ap length (put m few) ∙ eight_four m few
            | inr past ↦ ap length (others k (λ m hm e. absurd (omega (arith, past, hm, e)))) ∙ rows_four k hk
          ]
    ]

-- the same of the high digits: the rows whose remainder by 8 is below r are done
pub record HighUpTo (r : ℕ) (rows old : List (List ℕ)) : Type 0 where
  pub done : (q j i : ℕ) → q < 4 → j < 64 → j % 8 < r → i < 64 → lane_bit rows q j i ≡ lane_bit old q (i / 8 * 8 + j % 8) (j / 8 * 8 + i % 8)
  pub left : (k : ℕ) → r ≤ k % 8 → get_or rows k [] ≡ get_or old k []

pub high_row : (r : ℕ) (new rows eight spaced old : List (List ℕ)) → r < 8
    → ((j : ℕ) → j < 8 → get_or spaced j [] ≡ get_or rows (r + 8 * j) [])
    → ((q j i : ℕ) → q < 4 → j < 8 → i < 64 → lane_bit eight q j i ≡ lane_bit spaced q (i / 8) (j * 8 + i % 8))
    → ((j : ℕ) → j < 8 → get_or new (r + 8 * j) [] ≡ get_or eight j [])
    → ((k : ℕ) → ((j : ℕ) → j < 8 → k ≢ r + 8 * j) → get_or new k [] ≡ get_or rows k [])
    → HighUpTo r rows old → HighUpTo (r + 1) new old
high_row r new rows eight spaced old small taken turned put others h =
    record {
      done = λ q j i hq hj below hi.
          elim (cases_lt (j % 8) r) [
            | inl under ↦
                ap (λ x. word_bit (get_or x q 0) i) (others j (λ m hm e. absurd (omega (arith, under, small, e)))) ∙ h.done q j i hq hj under hi
            | inr over ↦
                let m : ℕ = j / 8 in
                let at : r + 8 * m ≡ j = omega (arith, over, below) in
                let few : m < 8 = omega (arith, hj) in
                let row : r + 8 * (i / 8) ≡ i / 8 * 8 + j % 8 = omega (arith, over, below) in
                let same : r ≤ (r + 8 * (i / 8)) % 8 = omega (arith, small) in
                ap (λ k. lane_bit new q k i) (sym at) ∙ ap (λ x. word_bit (get_or x q 0) i) (put m few) ∙ turned q m i hq few hi
                ∙ ap (λ x. word_bit (get_or x q 0) (m * 8 + i % 8)) (taken (i / 8) (omega (arith, hi)) ∙ h.left (r + 8 * (i / 8)) same)
                ∙ ap (λ k. lane_bit old q k (m * 8 + i % 8)) row
          ];
      left = λ k above. others k (λ m hm e. absurd (omega (arith, above, small, e))) ∙ h.left k (omega (arith, above));
    }

pub high_four : (r : ℕ) (new rows eight : List (List ℕ)) → r < 8 → FourLanes 8 eight → FourLanes 64 rows
    → ((j : ℕ) → j < 8 → get_or new (r + 8 * j) [] ≡ get_or eight j [])
    → ((k : ℕ) → ((j : ℕ) → j < 8 → k ≢ r + 8 * j) → get_or new k [] ≡ get_or rows k [])
    → FourLanes 64 new
high_four r new rows eight small eight_four rows_four put others k hk =
    elim (cases_eq (k % 8) r) [
      | inl here ↦
          let at : r + 8 * (k / 8) ≡ k = omega (arith, here) in
          let few : k / 8 < 8 = omega (arith, hk) in
          ap (λ x. length (get_or new x [])) (sym at) ∙ ap length (put (k / 8) few) ∙ eight_four (k / 8) few
      | inr there ↦ ap length (others k (λ m hm e. there (omega (arith, small, e)))) ∙ rows_four k hk
    ]

-- both one after another turn the squares
pub turned_whole : (new mid old : List (List ℕ))
    → ((q j i : ℕ) → q < 4 → j < 64 → i < 64 → lane_bit mid q j i ≡ lane_bit old q (j / 8 * 8 + i % 8) (i / 8 * 8 + j % 8))
    → ((q j i : ℕ) → q < 4 → j < 64 → i < 64 → lane_bit new q j i ≡ lane_bit mid q (i / 8 * 8 + j % 8) (j / 8 * 8 + i % 8))
    → (q j i : ℕ) → q < 4 → j < 64 → i < 64 → lane_bit new q j i ≡ lane_bit old q i j
turned_whole new mid old low high q j i hq hj hi =
    let row : ℕ = i / 8 * 8 + j % 8 in
    let place : ℕ = j / 8 * 8 + i % 8 in
    let whole : row / 8 * 8 + place % 8 ≡ i = omega arith in
    let back : place / 8 * 8 + row % 8 ≡ j = omega arith in
    high q j i hq hj hi ∙ low q row place hq (omega (arith, hi)) (omega (arith, hj))
    ∙ ap (λ x. lane_bit old q x (place / 8 * 8 + row % 8)) whole ∙ ap (lane_bit old q i) back
