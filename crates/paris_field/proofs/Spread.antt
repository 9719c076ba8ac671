-- Words that lie in four lanes, and those of the lanes one after another.
use Rattle.std.proofs.Common.{◌≡◌, ◌≢◌, ℕ, zero, suc, ◌+◌, ◌*◌, ◌/◌, ◌<◌, ◌≤◌, Bool, false, List, get_or, set, length, arith, ap, ◌∙◌, sym, inl, inr}
use Rattle.std.proofs.lemmas.Bool.{cases_lt}
use Rattle.std.proofs.lemmas.Grind.{get_or-set_at}
use Rattle.std.proofs.lemmas.List.{get_or-set_other, length-set}
use Rattle.paris_plane.specs.Bits.{word_bit}

-- what holds of each number below 4
pub each_of_four : (P : ℕ → Type 0) → P 0 → P 1 → P 2 → P 3 → (q : ℕ) → q < 4 → P q
each_of_four P a b c d zero _ = a
each_of_four P a b c d (suc zero) _ = b
each_of_four P a b c d (suc (suc zero)) _ = c
each_of_four P a b c d (suc (suc (suc zero))) _ = d
each_of_four P a b c d (suc (suc (suc (suc q)))) below = absurd (omega (arith, below))

-- four words, each in its place of another run of 64
abbrev pub spread : List ℕ → ℕ → List ℕ → List ℕ
spread words j row = set (set (set (set words j (get_or row 0 0)) (64 + j) (get_or row 1 0)) (128 + j) (get_or row 2 0)) (192 + j) (get_or row 3 0)

pub spread_length : (words : List ℕ) (j : ℕ) (row : List ℕ) → length (spread words j row) ≡ length words
spread_length words j row =
    length-set (set (set (set words j (get_or row 0 0)) (64 + j) (get_or row 1 0)) (128 + j) (get_or row 2 0)) (192 + j) (get_or row 3 0)
    ∙ length-set (set (set words j (get_or row 0 0)) (64 + j) (get_or row 1 0)) (128 + j) (get_or row 2 0)
    ∙ length-set (set words j (get_or row 0 0)) (64 + j) (get_or row 1 0)
    ∙ length-set words j (get_or row 0 0)

spread_other : (words : List ℕ) (j : ℕ) (row : List ℕ) (i : ℕ) → i ≢ j → i ≢ 64 + j → i ≢ 128 + j → i ≢ 192 + j → get_or (spread words j row) i 0 ≡ get_or words i 0
spread_other words j row i n0 n1 n2 n3 =
    get_or-set_other (set (set (set words j (get_or row 0 0)) (64 + j) (get_or row 1 0)) (128 + j) (get_or row 2 0)) (192 + j) i (get_or row 3 0) 0 n3
    ∙ get_or-set_other (set (set words j (get_or row 0 0)) (64 + j) (get_or row 1 0)) (128 + j) i (get_or row 2 0) 0 n2
    ∙ get_or-set_other (set words j (get_or row 0 0)) (64 + j) i (get_or row 1 0) 0 n1
    ∙ get_or-set_other words j i (get_or row 0 0) 0 n0

spread_at : (words : List ℕ) (j : ℕ) (row : List ℕ) → length words ≡ 256 → j < 64 → (q : ℕ) → q < 4 → get_or (spread words j row) (64 * q + j) 0 ≡ get_or row q 0
spread_at words j row long hj =
    let one : List ℕ = set words j (get_or row 0 0) in
    let two : List ℕ = set one (64 + j) (get_or row 1 0) in
    let three : List ℕ = set two (128 + j) (get_or row 2 0) in
    let one_long : length one ≡ 256 = length-set words j (get_or row 0 0) ∙ long in
    let two_long : length two ≡ 256 = length-set one (64 + j) (get_or row 1 0) ∙ one_long in
    let three_long : length three ≡ 256 = length-set two (128 + j) (get_or row 2 0) ∙ two_long in
    each_of_four (λ q. get_or (spread words j row) (64 * q + j) 0 ≡ get_or row q 0)
    (get_or-set_other three (192 + j) (64 * 0 + j) (get_or row 3 0) 0 (omega arith)
    ∙ get_or-set_other two (128 + j) (64 * 0 + j) (get_or row 2 0) 0 (omega arith)
    ∙ get_or-set_other one (64 + j) (64 * 0 + j) (get_or row 1 0) 0 (omega arith)
    ∙ get_or-set_at words j (64 * 0 + j) (get_or row 0 0) 0 (omega arith) (omega (arith, long, hj)))
    (get_or-set_other three (192 + j) (64 * 1 + j) (get_or row 3 0) 0 (omega arith)
    ∙ get_or-set_other two (128 + j) (64 * 1 + j) (get_or row 2 0) 0 (omega arith)
    ∙ get_or-set_at one (64 + j) (64 * 1 + j) (get_or row 1 0) 0 (omega arith) (omega (arith, one_long, hj)))
    (get_or-set_other three (192 + j) (64 * 2 + j) (get_or row 3 0) 0 (omega arith)
    ∙ get_or-set_at two (128 + j) (64 * 2 + j) (get_or row 2 0) 0 (omega arith) (omega (arith, two_long, hj)))
    (get_or-set_at three (192 + j) (64 * 3 + j) (get_or row 3 0) 0 (omega arith) (omega (arith, three_long, hj)))

-- the words of the rows below j have come to their places, and then those of row j too. D q k is the word of lane q in row k
pub spread_more : (D : ℕ → ℕ → ℕ) (words : List ℕ) (j : ℕ) (row : List ℕ) → length words ≡ 256 → j < 64
    → ((q : ℕ) → get_or row q 0 ≡ D q j)
    → ((q k : ℕ) → q < 4 → k < j → get_or words (64 * q + k) 0 ≡ D q k)
    → (q k : ℕ) → q < 4 → k < j + 1 → get_or (spread words j row) (64 * q + k) 0 ≡ D q k
spread_more D words j row long hj here done q k hq hk =
    elim (cases_lt k j) [
      | inl under ↦
          spread_other words j row (64 * q + k) (omega (arith, under, hj, hq)) (omega (arith, under, hj, hq)) (omega (arith, under, hj, hq)) (omega (arith, under, hj, hq))
          ∙ done q k hq under
      | inr over ↦
          let e : k ≡ j = omega (arith, over, hk) in
          ap (λ x. get_or (spread words j row) (64 * q + x) 0) e ∙ spread_at words j row long hj q hq ∙ here q ∙ ap (D q) (sym e)
    ]

-- a word put into each of the four blocks of a quad, one after another: those of the first three stay as they are put
pub four_blocks : (quad : ℕ) (words : List ℕ) (fourth third second first old : List Bool) → 256 * quad + 256 ≤ length old → length first ≡ length old → length second ≡ length first → length third ≡ length second
    → ((i : ℕ) → i < 64 → 64 * (4 * quad) + i < length old → get_or first (64 * (4 * quad) + i) false ≡ word_bit (get_or words 0 0) i)
    → ((i : ℕ) → i < 64 → 64 * (4 * quad + 1) + i < length first → get_or second (64 * (4 * quad + 1) + i) false ≡ word_bit (get_or words 1 0) i)
    → ((i : ℕ) → i < 64 → 64 * (4 * quad + 2) + i < length second → get_or third (64 * (4 * quad + 2) + i) false ≡ word_bit (get_or words 2 0) i)
    → ((i : ℕ) → i < 64 → 64 * (4 * quad + 3) + i < length third → get_or fourth (64 * (4 * quad + 3) + i) false ≡ word_bit (get_or words 3 0) i)
    → ((v : ℕ) → v < length first → v / 64 ≢ 4 * quad + 1 → get_or second v false ≡ get_or first v false)
    → ((v : ℕ) → v < length second → v / 64 ≢ 4 * quad + 2 → get_or third v false ≡ get_or second v false)
    → ((v : ℕ) → v < length third → v / 64 ≢ 4 * quad + 3 → get_or fourth v false ≡ get_or third v false)
    → (q i : ℕ) → q < 4 → i < 64 → get_or fourth (256 * quad + 64 * q + i) false ≡ word_bit (get_or words q 0) i
four_blocks quad words fourth third second first old room one two three a b c d past_one past_two past_three q i hq hi =
    let v0 : ℕ = 64 * (4 * quad) + i in
    let v1 : ℕ = 64 * (4 * quad + 1) + i in
    let v2 : ℕ = 64 * (4 * quad + 2) + i in
    let v3 : ℕ = 64 * (4 * quad + 3) + i in
    each_of_four (λ q. get_or fourth (256 * quad + 64 * q + i) false ≡ word_bit (get_or words q 0) i)
    (ap (λ v. get_or fourth v false) (omega arith)
    ∙ past_three v0 (omega (arith, room, one, two, three, hi)) (omega (arith, hi)) ∙ past_two v0 (omega (arith, room, one, two, hi)) (omega (arith, hi)) ∙ past_one v0 (omega (arith, room, one, hi)) (omega (arith, hi))
    ∙ a i hi (omega (arith, room, one, hi)))
    (ap (λ v. get_or fourth v false) (omega arith)
    ∙ past_three v1 (omega (arith, room, one, two, three, hi)) (omega (arith, hi)) ∙ past_two v1 (omega (arith, room, one, two, hi)) (omega (arith, hi))
    ∙ b i hi (omega (arith, room, one, hi)))
    (ap (λ v. get_or fourth v false) (omega arith)
    ∙ past_three v2 (omega (arith, room, one, two, three, hi)) (omega (arith, hi))
    ∙ c i hi (omega (arith, room, one, two, hi)))
    (ap (λ v. get_or fourth v false) (omega arith) ∙ d i hi (omega (arith, room, one, two, three, hi))) q hq
