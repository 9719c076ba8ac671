-- Two neighbouring blocks make one of twice the length, and the block of a whole axis is the line.
use Rattle.std.proofs.Common.{◌≡◌, ℕ, zero, suc, ◌+◌, ◌-◌, ◌*◌, ◌/◌, ◌%◌, ◌<◌, ◌≤◌, Bool, true, false, cond, List, [], ◌∷◌, ◌++◌, append_assoc, map, arith, ap, ◌∙◌, sym, refl, inl, inr}
use Rattle.std.specs.Prelude.{All, filter}
use Rattle.std.specs.List.{range_with_len}
use Rattle.std.proofs.Math.Nat.{add-mul-div_left, add-mod_right, div-div-eq-div-mul, mul-pos}
use Rattle.std.proofs.Math.Arith.{mod-mul}
use Rattle.std.proofs.lemmas.List.Elements.{All-append, All-nil}
use Rattle.std.proofs.lemmas.Nat.{div-add-mod'}
use Rattle.paris_plane.specs.Digits.{digit}
use Rattle.paris_plane.proofs.Digits.{digit-add, digit_cases}
use Rattle.paris_plane.proofs.Exchanged.{pair_before}
use Rattle.paris_field.proofs.Turn.{one_at_least}
use Rattle.paris_geometry.specs.Geometry.{stride, axis_length}
use Rattle.paris_model.specs.Lines.{values_where, line_values}
use Rattle.paris_scan.specs.Blocks.{row, block_start, block}

pub row_split : (own : ℕ → List ℕ) (s m n u : ℕ) → row own s (m + n) u ≡ row own s m u ++ row own s n (u + m * s)
unfolding row
row_split own s zero n u = (let e : 0 + n ≡ n = omega arith in ap (λ k. row own s k u) e) ∙ ap (row own s n) (omega arith)
row_split own s (suc m) n u =
    (let e : suc m + n ≡ suc (m + n) = omega arith in ap (λ k. row own s k u) e)
    ∙ ap (λ l. own u ++ l) (row_split own s m n (u + s))
    ∙ sym (append_assoc (own u) (row own s m (u + s)) (row own s n (u + s + m * s)))
    ∙ ap (λ x. (own u ++ row own s m (u + s)) ++ row own s n x) (omega arith)

pub row_all : (P : ℕ → Type 0) (own : ℕ → List ℕ) (s n u : ℕ) → ((w : ℕ) → All P (own w)) → All P (row own s n u)
unfolding row
row_all P own s zero u each = All-nil P
row_all P own s (suc n) u each = All-append P (own u) (row own s n (u + s)) (each u) (row_all P own s n (u + s) each)

pub append_nil : (xs : List ℕ) → xs ++ [] ≡ xs
append_nil [] = refl
append_nil (x ∷ xs) = ap (λ l. x ∷ l) (append_nil xs)

-- the block of one place
pub block_one : (own : ℕ → List ℕ) (s v : ℕ) → block own s 1 v ≡ own v
unfolding row
block_one own s v = append_nil (own (block_start s 1 v)) ∙ ap own (let e : v / s % 1 ≡ 0 = omega arith in ap (λ c. v - c * s) e ∙ omega arith)

-- a coordinate in a block of twice the length
twice_place : (s n v : ℕ) → 0 < n → v / s % (n * 2) ≡ digit (n * s) v * n + v / s % n
twice_place s n v some =
    let two : 0 < 2 = omega arith in
    let swap : n * 2 ≡ 2 * n = omega arith in
    let order : s * n ≡ n * s = omega arith in
    ap (λ m. v / s % m) swap ∙ mod-mul (v / s) two some
    ∙ ap (λ q. q % 2 * n + v / s % n) (div-div-eq-div-mul v s n ∙ ap (λ t. v / t) order)

place_above : (s n v : ℕ) → 0 < s → (v + n * s) / s ≡ v / s + n
place_above s n v some = ap (λ t. (v + t) / s) (let e : n * s ≡ s * n = omega arith in e) ∙ add-mul-div_left v n some

place_within : (s n v : ℕ) → 0 < s → 0 < n → v / s % n * s ≤ v
place_within s n v some more =
    let split : v / s * s + v % s ≡ v = div-add-mod' v s in
    let inner : v / s / n * n + v / s % n ≡ v / s = div-add-mod' (v / s) n in
    let scaled : (v / s / n * n + v / s % n) * s ≡ v / s * s = ap (λ x. x * s) inner in
    omega (arith, split, scaled)

-- the lower of two neighbouring blocks, and the upper one
start_both : (s n v : ℕ) → 0 < n → digit (n * s) v ≡ 0 → block_start s (n * 2) v ≡ block_start s n v
start_both s n v some e =
    ap (λ c. v - c * s) (twice_place s n v some ∙ ap (λ b. b * n + v / s % n) e) ∙ omega arith

start_there : (s n v : ℕ) → 0 < s → 0 < n → block_start s n (v + n * s) ≡ block_start s n v + n * s
start_there s n v some more =
    let within : v / s % n * s ≤ v = place_within s n v some more in
    ap (λ q. v + n * s - q % n * s) (place_above s n v some)
    ∙ ap (λ c. v + n * s - c * s) (add-mod_right (v / s) n)
    ∙ omega (arith, within)

start_above : (s n v : ℕ) → 0 < s → 0 < n → digit (n * s) v ≡ 0 → block_start s (n * 2) (v + n * s) ≡ block_start s n v
start_above s n v some more e =
    let pos : 0 < n * s = mul-pos more some in
    let one : digit (n * s) (v + n * s) ≡ 1 = digit-add (n * s) v pos ∙ ap (λ b. (b + 1) % 2) e in
    let within : v / s % n * s ≤ v = place_within s n v some more in
    ap (λ c. v + n * s - c * s) (twice_place s n (v + n * s) more ∙ ap (λ b. b * n + (v + n * s) / s % n) one)
    ∙ ap (λ q. v + n * s - (1 * n + q % n) * s) (place_above s n v some)
    ∙ ap (λ c. v + n * s - (1 * n + c) * s) (add-mod_right (v / s) n)
    ∙ omega (arith, within)

doubled : (n : ℕ) → n * 2 ≡ n + n
doubled n = omega arith

halves : (own : ℕ → List ℕ) (s n u v : ℕ) → 0 < s → 0 < n → block_start s (n * 2) v ≡ block_start s n u → block own s (n * 2) v ≡ block own s n u ++ block own s n (u + n * s)
halves own s n u v some more e =
    ap (row own s (n * 2)) e
    ∙ ap (λ k. row own s k (block_start s n u)) (doubled n)
    ∙ row_split own s n n (block_start s n u)
    ∙ ap (λ x. row own s n (block_start s n u) ++ row own s n x) (sym (start_there s n u some more))

-- a block that is twice as long, seen from its lower half and from its upper half
pub halves_below : (own : ℕ → List ℕ) (s n u : ℕ) → 0 < s → 0 < n → digit (n * s) u ≡ 0 → block own s (n * 2) u ≡ block own s n u ++ block own s n (u + n * s)
halves_below own s n u some more e = halves own s n u u some more (start_both s n u more e)

pub halves_above : (own : ℕ → List ℕ) (s n u : ℕ) → 0 < s → 0 < n → digit (n * s) u ≡ 0 → block own s (n * 2) (u + n * s) ≡ block own s n u ++ block own s n (u + n * s)
halves_above own s n u some more e = halves own s n u (u + n * s) some more (start_above s n u some more e)

earlier_digit : (s v : ℕ) → 0 < s → digit s v ≡ 1 → digit s (v - s) ≡ 0
earlier_digit s v some e =
    let above : s ≤ v = one_at_least s v e in
    let more : digit s v ≡ (digit s (v - s) + 1) % 2 = ap (digit s) (omega arith) ∙ digit-add s (v - s) some in
    elim (digit_cases s (v - s)) [ inl z ↦ z | inr z ↦ absurd (omega (arith, e, more, z)) ]

-- one turn: each processor joins the block of the one whose place differs in one digit to its own
pub record Turn (sh : List ℕ → ℕ) (P : ℕ → Type 0) (own : ℕ → List ℕ) (s n N : ℕ) (old : ℕ → ℕ) : Type 0 where
  pub some : 0 < s
  pub more : 0 < n
  pub whole : N % (2 * (n * s)) ≡ 0
  pub swapped : (xs ys : List ℕ) → sh (xs ++ ys) ≡ sh (ys ++ xs)
  pub fits : (u : ℕ) → All P (own u)
  pub olds : (u : ℕ) → u < N → old u ≡ sh (block own s n u)

pub gathered_twice : {sh : List ℕ → ℕ} {P : ℕ → Type 0} {own : ℕ → List ℕ} {s n N : ℕ} {old : ℕ → ℕ} → Turn sh P own s n N old → (new : ℕ → ℕ) (v : ℕ)
    → ((xs ys : List ℕ) → All P xs → All P ys
    → ((x : ℕ) → (digit (n * s) v ≡ 0 → v + n * s < N → x ≡ old (v + n * s)) × ((u : ℕ) → digit (n * s) u ≡ 0 → v ≡ u + n * s → x ≡ old u) → x ≡ sh xs)
    → old v ≡ sh ys → new v ≡ sh (xs ++ ys))
    → v < N → new v ≡ sh (block own s (n * 2) v)
gathered_twice {sh} {P} {own} {s} {n} {N} {old} t new v joined below =
    let d : ℕ = n * s in
    let some : 0 < s = t.some in
    let more : 0 < n = t.more in
    let pos : 0 < d = mul-pos more some in
    let all : (u : ℕ) → All P (block own s n u) = λ u. row_all P own s n (block_start s n u) t.fits in
    elim (digit_cases d v) [
      | inl e ↦
          let there : v + d < N = pair_before d N v pos t.whole e below in
          joined (block own s n (v + d)) (block own s n v) (all (v + d)) (all v) (λ x comes. comes.0 e there ∙ t.olds (v + d) there) (t.olds v below)
          ∙ t.swapped (block own s n (v + d)) (block own s n v)
          ∙ ap sh (sym (halves_below own s n v some more e))
      | inr e ↦
          let above : d ≤ v = one_at_least d v e in
          let u : ℕ = v - d in
          let is : u + d ≡ v = omega arith in
          let z : digit d u ≡ 0 = earlier_digit d v pos e in
          joined (block own s n u) (block own s n v) (all u) (all v)
          (λ x comes. comes.1 u z (sym is) ∙ t.olds u (omega (arith, below, is)))
          (t.olds v below)
          ∙ ap (λ w. sh (block own s n u ++ block own s n w)) (sym is)
          ∙ ap sh (sym (halves_above own s n u some more z))
          ∙ ap (λ w. sh (block own s (n * 2) w)) is
    ]

-- the values of processors that pass a test, one after the other
one_first : (value : ℕ → ℕ) (b : Bool) (x : ℕ) (xs : List ℕ) → map value (cond b (x ∷ xs) xs) ≡ map value (cond b (x ∷ []) []) ++ map value xs
one_first value true x xs = refl
one_first value false x xs = refl

row_values : (selected : ℕ → Bool) (value : ℕ → ℕ) (s n a u : ℕ) → row (λ w. values_where selected value (w ∷ [])) s n (u + a * s) ≡ values_where selected value (map (λ c. u + c * s) (range_with_len a n))
unfolding row
row_values selected value s zero a u = refl
row_values selected value s (suc n) a u =
    ap (λ x. values_where selected value ((u + a * s) ∷ []) ++ row (λ w. values_where selected value (w ∷ [])) s n x) (omega arith)
    ∙ ap (λ l. values_where selected value ((u + a * s) ∷ []) ++ l) (row_values selected value s n (a + 1) u)
    ∙ sym (one_first value (selected (u + a * s)) (u + a * s) (filter selected (map (λ c. u + c * s) (range_with_len (a + 1) n))))

-- the block of a whole axis is the line
pub block_line : (axes : List ℕ) (a : ℕ) (selected : ℕ → Bool) (value : ℕ → ℕ) (v : ℕ) → block (λ u. values_where selected value (u ∷ [])) (stride axes a) (axis_length axes a) v ≡ line_values axes a selected value v
block_line axes a selected value v =
    let s : ℕ = stride axes a in
    let n : ℕ = axis_length axes a in
    ap (row (λ u. values_where selected value (u ∷ [])) s n) (let e : block_start s n v ≡ block_start s n v + 0 * s = omega arith in e)
    ∙ row_values selected value s n 0 (block_start s n v)
