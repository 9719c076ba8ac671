-- Planes that repeat, and the coordinate of a processor as a place in a period.
use Rattle.std.proofs.Common.{◌≡◌, ℕ, ◌+◌, ◌-◌, ◌*◌, ◌/◌, ◌%◌, ◌<◌, ◌≤◌, Bool, true, false, ◌&&◌, ◌||◌, List, length, get_or, arith, ap, ◌∙◌, sym, leb, ltb, eqb, inl, inr, replicate, subst}
use Rattle.std.specs.Simd.Lanes.{zip2}
use Rattle.std.proofs.Math.Nat.{mod-eq_of_lt, mod-lt, mul-add-mod_self_right, mul-le-mul_right, mul_assoc}
use Rattle.std.proofs.lemmas.Bool.{cases_lt, cases_eq}
use Rattle.std.proofs.lemmas.Bool.Decides.{nat_tests}
use Rattle.std.proofs.lemmas.Nat.{div-add-mod', mod-mul-add}
use Rattle.std.proofs.lemmas.Simd.{get_or-zip2, get_or-replicate}
use Rattle.paris_plane.specs.Bits.{differ}

-- whether a place in a period is marked
abbrev pub marked : ℕ → ℕ → ℕ → Bool
marked from until x = leb from x && ltb x until

-- a plane of ones that was raised
pub raised_ones : (n by v : ℕ) (ones raised : List Bool) → ones ≡ replicate n true → v < n → ((u : ℕ) → u < by → u < n → get_or raised u false ≡ false) → ((u : ℕ) → u + by < n → get_or raised (u + by) false ≡ get_or ones u false) → get_or raised v false ≡ leb by v
raised_ones n by v ones raised is below low high =
    elim (cases_lt v by) [
      | inl h ↦ low v h below ∙ (let e : leb by v ≡ false = grind (arith, nat_tests) in sym e)
      | inr h ↦
          let back : v - by + by ≡ v = omega arith in
          let e : leb by v ≡ true = grind (arith, nat_tests) in
          subst (λ u. get_or raised u false ≡ true) back (high (v - by) (omega arith) ∙ ap (λ l. get_or l (v - by) false) is ∙ get_or-replicate n (v - by) true false (omega arith))
          ∙ sym e
    ]

first_period : (from until period v : ℕ) → from ≤ until → until ≤ period → differ (leb from v) (leb until v) ≡ (ltb v period && marked from until (v % period))
first_period from until period v order within =
    elim (cases_lt v period) [
      | inl h ↦
          let e : v % period ≡ v = mod-eq_of_lt h in
          let f : differ (leb from v) (leb until v) ≡ (ltb v period && marked from until v) = grind (arith, nat_tests) in
          f ∙ ap (λ x. ltb v period && marked from until x) (sym e)
      | inr h ↦
          let a : leb from v ≡ true = grind (arith, nat_tests) in
          let b : leb until v ≡ true = grind (arith, nat_tests) in
          let d : ltb v period ≡ false = grind (arith, nat_tests) in
          ap (λ x. differ x (leb until v)) a ∙ ap (differ true) b ∙ sym (ap (λ x. x && marked from until (v % period)) d)
    ]

pub begun : (n from until period v : ℕ) (ones a b p : List Bool) → from ≤ until → until ≤ period → v < n → ones ≡ replicate n true → length a ≡ n → length b ≡ n → ((u : ℕ) → u < from → u < n → get_or a u false ≡ false) → ((u : ℕ) → u + from < n → get_or a (u + from) false ≡ get_or ones u false) → ((u : ℕ) → u < until → u < n → get_or b u false ≡ false) → ((u : ℕ) → u + until < n → get_or b (u + until) false ≡ get_or ones u false) → p ≡ zip2 differ a b → get_or p v false ≡ (ltb v period && marked from until (v % period))
begun n from until period v ones a b p order within below is na nb alow ahigh blow bhigh e =
    ap (λ l. get_or l v false) e ∙ get_or-zip2 differ a b v false false false (omega arith) (omega arith)
    ∙ ap (λ x. differ x (get_or b v false)) (raised_ones n from v ones a is below alow ahigh)
    ∙ ap (differ (leb from v)) (raised_ones n until v ones b is below blow bhigh)
    ∙ first_period from until period v order within

-- one more doubling
same_place : (period step v : ℕ) → step % period ≡ 0 → step ≤ v → (v - step) % period ≡ v % period
same_place period step v whole h =
    let parts : step ≡ step / period * period = omega (arith, div-add-mod' step period) in
    let sum : step / period * period + (v - step) ≡ v = omega arith in
    sym (mul-add-mod_self_right (step / period) period (v - step)) ∙ ap (λ x. x % period) sum

pub doubled : (n period step v : ℕ) (mark : ℕ → Bool) (p moved q : List Bool) → length p ≡ n → length moved ≡ n → step % period ≡ 0 → v < n → ((u : ℕ) → u < n → get_or p u false ≡ (ltb u step && mark (u % period))) → ((u : ℕ) → u < step → u < n → get_or moved u false ≡ false) → ((u : ℕ) → u + step < n → get_or moved (u + step) false ≡ get_or p u false) → q ≡ zip2 (λ a b. a || b) p moved → get_or q v false ≡ (ltb v (step * 2) && mark (v % period))
doubled n period step v mark p moved q np nm whole below bits low high e =
    let each = ap (λ l. get_or l v false) e ∙ get_or-zip2 (λ a b. a || b) p moved v false false false (omega arith) (omega arith) in
    elim (cases_lt v step) [
      | inl h ↦
          let a : ltb v step ≡ true = grind (arith, nat_tests) in
          let b : ltb v (step * 2) ≡ true = grind (arith, nat_tests) in
          let c : get_or moved v false ≡ false = low v h below in
          let d : get_or p v false ≡ mark (v % period) = bits v below ∙ ap (λ x. x && mark (v % period)) a in
          let f : (get_or p v false || get_or moved v false) ≡ mark (v % period) = grind (arith, c, d) in
          each ∙ f ∙ sym (ap (λ x. x && mark (v % period)) b)
      | inr h ↦
          let back : v - step + step ≡ v = omega arith in
          let a : ltb v step ≡ false = grind (arith, nat_tests) in
          let b : ltb (v - step) step ≡ ltb v (step * 2) = grind (arith, nat_tests) in
          let d : get_or p v false ≡ false = bits v below ∙ ap (λ x. x && mark (v % period)) a in
          let c : get_or moved v false ≡ get_or p (v - step) false = ap (λ u. get_or moved u false) (sym back) ∙ high (v - step) (omega arith) in
          each ∙ ap (λ x. x || get_or moved v false) d ∙ c ∙ bits (v - step) (omega arith)
          ∙ ap (λ x. x && mark ((v - step) % period)) b ∙ ap (λ x. ltb v (step * 2) && mark x) (same_place period step v whole h)
    ]

pub twice_whole : (step period : ℕ) → step % period ≡ 0 → step * 2 % period ≡ 0
twice_whole step period whole =
    let parts : step ≡ step / period * period = omega (arith, div-add-mod' step period) in
    let sum : step / period * period + step ≡ step * 2 = omega arith in
    ap (λ x. x % period) (sym sum) ∙ mul-add-mod_self_right (step / period) period step ∙ whole

-- the place of v in the period of a line
pub place_in : (s n v : ℕ) → 0 < s → 0 < n → v % (n * s) ≡ v / s % n * s + v % s
place_in s n v some long =
    let rest : v % s < s = mod-lt v some in
    let digit : v / s % n + 1 ≤ n = (let y : v / s % n < n = mod-lt (v / s) long in omega arith) in
    let scaled : (v / s % n + 1) * s ≤ n * s = mul-le-mul_right s digit in
    let parts : v / s / n * (n * s) + (v / s % n * s + v % s) ≡ v =
    (let a : (v / s / n * n + v / s % n) * s ≡ v / s * s = ap (λ x. x * s) (div-add-mod' (v / s) n) in
    omega (arith, a, div-add-mod' v s, sym (mul_assoc (v / s / n) n s))) in
    ap (λ x. x % (n * s)) (sym parts) ∙ mod-mul-add (v / s / n) (n * s) (v / s % n * s + v % s) (omega arith)

pub marks_coordinate : (s n v c : ℕ) → 0 < s → c < n → marked (c * s) (c * s + s) (v % (n * s)) ≡ eqb (v / s % n) c
marks_coordinate s n v c some small =
    let rest : v % s < s = mod-lt v some in
    let place : v % (n * s) ≡ v / s % n * s + v % s = place_in s n v some (omega arith) in
    elim (cases_eq (v / s % n) c) [
      | inl same ↦
          let e : v / s % n * s ≡ c * s = ap (λ x. x * s) same in
          let a : leb (c * s) (v % (n * s)) ≡ true = grind (arith, nat_tests) in
          let b : ltb (v % (n * s)) (c * s + s) ≡ true = grind (arith, nat_tests) in
          let t : eqb (v / s % n) c ≡ true = grind (arith, nat_tests) in
          ap (λ x. x && ltb (v % (n * s)) (c * s + s)) a ∙ b ∙ sym t
      | inr apart ↦
          let t : eqb (v / s % n) c ≡ false = grind (arith, nat_tests) in
          elim (cases_lt (v / s % n) c) [
            | inl less ↦
                let up : (v / s % n + 1) * s ≤ c * s = mul-le-mul_right s (let y : v / s % n + 1 ≤ c = omega arith in y) in
                let a : leb (c * s) (v % (n * s)) ≡ false = grind (arith, nat_tests) in
                ap (λ x. x && ltb (v % (n * s)) (c * s + s)) a ∙ sym t
            | inr more ↦
                let up : (c + 1) * s ≤ v / s % n * s = mul-le-mul_right s (let y : c + 1 ≤ v / s % n = omega arith in y) in
                let a : leb (c * s) (v % (n * s)) ≡ true = grind (arith, nat_tests) in
                let b : ltb (v % (n * s)) (c * s + s) ≡ false = grind (arith, nat_tests) in
                ap (λ x. x && ltb (v % (n * s)) (c * s + s)) a ∙ b ∙ sym t
          ]
    ]
