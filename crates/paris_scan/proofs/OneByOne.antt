-- Lists that are written over one place after another, as lines are walked.
use Rattle.std.proofs.Common.{◌≡◌, ◌≢◌, ℕ, ◌+◌, ◌-◌, ◌%◌, ◌^◌, ◌<◌, ◌≤◌, ◌||◌, Bool, true, false, cond, List, length, get_or, set, bit_and, leb, arith, ap, ◌∙◌, sym, subst, refl, inl, inr}
use Rattle.std.proofs.Math.Nat.{mod-add-mod, mod-eq_of_lt}
use lib.Pow.{pow_pos}
use Rattle.std.proofs.lemmas.Bool.{cases_eq, cases_lt}
use Rattle.std.proofs.lemmas.Bool.Decides.{nat_tests}
use Rattle.std.proofs.lemmas.List.{get_or-set_same, get_or-set_other}
use Rattle.std.proofs.lemmas.Nat.{and_mask}
use Rattle.paris_geometry.specs.declared.direction.Direction.{Direction}
use Rattle.paris_geometry.specs.declared.direction.Direction.TheVariants.{Upward, Downward}
use Rattle.paris_model.specs.Store.{low}
use Rattle.paris_scan.specs.Running.{HasBefore, walked}
use Rattle.paris_scan.specs.Runs.{before}

-- n places, each of a processor of its own, and each processor at the place of its place
pub record Order (n : ℕ) (at : ℕ → ℕ) : Type 0 where
  pub within : (p : ℕ) → p < n → at p < n
  pub apart : (p q : ℕ) → p < q → q < n → at p ≢ at q
  pub twice : (v : ℕ) → v < n → at (at v) ≡ v

pub forward : (d : Direction) (n : ℕ) → Order n (walked d n)
forward Upward n = record {
  within = λ p h. h;
  apart = λ p q h _ e. absurd (omega (arith, h, e));
  twice = λ v _. refl;
}
forward Downward n = record {
  within = λ p h. omega (arith, h);
  apart = λ p q h below e. absurd (omega (arith, h, below, e));
  twice = λ v h. omega (arith, h);
}

-- from the last place on
abbrev pub returned : Direction → ℕ → ℕ → ℕ
returned d n place = walked d n (n - 1 - place)

pub backward : (d : Direction) (n : ℕ) → Order n (returned d n)
backward Upward n = record {
  within = λ p h. omega (arith, h);
  apart = λ p q h below e. absurd (omega (arith, h, below, e));
  twice = λ v h. omega (arith, h);
}
backward Downward n = record {
  within = λ p h. omega (arith, h);
  apart = λ p q h below e. absurd (omega (arith, h, below, e));
  twice = λ v h. omega (arith, h);
}

-- the one before a place is at an earlier place, and at a later one on the way back
pub record Earlier (at : ℕ → ℕ) (place u : ℕ) : Type 0 where
  pub place_of : ℕ
  pub earlier : place_of < place
  pub is : u ≡ at place_of

pub record Later (n : ℕ) (at : ℕ → ℕ) (place u : ℕ) : Type 0 where
  pub place_of : ℕ
  pub later : place ≤ place_of
  pub within : place_of < n
  pub is : u ≡ at place_of

pub before_earlier : (d : Direction) (by n place : ℕ) → 0 < by → place < n → HasBefore d by n (walked d n place) → Earlier (walked d n) place (before d by (walked d n place))
before_earlier Upward by n place some h has = record { place_of = place - by; earlier = (let b : by ≤ place = has.0 refl in omega (arith, some, b)); is = refl }
before_earlier Downward by n place some h has = (let b : (n - 1 - place) + by < n = has.1 refl in record { place_of = place - by; earlier = omega (arith, some, h, b); is = omega (arith, h, b) })

pub before_later : (d : Direction) (by n place : ℕ) → place < n → HasBefore d by n (returned d n place) → Later n (returned d n) place (before d by (returned d n place))
before_later Upward by n place h has = (let b : by ≤ n - 1 - place = has.0 refl in record { place_of = place + by; later = omega arith; within = omega (arith, h, b); is = omega (arith, h, b) })
before_later Downward by n place h has = (let b : (n - 1 - (n - 1 - place)) + by < n = has.1 refl in record { place_of = place + by; later = omega arith; within = omega (arith, h, b); is = omega (arith, h, b) })

-- at the processors of the first places a function is made, and at the others it is what it was
pub record Passed {X : Type 0} (n : ℕ) (at : ℕ → ℕ) (place : ℕ) (made old now : ℕ → X) : Type 0 where
  pub first : (p : ℕ) → p < place → now (at p) ≡ made (at p)
  pub rest : (p : ℕ) → place ≤ p → p < n → now (at p) ≡ old (at p)

pub passed_put : {X : Type 0} {n : ℕ} {at : ℕ → ℕ} → Order n at → (place : ℕ) (made old now next : ℕ → X) (v : ℕ) → Passed n at place made old now → place < n → v ≡ at place → next v ≡ made v → ((u : ℕ) → u < n → u ≢ v → next u ≡ now u) → Passed n at (place + 1) made old next
passed_put {X} {n} {at} o place made old now next v w h is made_is others = record {
  first = λ p below. elim (cases_eq p place) [
    | inl e ↦ let same : at p ≡ v = ap at e ∙ sym is in ap next same ∙ made_is ∙ ap made (sym same)
    | inr apart ↦ others (at p) (o.within p (omega (arith, h, below))) (λ e. o.apart p place (omega (arith, below, apart)) h (e ∙ is)) ∙ w.first p (omega (arith, below, apart))
  ];
  rest = λ p above below. others (at p) (o.within p below) (λ e. o.apart place p (omega (arith, above)) below (sym (e ∙ is))) ∙ w.rest p (omega (arith, above)) below;
}

pub passed_all : {X : Type 0} {n : ℕ} {at : ℕ → ℕ} → Order n at → (made old now : ℕ → X) → Passed n at n made old now → (v : ℕ) → v < n → now v ≡ made v
passed_all {X} {n} {at} o made old now w v h =
    ap now (sym (o.twice v h)) ∙ w.first (at v) (o.within v h) ∙ ap made (o.twice v h)

-- what the processors of the first places hold is made, and the others hold what was there
abbrev pub Walked : {X : Type 0} → ℕ → (ℕ → ℕ) → ℕ → (ℕ → X) → (ℕ → X) → X → List X → Type 0
Walked n at place made old d xs = Passed n at place made old (λ v. get_or xs v d)

pub walked_set : {X : Type 0} {n : ℕ} {at : ℕ → ℕ} → Order n at → (place : ℕ) (made old : ℕ → X) (d : X) (xs : List X) (v : ℕ) (x : X) → Walked n at place made old d xs → length xs ≡ n → place < n → v ≡ at place → x ≡ made v → Walked n at (place + 1) made old d (set xs v x)
walked_set {X} {n} {at} o place made old d xs v x w long h is made_is =
    passed_put o place made old (λ u. get_or xs u d) (λ u. get_or (set xs v x) u d) v w h is
    (get_or-set_same xs v x d (omega (arith, is, o.within place h, long)) ∙ made_is)
    (λ u _ e. get_or-set_other xs v u x d e)

pub walked_kept : {X : Type 0} {n : ℕ} {at : ℕ → ℕ} (place : ℕ) (made old : ℕ → X) (d : X) (xs : List X) → Walked n at place made old d xs → place < n → old (at place) ≡ made (at place) → Walked n at (place + 1) made old d xs
walked_kept {X} {n} {at} place made old d xs w h same = record {
  first = λ p below. elim (cases_eq p place) [
    | inl e ↦ ap (λ q. get_or xs (at q) d) e ∙ w.rest place (omega arith) h ∙ same ∙ ap (λ q. made (at q)) (sym e)
    | inr apart ↦ w.first p (omega (arith, below, apart))
  ];
  rest = λ p above below. w.rest p (omega (arith, above)) below;
}

pub walked_all : {X : Type 0} {n : ℕ} {at : ℕ → ℕ} → Order n at → (made old : ℕ → X) (d : X) (xs : List X) → Walked n at n made old d xs → (v : ℕ) → v < n → get_or xs v d ≡ made v
walked_all o made old d xs w v h = passed_all o made old (λ u. get_or xs u d) w v h

-- what the one before holds
pub cut_same : {X : Type 0} (b : Bool) (d x y : X) → (b ≡ false → x ≡ y) → cond b d x ≡ cond b d y
cut_same true d x y h = refl
cut_same false d x y h = h refl

pub made_before : {X : Type 0} (d : Direction) (by n place v : ℕ) (begins : ℕ → Bool) (made old : ℕ → X) (t z : X) (xs : List X) → 0 < by → place < n → v ≡ walked d n place → (begins v ≡ false → HasBefore d by n v) → Walked n (walked d n) place made old z xs
    → cond (begins v) t (get_or xs (before d by v) z) ≡ cond (begins v) t (made (before d by v))
made_before d by n place v begins made old t z xs some h is reach w =
    cut_same (begins v) t (get_or xs (before d by v) z) (made (before d by v)) (λ none.
    let e = before_earlier d by n place some h (subst (HasBefore d by n) is (reach none)) in
    let at : before d by v ≡ walked d n e.place_of = ap (before d by) is ∙ e.is in
    ap (λ u. get_or xs u z) at ∙ w.first e.place_of e.earlier ∙ ap made (sym at))

pub old_before : {X : Type 0} (d : Direction) (by n place v : ℕ) (begins : ℕ → Bool) (made old : ℕ → X) (t z : X) (xs : List X) → place < n → v ≡ returned d n place → (begins v ≡ false → HasBefore d by n v) → Walked n (returned d n) place made old z xs
    → cond (begins v) t (get_or xs (before d by v) z) ≡ cond (begins v) t (old (before d by v))
old_before d by n place v begins made old t z xs h is reach w =
    cut_same (begins v) t (get_or xs (before d by v) z) (old (before d by v)) (λ none.
    let l = before_later d by n place h (subst (HasBefore d by n) is (reach none)) in
    let at : before d by v ≡ returned d n l.place_of = ap (before d by) is ∙ l.is in
    ap (λ u. get_or xs u z) at ∙ w.rest l.place_of l.later l.within ∙ ap old (sym at))

-- the low bits of a sum, of those of the one before it
pub low_next : (bits b x y : ℕ) (t : Bool) → x ≡ cond t 0 (low bits b) → bit_and (x + y) (2 ^ bits - 1) ≡ low bits (cond t 0 b + y)
low_next bits b x y true is =
    and_mask (x + y) bits ∙ ap (λ z. low bits (z + y)) is
low_next bits b x y false is =
    and_mask (x + y) bits ∙ ap (λ z. low bits (z + y)) is ∙ mod-add-mod b (2 ^ bits) y

-- and whether it needs more
over_added : (p b y : ℕ) → 0 < p → (leb p b || leb p (b % p + y)) ≡ leb p (b + y)
over_added p b y some = elim (cases_lt b p) [
  | inl small ↦
      let e : b % p ≡ b = mod-eq_of_lt small in
      let none : leb p b ≡ false = grind (arith, nat_tests) in
      ap (λ t. t || leb p (b % p + y)) none ∙ ap (λ z. leb p (z + y)) e
  | inr big ↦
      let all : leb p b ≡ true = grind (arith, nat_tests) in
      let more : leb p (b + y) ≡ true = grind (arith, nat_tests) in
      ap (λ t. t || leb p (b % p + y)) all ∙ sym more
]

pub over_next : (bits b x y : ℕ) (t o : Bool) → x ≡ cond t 0 (low bits b) → o ≡ cond t false (leb (2 ^ bits) b) → (o || leb (2 ^ bits) (x + y)) ≡ leb (2 ^ bits) (cond t 0 b + y)
over_next bits b x y true o is over =
    ap (λ s. s || leb (2 ^ bits) (x + y)) over ∙ ap (λ z. leb (2 ^ bits) (z + y)) is
over_next bits b x y false o is over =
    ap (λ s. s || leb (2 ^ bits) (x + y)) over ∙ ap (λ z. leb (2 ^ bits) b || leb (2 ^ bits) (z + y)) is ∙ over_added (2 ^ bits) b y (pow_pos bits)
