-- The greatest of numbers with one digit more: where one of the greatest so far has the digit, it has it, and the others fall out.
use Rattle.std.proofs.Common.{◌≡◌, ℕ, zero, suc, ◌+◌, ◌*◌, ◌<◌, ◌≤◌, List, [], ◌∷◌, Bool, true, false, ◌&&◌, ◌||◌, not, cond, eqb, ltb, subst, map, max, arith, ◌∙◌, sym, ap, refl, inl, inr}
use Rattle.std.specs.Int.{from_bool}
use Rattle.std.specs.Prelude.{fold}
use Rattle.std.specs.List.{range_with_len, filter}
use Rattle.std.proofs.lemmas.Bool.{cases_eq, false≢true}
use Rattle.std.proofs.lemmas.Bool.Decides.{nat_tests}
use Rattle.paris_model.specs.Store.{bit}
use Rattle.paris_model.specs.Lines.{values_where}
use Rattle.paris_field.proofs.Numbers.{below_two}
use Rattle.paris_counts.specs.Masked.{masked_sum}

-- the greatest of what f gives for those of the n numbers from a on that pass the test, and 0 where none does
unfoldable pub top : (ℕ → Bool) → (ℕ → ℕ) → ℕ → ℕ → ℕ
top who f a zero = 0
top who f a (suc n) = max (cond (who a) (f a) 0) (top who f (a + 1) n)

max_from : (s : ℕ) (xs : List ℕ) → fold max s xs ≡ max s (fold max 0 xs)
max_from s [] = omega arith
max_from s (x ∷ xs) = omega (arith, max_from (max s x) xs, max_from (max 0 x) xs)

first_of : (f : ℕ → ℕ) (b : Bool) (x : ℕ) (us : List ℕ) → max (cond b (f x) 0) (fold max 0 (map f us)) ≡ fold max 0 (map f (cond b (x ∷ us) us))
first_of f true x us = omega (arith, max_from (max 0 (f x)) (map f us))
first_of f false x us = omega arith

pub top_is : (who : ℕ → Bool) (f : ℕ → ℕ) (a n : ℕ) → top who f a n ≡ fold max 0 (values_where who f (range_with_len a n))
unfolding top
top_is who f a zero = refl
top_is who f a (suc n) = ap (max (cond (who a) (f a) 0)) (top_is who f (a + 1) n) ∙ first_of f (who a) a (filter who (range_with_len (a + 1) n))

-- a bound that each of them has
taken : (b : Bool) (x m : ℕ) → (b ≡ true → x ≤ m) → cond b x 0 ≤ m
taken true x m h = h refl
taken false x m h = omega arith

pub top_most : (who : ℕ → Bool) (f : ℕ → ℕ) (m a n : ℕ) → ((v : ℕ) → a ≤ v → v < a + n → who v ≡ true → f v ≤ m) → top who f a n ≤ m
unfolding top
top_most who f m a zero each = omega arith
top_most who f m a (suc n) each =
    omega (arith, taken (who a) (f a) m (each a (omega arith) (omega arith)), top_most who f m (a + 1) n (λ v l u. each v (omega (arith, l)) (omega (arith, u))))

-- each of them is at most that
given : (b : Bool) (x : ℕ) → b ≡ true → x ≡ cond b x 0
given true x e = refl
given false x e = absurd (false≢true e)

pub top_at : (who : ℕ → Bool) (f : ℕ → ℕ) (a n v : ℕ) → a ≤ v → v < a + n → who v ≡ true → f v ≤ top who f a n
unfolding top
top_at who f a zero v l u e = absurd (omega (arith, l, u))
top_at who f a (suc n) v l u e =
    elim (cases_eq v a) [
      | inl same ↦ omega (arith, ap f same, given (who a) (f a) (ap who (sym same) ∙ e))
      | inr apart ↦ omega (arith, top_at who f (a + 1) n v (omega (arith, l, apart)) (omega (arith, u)) e)
    ]

-- twice as much
doubled : (b : Bool) (f g : ℕ) → 2 * g ≤ f → 2 * cond b g 0 ≤ cond b f 0
doubled true f g h = h
doubled false f g h = omega arith

pub top_twice : (who : ℕ → Bool) (f g : ℕ → ℕ) (a n : ℕ) → ((v : ℕ) → 2 * g v ≤ f v) → 2 * top who g a n ≤ top who f a n
unfolding top
top_twice who f g a zero each = omega arith
top_twice who f g a (suc n) each = omega (arith, doubled (who a) (f a) (g a) (each a), top_twice who f g (a + 1) n each)

-- whether one of those that pass a test has a digit
first_none : (b : Bool) (x : ℕ) → cond b x 0 ≡ 0 → b ≡ true → x ≡ 0
first_none true x e h = e
first_none false x e h = absurd (false≢true h)

pub none_of : (who : ℕ → Bool) (f : ℕ → ℕ) (a n : ℕ) → masked_sum who f a n ≡ 0 → (v : ℕ) → a ≤ v → v < a + n → who v ≡ true → f v ≡ 0
unfolding masked_sum
none_of who f a zero e v l u h = absurd (omega (arith, l, u))
none_of who f a (suc n) e v l u h =
    elim (cases_eq v a) [
      | inl same ↦ ap f same ∙ first_none (who a) (f a) (omega (arith, e)) (ap who (sym same) ∙ h)
      | inr apart ↦ none_of who f (a + 1) n (omega (arith, e)) v (omega (arith, l, apart)) (omega (arith, u)) h
    ]

first_some : (b : Bool) (x : ℕ) → 0 < cond b x 0 → (b ≡ true) × (0 < x)
first_some true x h = (refl, h)
first_some false x h = absurd (omega (arith, h))

pub some_of : (who : ℕ → Bool) (f : ℕ → ℕ) (a n : ℕ) → 0 < masked_sum who f a n → (v : ℕ) × (a ≤ v) × (v < a + n) × (who v ≡ true) × (0 < f v)
unfolding masked_sum
some_of who f a zero h = absurd (omega (arith, h))
some_of who f a (suc n) h =
    elim (cases_eq (cond (who a) (f a) 0) 0) [
      | inl none ↦
          let rest = some_of who f (a + 1) n (omega (arith, h, none)) in
          (rest.0, omega (arith, rest.1), omega (arith, rest.2), rest.3, rest.4)
      | inr some ↦
          let one = first_some (who a) (f a) (omega (arith, some)) in
          (a, omega arith, omega arith, one.0, one.1)
    ]

-- the greatest so far of the n from a on are the candidates
pub record Candidates (cand who : ℕ → Bool) (g : ℕ → ℕ) (m a n : ℕ) : Type 0 where
  pub here : (v : ℕ) → a ≤ v → v < a + n → cand v ≡ (who v && eqb (g v) m)

candidate : (b c : Bool) (x m : ℕ) → c ≡ (b && eqb x m) → b ≡ true → x ≡ m → c ≡ true
candidate b c x m is e same = is ∙ ap (λ p. p && eqb x m) e ∙ grind (arith, nat_tests, same)

passes : (b c : Bool) (x m : ℕ) → c ≡ (b && eqb x m) → c ≡ true → (b ≡ true) × (x ≡ m)
passes true c x m is e = (refl, grind (arith, nat_tests, sym is ∙ e))
passes false c x m is e = absurd (false≢true (sym is ∙ e))

-- one of them has the digit
pub top_one : (cand who : ℕ → Bool) (b g f : ℕ → ℕ) (a n : ℕ) → ((v : ℕ) → f v ≡ b v + 2 * g v) → ((v : ℕ) → b v < 2) → Candidates cand who g (top who g a n) a n → 0 < masked_sum cand b a n → top who f a n ≡ 2 * top who g a n + 1
top_one cand who b g f a n is digit here some =
    let m : ℕ = top who g a n in
    let one = some_of cand b a n some in
    let v : ℕ = one.0 in
    let p = passes (who v) (cand v) (g v) m (here.here v one.1 one.2) one.3 in
    let least : f v ≤ top who f a n = top_at who f a n v one.1 one.2 p.0 in
    let most : top who f a n ≤ 2 * m + 1 = top_most who f (2 * m + 1) a n (λ u l h e. omega (arith, is u, digit u, top_at who g a n u l h e)) in
    omega (arith, least, most, is v, p.1, one.4)

-- none of them has
pub top_none : (cand who : ℕ → Bool) (b g f : ℕ → ℕ) (a n : ℕ) → ((v : ℕ) → f v ≡ b v + 2 * g v) → ((v : ℕ) → b v < 2) → Candidates cand who g (top who g a n) a n → masked_sum cand b a n ≡ 0 → top who f a n ≡ 2 * top who g a n
top_none cand who b g f a n is digit here none =
    let m : ℕ = top who g a n in
    let least : 2 * m ≤ top who f a n = top_twice who f g a n (λ v. omega (arith, is v)) in
    let most : top who f a n ≤ 2 * m =
    top_most who f (2 * m) a n (λ u l h e.
    elim (cases_eq (g u) m) [
      | inl same ↦ omega (arith, is u, same, none_of cand b a n none u l h (candidate (who u) (cand u) (g u) m (here.here u l h) e same))
      | inr apart ↦ omega (arith, is u, digit u, apart, top_at who g a n u l h e)
    ]) in
    omega (arith, least, most)

-- and then
kept_bit : (w x : Bool) (g m : ℕ) → ((w && eqb g m) && x) ≡ (w && eqb (bit x + 2 * g) (2 * m + 1))
kept_bit true true g m = grind (arith, nat_tests)
kept_bit true false g m = grind (arith, nat_tests)
kept_bit false x g m = refl

pub next_one : (cand cand' who x : ℕ → Bool) (g f : ℕ → ℕ) (m a n : ℕ) → ((v : ℕ) → f v ≡ bit (x v) + 2 * g v) → Candidates cand who g m a n → ((v : ℕ) → a ≤ v → v < a + n → cand' v ≡ (cand v && x v)) → Candidates cand' who f (2 * m + 1) a n
next_one cand cand' who x g f m a n is here kept =
    record { here = λ v l h. kept v l h ∙ ap (λ c. c && x v) (here.here v l h) ∙ kept_bit (who v) (x v) (g v) m ∙ ap (λ t. who v && eqb t (2 * m + 1)) (sym (is v)) }

same_bit : (w : Bool) (x : Bool) (g m : ℕ) → (w && eqb g m ≡ true → bit x ≡ 0) → (w && eqb g m) ≡ (w && eqb (bit x + 2 * g) (2 * m))
same_bit false x g m h = refl
same_bit true false g m h = grind (arith, nat_tests)
same_bit true true g m h = grind (arith, nat_tests, h)

pub next_none : (cand cand' who x : ℕ → Bool) (g f : ℕ → ℕ) (m a n : ℕ) → ((v : ℕ) → f v ≡ bit (x v) + 2 * g v) → Candidates cand who g m a n → ((v : ℕ) → a ≤ v → v < a + n → cand v ≡ true → bit (x v) ≡ 0) → ((v : ℕ) → a ≤ v → v < a + n → cand' v ≡ cand v) → Candidates cand' who f (2 * m) a n
next_none cand cand' who x g f m a n is here none kept =
    record {
      here = λ v l h.
          kept v l h ∙ here.here v l h ∙ same_bit (who v) (x v) (g v) m (λ e. none v l h (here.here v l h ∙ e)) ∙ ap (λ t. who v && eqb t (2 * m)) (sym (is v));
    }

-- before the first plane
and_true : (b : Bool) (x : ℕ) → x ≡ 0 → b ≡ (b && eqb x 0)
and_true true x e = sym (ap (λ t. eqb t 0) e)
and_true false x e = refl

pub first_candidates : (cand who : ℕ → Bool) (g : ℕ → ℕ) (a n : ℕ) → ((v : ℕ) → cand v ≡ who v) → ((v : ℕ) → g v ≡ 0) → Candidates cand who g 0 a n
first_candidates cand who g a n same none = record { here = λ v l h. same v ∙ and_true (who v) (g v) (none v) }

pub top_zero : (who : ℕ → Bool) (g : ℕ → ℕ) (a n : ℕ) → ((v : ℕ) → g v ≡ 0) → 0 ≡ top who g a n
top_zero who g a n none = omega (arith, top_most who g 0 a n (λ v _ _ _. omega (arith, none v)))

and_always : (c : Bool) → (c && true) ≡ c
and_always true = refl
and_always false = refl

-- a digit that says whether something is so
pub byte_bit : (b : Bool) → from_bool b ≡ bit b
byte_bit true = refl
byte_bit false = refl

-- and with one plane more
pub next_candidates : (found : Bool) (cand cand' who x : ℕ → Bool) (g f : ℕ → ℕ) (m a n d : ℕ) → m ≡ top who g a n → ((v : ℕ) → f v ≡ bit (x v) + 2 * g v) → Candidates cand who g m a n
    → found ≡ ltb 0 (masked_sum cand (λ v. bit (x v)) a n) → d ≡ bit found → ((v : ℕ) → a ≤ v → v < a + n → cand' v ≡ (cand v && (not found || x v)))
    → (2 * m + d ≡ top who f a n) × Candidates cand' who f (2 * m + d) a n
next_candidates true cand cand' who x g f m a n d most is here found digit kept =
    let some : 0 < masked_sum cand (λ v. bit (x v)) a n = grind (arith, nat_tests, sym found) in
    let next : Candidates cand' who f (2 * m + 1) a n = next_one cand cand' who x g f m a n is here kept in (
      omega (arith, digit, most, top_one cand who (λ v. bit (x v)) g f a n is (λ v. below_two (x v)) (subst (λ k. Candidates cand who g k a n) most here) some),
      subst (λ k. Candidates cand' who f (2 * m + k) a n) (sym digit) next,
    )
next_candidates false cand cand' who x g f m a n d most is here found digit kept =
    let none : masked_sum cand (λ v. bit (x v)) a n ≡ 0 = grind (arith, nat_tests, sym found) in
    let next : Candidates cand' who f (2 * m) a n =
    next_none cand cand' who x g f m a n is here (λ v l h e. none_of cand (λ u. bit (x u)) a n none v l h e) (λ v l h. kept v l h ∙ and_always (cand v)) in
    let twice : 2 * m ≡ 2 * m + d = omega (arith, digit) in (
      omega (arith, digit, most, top_none cand who (λ v. bit (x v)) g f a n is (λ v. below_two (x v)) (subst (λ k. Candidates cand who g k a n) most here) none),
      subst (λ k. Candidates cand' who f k a n) twice next,
    )
