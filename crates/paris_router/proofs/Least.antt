-- The least number that passes a test, looked for by rising number.
use Rattle.std.proofs.Common.{◌≡◌, ℕ, zero, suc, ◌+◌, ◌-◌, ◌*◌, ◌<◌, ◌≤◌, Bool, true, false, List, [], ◌∷◌, Option, Some, None, cond, length, get_or, min, arith, refl, sym, ap, ◌∙◌, inl, inr}
use Rattle.std.specs.Prelude.{◌&&◌, nat_le}
use Rattle.std.proofs.lemmas.Bool.{cases_lt}
use Rattle.std.proofs.lemmas.Bool.Decides.{nat_tests}
use Rattle.std.specs.List.{find, range_with_len}
use Rattle.std.proofs.lemmas.List.FromFn.{get_or-range_with_len, length-range_with_len}
use Rattle.paris_geometry.specs.Geometry.{numbers_below}
use Rattle.paris_model.specs.Mail.{bad_sender, first_cause}
use Rattle.paris_field.specs.Numbers.{bits_everywhere}
use Rattle.paris_field.proofs.Places.{get_or-bits_everywhere, length-bits_everywhere}

-- where v is next to be looked at
one_less : (test : ℕ → Bool) (v n : ℕ) → v < n → find test (range_with_len v (n - v)) ≡ cond (test v) (Some v) (find test (range_with_len (v + 1) (n - (v + 1))))
one_less test v n h =
    let e : n - v ≡ suc (n - (v + 1)) = omega arith in
    ap (λ k. find test (range_with_len v k)) e

pub least_here : (test : ℕ → Bool) (v n : ℕ) → v < n → test v ≡ true → find test (range_with_len v (n - v)) ≡ Some v
least_here test v n h passed = one_less test v n h ∙ ap (λ b. cond b (Some v) (find test (range_with_len (v + 1) (n - (v + 1))))) passed

pub least_above : (test : ℕ → Bool) (v n : ℕ) → v < n → test v ≡ false → find test (range_with_len v (n - v)) ≡ find test (range_with_len (v + 1) (n - (v + 1)))
least_above test v n h failed = one_less test v n h ∙ ap (λ b. cond b (Some v) (find test (range_with_len (v + 1) (n - (v + 1))))) failed

pub least_none : (test : ℕ → Bool) (v n : ℕ) → v ≡ n → find test (range_with_len v (n - v)) ≡ None
least_none test v n h =
    let e : n - v ≡ 0 = omega arith in
    ap (λ k. find test (range_with_len v k)) e

-- whether a processor is a bad sender, by its address that is cut at a greatest number
pub is_bad : (b : Bool) (x n most number : ℕ) → number ≡ cond b (min x most) 0 → n ≤ number → 0 < n → (b && nat_le n x) ≡ true
is_bad true x n most number is above some = grind (arith, nat_tests)
is_bad false x n most number is above some = absurd (omega arith)

pub is_good : (b : Bool) (x n most number : ℕ) → number ≡ cond b (min x most) 0 → number < n → n ≤ most → (b && nat_le n x) ≡ false
is_good true x n most number is below room = grind (arith, nat_tests)
is_good false x n most number is below room = refl

pub is_whole : (b : Bool) (x n most number : ℕ) → number ≡ cond b (min x most) 0 → number < n → n ≤ most → number ≡ cond b x 0
is_whole true x n most number is below room = omega arith
is_whole false x n most number is below room = is

-- the same of an address that isn't cut
pub chosen_bad : (b : Bool) (x n number : ℕ) → number ≡ cond b x 0 → n ≤ number → 0 < n → (b && nat_le n x) ≡ true
chosen_bad true x n number is above some = grind (arith, nat_tests)
chosen_bad false x n number is above some = absurd (omega arith)

pub chosen_good : (b : Bool) (x n number : ℕ) → number ≡ cond b x 0 → number < n → (b && nat_le n x) ≡ false
chosen_good true x n number is below = grind (arith, nat_tests)
chosen_good false x n number is below = refl

pub is_outside : (b : Bool) (x n : ℕ) → b ≡ true → n ≤ x → (b && nat_le n x) ≡ true
is_outside true x n does above = grind (arith, nat_tests)
is_outside false x n does above = cc

pub is_inside : (b : Bool) (x n : ℕ) → x < n → (b && nat_le n x) ≡ false
is_inside true x n below = grind (arith, nat_tests)
is_inside false x n below = refl

-- tests that agree on each number of a list
find_agree : (f g : ℕ → Bool) (xs : List ℕ) → ((i : ℕ) → i < length xs → f (get_or xs i 0) ≡ g (get_or xs i 0)) → find f xs ≡ find g xs
find_agree f g [] same = refl
find_agree f g (x ∷ xs) same = ap (λ b. cond b (Some x) (find f xs)) (same 0 (omega arith)) ∙ ap (λ r. cond (g x) (Some x) r) (find_agree f g xs (λ i h. same (suc i) (omega (arith, h))))

pub find_same : (f g : ℕ → Bool) (xs : List ℕ) → ((x : ℕ) → f x ≡ g x) → find f xs ≡ find g xs
find_same f g xs same = find_agree f g xs (λ i h. same (get_or xs i 0))

pub find_below : (f g : ℕ → Bool) (n : ℕ) → ((i : ℕ) → i < n → f i ≡ g i) → find f (numbers_below n) ≡ find g (numbers_below n)
find_below f g n same =
    find_agree f g (numbers_below n) (λ i h.
    let long = length-range_with_len 0 n in
    let inside : i < n = omega arith in
    let place = get_or-range_with_len 0 n i 0 inside in
    same (get_or (numbers_below n) i 0) (omega arith))

-- the first of two, of which the first counts from a on
abbrev first_of : ℕ → Option ℕ → Option ℕ → Option ℕ
first_of a (Some i) rest = Some (a + i)
first_of a None rest = rest

find_step : (test : ℕ → Bool) (a b k m : ℕ) (t : Bool) → test (a + b) ≡ t → find test (range_with_len (a + (b + 1)) m) ≡ first_of a (find (λ i. test (a + i)) (range_with_len (b + 1) k)) (find test (range_with_len (a + (b + 1) + k) (m - k)))
    → find test (range_with_len (a + b) (suc m)) ≡ first_of a (find (λ i. test (a + i)) (range_with_len b (suc k))) (find test (range_with_len (a + b + suc k) (suc m - suc k)))
find_step test a b k m true e again =
    ap (λ t. cond t (Some (a + b)) (find test (range_with_len (a + b + 1) m))) e
    ∙ sym (ap (λ t. first_of a (cond t (Some b) (find (λ i. test (a + i)) (range_with_len (b + 1) k))) (find test (range_with_len (a + b + suc k) (suc m - suc k)))) e)
find_step test a b k m false e again =
    let from : a + b + 1 ≡ a + (b + 1) = omega arith in
    let on : a + (b + 1) + k ≡ a + b + suc k = omega arith in
    let left : m - k ≡ suc m - suc k = omega arith in
    let rest : Option ℕ = find test (range_with_len (a + b + suc k) (suc m - suc k)) in
    ap (λ t. cond t (Some (a + b)) (find test (range_with_len (a + b + 1) m))) e
    ∙ ap (λ s. find test (range_with_len s m)) from
    ∙ again
    ∙ ap (λ s. first_of a (find (λ i. test (a + i)) (range_with_len (b + 1) k)) (find test (range_with_len s (m - k)))) on
    ∙ ap (λ n. first_of a (find (λ i. test (a + i)) (range_with_len (b + 1) k)) (find test (range_with_len (a + b + suc k) n))) left
    ∙ sym (ap (λ t. first_of a (cond t (Some b) (find (λ i. test (a + i)) (range_with_len (b + 1) k))) rest) e)

-- the least of m numbers from a + b on, looked for among the first k of them, by their places from a on
find_part : (test : ℕ → Bool) (a b k m : ℕ) → k ≤ m → find test (range_with_len (a + b) m) ≡ first_of a (find (λ i. test (a + i)) (range_with_len b k)) (find test (range_with_len (a + b + k) (m - k)))
find_part test a b zero m h =
    let from : a + b ≡ a + b + 0 = omega arith in
    let all : m ≡ m - 0 = omega arith in
    ap (λ s. find test (range_with_len s m)) from ∙ ap (λ n. find test (range_with_len (a + b + 0) n)) all
find_part test a b (suc k) zero h = absurd (omega (arith, h))
find_part test a b (suc k) (suc m) h = find_step test a b k m (test (a + b)) refl (find_part test a (b + 1) k m (omega (arith, h)))

-- the least of the numbers from a quad of 256 on, by what the quad has
pub quad_least : (test : ℕ → Bool) (b n i : ℕ) → find (λ j. test (256 * b + j)) (numbers_below (min (n - 256 * b) 256)) ≡ Some i → find test (range_with_len (256 * b) (n - 256 * b)) ≡ Some (256 * b + i)
quad_least test b n i found =
    let k : ℕ = min (n - 256 * b) 256 in
    ap (λ s. find test (range_with_len s (n - 256 * b))) (omega arith)
    ∙ find_part test (256 * b) 0 k (n - 256 * b) (omega arith)
    ∙ ap (λ o. first_of (256 * b) o (find test (range_with_len (256 * b + 0 + k) (n - 256 * b - k)))) found

pub quad_passed : (test : ℕ → Bool) (b n : ℕ) → find (λ j. test (256 * b + j)) (numbers_below (min (n - 256 * b) 256)) ≡ None → find test (range_with_len (256 * b) (n - 256 * b)) ≡ find test (range_with_len (256 * (b + 1)) (n - 256 * (b + 1)))
quad_passed test b n passed =
    let k : ℕ = min (n - 256 * b) 256 in
    ap (λ s. find test (range_with_len s (n - 256 * b))) (omega arith)
    ∙ find_part test (256 * b) 0 k (n - 256 * b) (omega arith)
    ∙ ap (λ o. first_of (256 * b) o (find test (range_with_len (256 * b + 0 + k) (n - 256 * b - k)))) passed
    ∙ elim (cases_lt (n - 256 * b) 256) [
      | inl last ↦
          let left : n - 256 * b - k ≡ 0 = omega arith in
          let none : n - 256 * (b + 1) ≡ 0 = omega arith in
          ap (λ m. find test (range_with_len (256 * b + 0 + k) m)) left ∙ sym (ap (λ m. find test (range_with_len (256 * (b + 1)) m)) none)
      | inr more ↦
          let from : 256 * b + 0 + k ≡ 256 * (b + 1) = omega arith in
          let left : n - 256 * b - k ≡ n - 256 * (b + 1) = omega arith in
          ap (λ s. find test (range_with_len s (n - 256 * b - k))) from ∙ ap (λ m. find test (range_with_len (256 * (b + 1)) m)) left
    ]

-- the least place of a plane whose bit is 1
pub least_one : (n : ℕ) (f : ℕ → Bool) (plane : List Bool) → plane ≡ bits_everywhere n f → find (λ v. get_or plane v false) (numbers_below (length plane)) ≡ find f (numbers_below n)
least_one n f plane is =
    ap (λ p. find (λ v. get_or p v false) (numbers_below (length p))) is
    ∙ ap (λ k. find (λ v. get_or (bits_everywhere n f) v false) (numbers_below k)) (length-bits_everywhere n f)
    ∙ find_below (λ v. get_or (bits_everywhere n f) v false) f n (get_or-bits_everywhere n f)

-- the same senders by other numbers that agree
pub same_bad_sender : (n m : ℕ) (selected : ℕ → Bool) (f g : ℕ → ℕ) → n ≡ m → ((v : ℕ) → v < m → f v ≡ g v) → bad_sender n selected f ≡ bad_sender m selected g
same_bad_sender n m selected f g count same =
    ap (λ k. bad_sender k selected f) count
    ∙ find_below (λ v. selected v && nat_le m (f v)) (λ v. selected v && nat_le m (g v)) m (λ v h. ap (λ x. selected v && nat_le m x) (same v h))

-- where nothing is refused for its addresses
pub none_bad : (bad : Option ℕ) → None ≡ first_cause bad None → bad ≡ None
none_bad None e = refl
none_bad (Some v) e = cc
