-- Loops over planes from the lowest bit up: what each step makes of what the loop has so far.
use Rattle.std.proofs.Common.{◌≡◌, ℕ, ◌+◌, ◌*◌, ◌^◌, ◌<◌, List, [], ◌∷◌, ◌++◌, Bool, false, ◌||◌, length, get_or, take, arith, ◌∙◌, sym, ap}
use Rattle.std.specs.Simd.Lanes.{zip2}
use Rattle.std.proofs.lemmas.Simd.{get_or-zip2}
use Rattle.paris_model.specs.Store.{bit}
use Rattle.paris_plane.specs.Bits.{differ, zip3, borrow_bit, sum_bit, carry_bit}
use Rattle.paris_field.specs.Numbers.{bit_in, number_at, plane_at, bits_everywhere}
use Rattle.paris_field.proofs.Numbers.{one_more, double, step_of_numbers, step_at}
use Rattle.paris_field.proofs.Places.{plane_is, get_or-bits_everywhere, get_triple, number_pushed}
use Rattle.paris_alu.proofs.Steps.{borrow_of_bits, opposite_of_bits}
use Rattle.paris_alu.proofs.Results.{low_lt}

-- a relation of the low k bits that one more bit of each carries on
pub chain_more : (g : Bool → Bool → Bool → Bool) (f f' : ℕ → ℕ → Bool) (n k : ℕ) (xs ys : List (List Bool)) (x y b b' : List Bool)
    → ((xn yn : ℕ) (c s t : Bool) → xn < 2 ^ k → yn < 2 ^ k → c ≡ f xn yn → g c s t ≡ f' (xn + 2 ^ k * bit s) (yn + 2 ^ k * bit t))
    → k < length xs → k < length ys → x ≡ plane_at xs k → y ≡ plane_at ys k
    → b ≡ bits_everywhere n (λ v. f (number_at (take k xs) v) (number_at (take k ys) v))
    → length b' ≡ n → ((v : ℕ) → v < n → get_or b' v false ≡ g (get_or b v false) (get_or x v false) (get_or y v false))
    → b' ≡ bits_everywhere n (λ v. f' (number_at (take (k + 1) xs) v) (number_at (take (k + 1) ys) v))
chain_more g f f' n k xs ys x y b b' step hx hy ex ey before long at =
    plane_is b' n (λ v. f' (number_at (take (k + 1) xs) v) (number_at (take (k + 1) ys) v)) long (λ v h.
    at v h
    ∙ step (number_at (take k xs) v) (number_at (take k ys) v) (get_or b v false) (get_or x v false) (get_or y v false) (low_lt xs k v (omega arith)) (low_lt ys k v (omega arith))
    (ap (λ l. get_or l v false) before ∙ get_or-bits_everywhere n (λ v. f (number_at (take k xs) v) (number_at (take k ys) v)) v h)
    ∙ sym (ap (λ z. f' z (number_at (take (k + 1) ys) v)) (one_more xs k v x hx ex) ∙ ap (f' (number_at (take k xs) v + 2 ^ k * bit_in x v)) (one_more ys k v y hy ey)))

-- one more bit of a sum
pub summed_more : (n k v : ℕ) (xs ys ps ps' : List (List Bool)) (x y s b b' c : List Bool)
    → k < length xs → k < length ys → x ≡ plane_at xs k → y ≡ plane_at ys k → length x ≡ n → length y ≡ n → length b ≡ n → length ps ≡ k
    → s ≡ zip3 sum_bit x y b → b' ≡ zip3 carry_bit x y b → ps' ≡ ps ++ s ∷ [] → v < n
    → number_at ps v + 2 ^ k * bit_in b v ≡ number_at (take k xs) v + number_at (take k ys) v + bit_in c v
    → number_at ps' v + 2 ^ (k + 1) * bit_in b' v ≡ number_at (take (k + 1) xs) v + number_at (take (k + 1) ys) v + bit_in c v
summed_more n k v xs ys ps ps' x y s b b' c hx hy ex ey nx ny nb count es eb ep h before =
    let bits : bit_in s v + 2 * bit_in b' v ≡ bit_in x v + bit_in y v + bit_in b v = step_at x y b s b' v es eb (nx ∙ sym ny) (nx ∙ sym nb) (omega arith) in
    let pushed : number_at ps' v ≡ number_at ps v + 2 ^ k * bit_in s v = ap (λ qs. number_at qs v) ep ∙ number_pushed ps s v ∙ ap (λ j. number_at ps v + 2 ^ j * bit_in s v) count in
    omega (
      arith,
      pushed,
      one_more xs k v x hx ex,
      one_more ys k v y hy ey,
      double k (bit_in b' v),
      step_of_numbers (2 ^ k) (number_at ps v) (number_at (take k xs) v) (number_at (take k ys) v) (bit_in c v) (bit_in s v) (bit_in x v) (bit_in y v) (bit_in b v) (bit_in b' v) bits before,
    )

-- one more bit of a difference
pub difference_more : (n k v : ℕ) (xs ys ps ps' : List (List Bool)) (x y s b b' c : List Bool)
    → k < length xs → k < length ys → x ≡ plane_at xs k → y ≡ plane_at ys k → length x ≡ n → length y ≡ n → length b ≡ n → length ps ≡ k
    → s ≡ zip3 sum_bit x y b → b' ≡ zip3 borrow_bit b x y → ps' ≡ ps ++ s ∷ [] → v < n
    → number_at (take k xs) v + 2 ^ k * bit_in b v ≡ number_at ps v + number_at (take k ys) v + bit_in c v
    → number_at (take (k + 1) xs) v + 2 ^ (k + 1) * bit_in b' v ≡ number_at ps' v + number_at (take (k + 1) ys) v + bit_in c v
difference_more n k v xs ys ps ps' x y s b b' c hx hy ex ey nx ny nb count es eb ep h before =
    let fs : bit_in s v ≡ bit (sum_bit (get_or x v false) (get_or y v false) (get_or b v false)) = ap (λ l. bit_in l v) es ∙ ap bit (get_triple {n = n} sum_bit x y b v nx ny nb h) in
    let fb : bit_in b' v ≡ bit (borrow_bit (get_or b v false) (get_or x v false) (get_or y v false)) = ap (λ l. bit_in l v) eb ∙ ap bit (get_triple {n = n} borrow_bit b x y v nb nx ny h) in
    let bits : bit_in x v + 2 * bit_in b' v ≡ bit_in s v + bit_in y v + bit_in b v =
    ap (λ z. bit_in x v + 2 * z) fb ∙ borrow_of_bits (get_or x v false) (get_or y v false) (get_or b v false) ∙ ap (λ z. z + bit_in y v + bit_in b v) (sym fs) in
    let pushed : number_at ps' v ≡ number_at ps v + 2 ^ k * bit_in s v = ap (λ qs. number_at qs v) ep ∙ number_pushed ps s v ∙ ap (λ j. number_at ps v + 2 ^ j * bit_in s v) count in
    omega (
      arith,
      pushed,
      one_more xs k v x hx ex,
      one_more ys k v y hy ey,
      double k (bit_in b' v),
      step_of_numbers (2 ^ k) (number_at (take k xs) v) (number_at ps v) (number_at (take k ys) v) (bit_in c v) (bit_in x v) (bit_in s v) (bit_in y v) (bit_in b v) (bit_in b' v) bits before,
    )

-- one more bit of an opposite
pub opposite_more : (n k v : ℕ) (xs ps ps' : List (List Bool)) (x s b b' c : List Bool)
    → k < length xs → x ≡ plane_at xs k → length x ≡ n → length b ≡ n → length ps ≡ k
    → s ≡ zip2 differ x b → b' ≡ zip2 (λ p q. p || q) b x → ps' ≡ ps ++ s ∷ [] → v < n
    → 2 ^ k * bit_in b v ≡ number_at ps v + number_at (take k xs) v + bit_in c v
    → 2 ^ (k + 1) * bit_in b' v ≡ number_at ps' v + number_at (take (k + 1) xs) v + bit_in c v
opposite_more n k v xs ps ps' x s b b' c hx ex nx nb count es eb ep h before =
    let fs : bit_in s v ≡ bit (differ (get_or x v false) (get_or b v false)) = ap (λ l. bit_in l v) es ∙ ap bit (get_or-zip2 differ x b v false false false (omega (arith, nx)) (omega (arith, nb))) in
    let fb : bit_in b' v ≡ bit (get_or b v false || get_or x v false) = ap (λ l. bit_in l v) eb ∙ ap bit (get_or-zip2 (λ p q. p || q) b x v false false false (omega (arith, nb)) (omega (arith, nx))) in
    let bits : 0 + 2 * bit_in b' v ≡ bit_in s v + bit_in x v + bit_in b v =
    ap (λ z. 0 + 2 * z) fb ∙ opposite_of_bits (get_or x v false) (get_or b v false) ∙ ap (λ z. z + bit_in x v + bit_in b v) (sym fs) in
    let pushed : number_at ps' v ≡ number_at ps v + 2 ^ k * bit_in s v = ap (λ qs. number_at qs v) ep ∙ number_pushed ps s v ∙ ap (λ j. number_at ps v + 2 ^ j * bit_in s v) count in
    omega (
      arith,
      pushed,
      one_more xs k v x hx ex,
      double k (bit_in b' v),
      step_of_numbers (2 ^ k) 0 (number_at ps v) (number_at (take k xs) v) (bit_in c v) 0 (bit_in s v) (bit_in x v) (bit_in b v) (bit_in b' v) bits (omega (arith, before)),
    )
