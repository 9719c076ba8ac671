-- Operations on each bit, in numbers.
use Rattle.std.proofs.Common.{◌≡◌, ℕ, zero, suc, ◌+◌, ◌-◌, ◌*◌, ◌%◌, ◌^◌, ◌<◌, List, [], ◌∷◌, Bool, true, false, not, ◌&&◌, ◌||◌, bit_and, length, get_or, map, min, max, refl, arith, ◌∙◌, sym, ap}
use Rattle.std.specs.Int.{bit_at}
use Rattle.std.specs.Int.Bits.{bit_or, bit_xor}
use Rattle.std.specs.Simd.Lanes.{zip2}
use Rattle.std.proofs.Math.Nat.{pow-succ'}
use Rattle.std.proofs.lemmas.Nat.Bits.{bit_at_lowest, bit_at-suc, bit_at_and, bit_at_or, bit_at_xor, same_from_bits}
use Rattle.std.proofs.lemmas.Simd.{get_or-zip2, length-zip2}
use Rattle.std.proofs.lemmas.List.{get_or-map, length-map}
use Rattle.paris_model.specs.Store.{bit, low, everywhere}
use Rattle.paris_plane.specs.Bits.{differ}
use Rattle.paris_field.specs.Numbers.{AllOf, value_of_planes, number_at}
use Rattle.paris_field.proofs.Numbers.{below_two}
use Rattle.paris_field.proofs.Lists.{below_of}
use Rattle.paris_field.proofs.Places.{Holds, field_is}
use Rattle.paris_alu.proofs.Results.{mod_small}

-- the lowest bit of a number, and those above it
low_bit : (s a : ℕ) → s < 2 → bit_at (s + 2 * a) 0 ≡ s
low_bit s a h = bit_at_lowest (s + 2 * a) ∙ omega arith

high_bit : (s a i : ℕ) → s < 2 → bit_at (s + 2 * a) (suc i) ≡ bit_at a i
high_bit s a i h = bit_at-suc (s + 2 * a) i ∙ ap (λ x. bit_at x i) (omega arith)

-- an operation that is f on each two bits
doubled_at : (op f : ℕ → ℕ → ℕ) → ((a b i : ℕ) → bit_at (op a b) i ≡ f (bit_at a i) (bit_at b i)) → (s t d a b i : ℕ) → s < 2 → t < 2 → d < 2 → d ≡ f s t → bit_at (op (s + 2 * a) (t + 2 * b)) i ≡ bit_at (d + 2 * op a b) i
doubled_at op f law s t d a b zero hs ht hd e =
    law (s + 2 * a) (t + 2 * b) 0 ∙ ap (λ x. f x (bit_at (t + 2 * b) 0)) (low_bit s a hs) ∙ ap (f s) (low_bit t b ht)
    ∙ sym (low_bit d (op a b) hd ∙ e)
doubled_at op f law s t d a b (suc i) hs ht hd e =
    law (s + 2 * a) (t + 2 * b) (suc i) ∙ ap (λ x. f x (bit_at (t + 2 * b) (suc i))) (high_bit s a i hs) ∙ ap (f (bit_at a i)) (high_bit t b i ht)
    ∙ sym (high_bit d (op a b) i hd ∙ law a b i)

combined_number : (op f : ℕ → ℕ → ℕ) (g : Bool → Bool → Bool) → ((a b i : ℕ) → bit_at (op a b) i ≡ f (bit_at a i) (bit_at b i)) → ((x y : Bool) → bit (g x y) ≡ f (bit x) (bit y)) → op 0 0 ≡ 0 → (n : ℕ) (xs ys : List (List Bool)) (v : ℕ) → length xs ≡ length ys → AllOf n xs → AllOf n ys → v < n → number_at (zip2 (zip2 g) xs ys) v ≡ op (number_at xs v) (number_at ys v)
unfolding number_at
combined_number op f g law tie none n [] [] v same ax ay h = sym none
combined_number op f g law tie none n [] (y ∷ ys) v same ax ay h = absurd (omega (arith, same))
combined_number op f g law tie none n (x ∷ xs) [] v same ax ay h = absurd (omega (arith, same))
combined_number op f g law tie none n (x ∷ xs) (y ∷ ys) v same ax ay h =
    let nx : length x ≡ n = ax 0 (omega arith) in
    let ny : length y ≡ n = ay 0 (omega arith) in
    let s : Bool = get_or x v false in
    let t : Bool = get_or y v false in
    ap (λ b. bit b + 2 * number_at (zip2 (zip2 g) xs ys) v) (get_or-zip2 g x y v false false false (omega (arith, nx)) (omega (arith, ny)))
    ∙ ap (λ r. bit (g s t) + 2 * r) (combined_number op f g law tie none n xs ys v (omega (arith, same)) (λ k b. ax (suc k) (omega (arith, b))) (λ k b. ay (suc k) (omega (arith, b))) h)
    ∙ sym (same_from_bits (op (bit s + 2 * number_at xs v) (bit t + 2 * number_at ys v)) (bit (g s t) + 2 * op (number_at xs v) (number_at ys v))
    (λ i. doubled_at op f law (bit s) (bit t) (bit (g s t)) (number_at xs v) (number_at ys v) i (below_two s) (below_two t) (below_two (g s t)) (tie s t)))

and_tie : (x y : Bool) → bit (x && y) ≡ min (bit x) (bit y)
and_tie true true = refl
and_tie true false = refl
and_tie false true = refl
and_tie false false = refl

or_tie : (x y : Bool) → bit (x || y) ≡ max (bit x) (bit y)
or_tie true true = refl
or_tie true false = refl
or_tie false true = refl
or_tie false false = refl

xor_tie : (x y : Bool) → bit (differ x y) ≡ (bit x + bit y) % 2
xor_tie true true = refl
xor_tie true false = refl
xor_tie false true = refl
xor_tie false false = refl

pub and_number : (n : ℕ) (xs ys : List (List Bool)) (v : ℕ) → length xs ≡ length ys → AllOf n xs → AllOf n ys → v < n → number_at (zip2 (zip2 (λ a b. a && b)) xs ys) v ≡ bit_and (number_at xs v) (number_at ys v)
and_number = combined_number bit_and min (λ a b. a && b) bit_at_and and_tie refl

pub or_number : (n : ℕ) (xs ys : List (List Bool)) (v : ℕ) → length xs ≡ length ys → AllOf n xs → AllOf n ys → v < n → number_at (zip2 (zip2 (λ a b. a || b)) xs ys) v ≡ bit_or (number_at xs v) (number_at ys v)
or_number = combined_number bit_or max (λ a b. a || b) bit_at_or or_tie refl

pub xor_number : (n : ℕ) (xs ys : List (List Bool)) (v : ℕ) → length xs ≡ length ys → AllOf n xs → AllOf n ys → v < n → number_at (zip2 (zip2 differ) xs ys) v ≡ bit_xor (number_at xs v) (number_at ys v)
xor_number = combined_number bit_xor (λ a b. (a + b) % 2) differ bit_at_xor xor_tie refl

pub all_combined : (g : Bool → Bool → Bool) (n : ℕ) (xs ys : List (List Bool)) → length xs ≡ length ys → AllOf n xs → AllOf n ys → AllOf n (zip2 (zip2 g) xs ys)
all_combined g n xs ys same ax ay k below =
    let long : length (zip2 (zip2 g) xs ys) ≡ length xs = length-zip2 (zip2 g) xs ys same in
    ap length (get_or-zip2 (zip2 g) xs ys k [] [] [] (omega (arith, below, long)) (omega (arith, below, long, same)))
    ∙ length-zip2 g (get_or xs k []) (get_or ys k []) (ax k (omega (arith, below, long)) ∙ sym (ay k (omega (arith, below, long, same))))
    ∙ ax k (omega (arith, below, long))

-- every bit turned
bit_not : (b : Bool) → bit (not b) + bit b ≡ 1
bit_not true = refl
bit_not false = refl

pub inverted_number : (n : ℕ) (xs : List (List Bool)) (v : ℕ) → AllOf n xs → v < n → number_at (map (map not) xs) v + number_at xs v + 1 ≡ 2 ^ length xs
unfolding number_at
inverted_number n [] v all h = omega arith
inverted_number n (x ∷ xs) v all h =
    let nx : length x ≡ n = all 0 (omega arith) in
    omega (
      arith,
      ap bit (get_or-map not x v false false (omega (arith, nx))),
      bit_not (get_or x v false),
      inverted_number n xs v (λ k b. all (suc k) (omega (arith, b))) h,
      pow-succ' 2 (length xs),
    )

pub all_inverted : (n : ℕ) (xs : List (List Bool)) → AllOf n xs → AllOf n (map (map not) xs)
all_inverted n xs all k below =
    let h : k < length xs = omega (arith, below, length-map xs (map not)) in
    ap length (get_or-map (map not) xs k [] [] h) ∙ length-map (get_or xs k []) not ∙ all k h

-- the fields
pub bitwise_field : (op : ℕ → ℕ → ℕ) (n L : ℕ) (f g : ℕ → ℕ) (xs ys zs : List (List Bool)) → Holds n L f xs → Holds n L g ys → length zs ≡ length xs → ((v : ℕ) → v < n → number_at zs v ≡ op (number_at xs v) (number_at ys v)) → value_of_planes n zs ≡ record { width = L; numbers = everywhere n (λ v. low L (op (f v) (g v))) }
bitwise_field op n L f g xs ys zs x y long at =
    field_is n L zs (λ v. low L (op (f v) (g v))) (long ∙ x.count) (λ v h.
    sym (mod_small (2 ^ L) (number_at zs v) (below_of zs v L (long ∙ x.count)))
    ∙ ap (low L) (at v h ∙ ap (λ z. op z (number_at ys v)) (x.at v h) ∙ ap (op (f v)) (y.at v h)))

pub inverted_field : (n L : ℕ) (f : ℕ → ℕ) (xs : List (List Bool)) → Holds n L f xs → value_of_planes n (map (map not) xs) ≡ record { width = L; numbers = everywhere n (λ v. low L (2 ^ L - 1 - f v)) }
inverted_field n L f xs x =
    let long : length (map (map not) xs) ≡ L = length-map xs (map not) ∙ x.count in
    field_is n L (map (map not) xs) (λ v. low L (2 ^ L - 1 - f v)) long (λ v h.
    sym (mod_small (2 ^ L) (number_at (map (map not) xs) v) (below_of (map (map not) xs) v L long))
    ∙ ap (low L) (omega (arith, inverted_number n xs v x.long h, x.at v h, ap (λ k. 2 ^ k) x.count)))

pub copied_field : (n L : ℕ) (f : ℕ → ℕ) (xs : List (List Bool)) → Holds n L f xs → value_of_planes n xs ≡ record { width = L; numbers = everywhere n (λ v. low L (f v)) }
copied_field n L f xs x =
    field_is n L xs (λ v. low L (f v)) x.count (λ v h. sym (mod_small (2 ^ L) (number_at xs v) (below_of xs v L x.count)) ∙ ap (low L) (x.at v h))
