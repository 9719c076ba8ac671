-- Planes under a mask, and planes with every bit turned.
use Rattle.std.proofs.Common.{◌≡◌, ℕ, suc, ◌+◌, ◌^◌, ◌<◌, Bool, true, false, ◌&&◌, not, cond, List, [], ◌∷◌, length, get_or, map, arith, ap, ◌∙◌, sym, refl}
use Rattle.std.specs.Simd.Lanes.{zip2}
use Rattle.std.proofs.Math.Nat.{pow-succ'}
use Rattle.std.proofs.lemmas.List.{get_or-map, length-map}
use Rattle.std.proofs.lemmas.Simd.{get_or-zip2, length-zip2}
use Rattle.paris_model.specs.Store.{bit}
use Rattle.paris_field.specs.Numbers.{AllOf, bit_in, number_at, plane_at}
use Rattle.paris_scan.specs.Shown.{complement}
use Rattle.paris_scan.proofs.Carried.{none_number, same_number, without}

-- bit j of planes that are masked
masked_at : (g : Bool → Bool → Bool) (n v j : ℕ) (m x p : List Bool) → length m ≡ n → length x ≡ n → p ≡ zip2 g m x → v < n → get_or p v false ≡ g (get_or m v false) (get_or x v false)
masked_at g n v j m x p nm nx e h = ap (λ l. get_or l v false) e ∙ get_or-zip2 g m x v false false false (omega (arith, nm)) (omega (arith, nx))

-- planes whose bits are those of others where the mask is 1
pub masked_number : (n v : ℕ) (b : Bool) (m : List Bool) (xs ps : List (List Bool)) → get_or m v false ≡ b → length m ≡ n → AllOf n xs → length ps ≡ length xs → ((k : ℕ) → k < length xs → plane_at ps k ≡ zip2 (λ s x. s && x) m (plane_at xs k)) → v < n → number_at ps v ≡ cond b (number_at xs v) 0
masked_number n v true m xs ps eb nm all count each h =
    same_number ps xs v v count (λ j below.
    let inx : j < length xs = omega (arith, below, count) in
    masked_at (λ s x. s && x) n v j m (plane_at xs j) (plane_at ps j) nm (all j inx) (each j inx) h ∙ ap (λ s. s && get_or (plane_at xs j) v false) eb)
masked_number n v false m xs ps eb nm all count each h =
    none_number ps v (λ j below.
    let inx : j < length xs = omega (arith, below, count) in
    masked_at (λ s x. s && x) n v j m (plane_at xs j) (plane_at ps j) nm (all j inx) (each j inx) h ∙ ap (λ s. s && get_or (plane_at xs j) v false) eb)

-- planes with every bit turned
turned_bit : (b : Bool) → bit (not b) + bit b ≡ 1
turned_bit true = refl
turned_bit false = refl

turned_sum : (ps xs : List (List Bool)) (v : ℕ) → length ps ≡ length xs → ((j : ℕ) → j < length xs → get_or (plane_at ps j) v false ≡ not (get_or (plane_at xs j) v false)) → number_at ps v + number_at xs v + 1 ≡ 2 ^ length xs
unfolding number_at
turned_sum [] [] v e each = omega arith
turned_sum [] (x ∷ xs) v e each = absurd (omega (arith, e))
turned_sum (p ∷ ps) [] v e each = absurd (omega (arith, e))
turned_sum (p ∷ ps) (x ∷ xs) v e each =
    let first : bit_in p v ≡ bit (not (get_or x v false)) = ap bit (each 0 (omega arith)) in
    let rest : number_at ps v + number_at xs v + 1 ≡ 2 ^ length xs = turned_sum ps xs v (omega (arith, e)) (λ j h. each (suc j) (omega (arith, h))) in
    omega (arith, first, rest, turned_bit (get_or x v false), pow-succ' 2 (length xs))

pub turned_number : (ps xs : List (List Bool)) (v : ℕ) → length ps ≡ length xs → ((j : ℕ) → j < length xs → get_or (plane_at ps j) v false ≡ not (get_or (plane_at xs j) v false)) → number_at ps v ≡ complement (length xs) (number_at xs v)
turned_number ps xs v e each = (let t : number_at ps v + number_at xs v + 1 ≡ 2 ^ length xs = turned_sum ps xs v e each in omega (arith, t))

turned_in : (b : Bool) → without true b ≡ not b
turned_in true = refl
turned_in false = refl

none_in : (b : Bool) → without false b ≡ false
none_in true = refl
none_in false = refl

-- and so where the mask is 1
pub complement_number : (n v : ℕ) (b : Bool) (m : List Bool) (xs ps : List (List Bool)) → get_or m v false ≡ b → length m ≡ n → AllOf n xs → length ps ≡ length xs → ((k : ℕ) → k < length xs → plane_at ps k ≡ zip2 without m (plane_at xs k)) → v < n → number_at ps v ≡ cond b (complement (length xs) (number_at xs v)) 0
complement_number n v true m xs ps eb nm all count each h =
    turned_number ps xs v count (λ j inx.
    masked_at without n v j m (plane_at xs j) (plane_at ps j) nm (all j inx) (each j inx) h ∙ ap (λ s. without s (get_or (plane_at xs j) v false)) eb
    ∙ turned_in (get_or (plane_at xs j) v false))
complement_number n v false m xs ps eb nm all count each h =
    none_number ps v (λ j below.
    let inx : j < length xs = omega (arith, below, count) in
    masked_at without n v j m (plane_at xs j) (plane_at ps j) nm (all j inx) (each j inx) h ∙ ap (λ s. without s (get_or (plane_at xs j) v false)) eb
    ∙ none_in (get_or (plane_at xs j) v false))

-- planes that were turned in place
pub inverted_number : (n v : ℕ) (xs ps : List (List Bool)) → AllOf n xs → length ps ≡ length xs → ((k : ℕ) → k < length xs → plane_at ps k ≡ map not (plane_at xs k)) → v < n → number_at ps v ≡ complement (length xs) (number_at xs v)
inverted_number n v xs ps all count each h =
    turned_number ps xs v count (λ j inx.
    ap (λ l. get_or l v false) (each j inx) ∙ get_or-map not (plane_at xs j) v false false (omega (arith, all j inx)))

pub all_made : (g : Bool → Bool → Bool) (n : ℕ) (m : List Bool) (xs ps : List (List Bool)) → length m ≡ n → AllOf n xs → length ps ≡ length xs → ((k : ℕ) → k < length xs → plane_at ps k ≡ zip2 g m (plane_at xs k)) → AllOf n ps
all_made g n m xs ps nm all count each k h =
    let inx : k < length xs = omega (arith, h, count) in
    ap length (each k inx) ∙ length-zip2 g m (plane_at xs k) (nm ∙ sym (all k inx)) ∙ nm

pub all_inverted : (n : ℕ) (xs ps : List (List Bool)) → AllOf n xs → length ps ≡ length xs → ((k : ℕ) → k < length xs → plane_at ps k ≡ map not (plane_at xs k)) → AllOf n ps
all_inverted n xs ps all count each k h =
    let inx : k < length xs = omega (arith, h, count) in
    ap length (each k inx) ∙ length-map (plane_at xs k) not ∙ all k inx
