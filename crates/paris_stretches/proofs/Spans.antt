-- What a function gives for some numbers that follow one another, as parts of a list.
use Rattle.std.proofs.Common.{◌≡◌, ℕ, zero, suc, ◌+◌, ◌-◌, ◌^◌, ◌<◌, ◌≤◌, List, [], ◌∷◌, ◌++◌, Bool, get_or, length, map, take, drop, min, arith, ◌∙◌, sym, ap, refl}
use Rattle.std.specs.List.{range_with_len, slice_range}
use Rattle.std.proofs.lemmas.List.{length-drop, length-take, length-take-le, get_or-take, get_or-drop}
use Rattle.std.proofs.lemmas.List.FromFn.{length-map-range_with_len, get_or-map-range_with_len}
use Rattle.std.proofs.lemmas.List.Elements.{All-drop, All-take}
use Rattle.paris_field.specs.Fields.{AllFit, FieldNumbers}
use Rattle.paris_field.specs.Numbers.{number_at, numbers, value_of_planes}
use Rattle.paris_field.proofs.Numbers.{same_lists}
use Rattle.paris_stretches.specs.Stretches.{bound, stretch}

-- one run after another
span_joined : (f : ℕ → ℕ) (a m k : ℕ) → map f (range_with_len a m) ++ map f (range_with_len (a + m) k) ≡ map f (range_with_len a (m + k))
span_joined f a zero k = ap (λ b. map f (range_with_len b k)) (let e : a + 0 ≡ a = omega arith in e) ∙ ap (λ t. map f (range_with_len a t)) (let e : k ≡ 0 + k = omega arith in e)
span_joined f a (suc m) k =
    ap (λ t. f a ∷ (map f (range_with_len (a + 1) m) ++ map f (range_with_len t k))) (let e : a + suc m ≡ a + 1 + m = omega arith in e)
    ∙ ap (λ t. f a ∷ t) (span_joined f (a + 1) m k)
    ∙ ap (λ t. map f (range_with_len a t)) (let e : suc (m + k) ≡ suc m + k = omega arith in e)

pub span_after : (f : ℕ → ℕ) (a m b k : ℕ) → a + m ≡ b → map f (range_with_len a m) ++ map f (range_with_len b k) ≡ map f (range_with_len a (m + k))
span_after f a m b k e = ap (λ t. map f (range_with_len a m) ++ map f (range_with_len t k)) (sym e) ∙ span_joined f a m k

-- a part of a list
pub part_is : (f : ℕ → ℕ) (xs : List ℕ) (from to a : ℕ) → from ≤ to → to ≤ length xs → ((i : ℕ) → from + i < to → get_or xs (from + i) 0 ≡ f (a + i)) → slice_range xs from to ≡ map f (range_with_len a (to - from))
part_is f xs from to a order room each =
    let n : ℕ = to - from in
    let long : length (take n (drop from xs)) ≡ n = length-take-le n (drop from xs) (omega (arith, length-drop from xs)) in
    same_lists 0 (slice_range xs from to) (map f (range_with_len a n)) (long ∙ sym (length-map-range_with_len f a n)) (λ i h.
    let small : i < n = omega (arith, h, long) in
    get_or-take n (drop from xs) i 0 small ∙ get_or-drop from xs i 0 ∙ each i (omega (arith, small)) ∙ sym (get_or-map-range_with_len f a n i (a + i) 0 small refl))

-- all numbers of a value
pub numbers_span : (n : ℕ) (ps : List (List Bool)) {f : FieldNumbers} → value_of_planes n ps ≡ f → map (number_at ps) (range_with_len 0 n) ≡ f.numbers
unfolding numbers
numbers_span n ps e = ap (λ (x : FieldNumbers). x.numbers) e

-- a stretch
pub stretch_is : (parts i start stop count : ℕ) (xs : List ℕ) → count ≡ length xs → start ≡ bound count parts i → stop ≡ bound count parts (i + 1) → slice_range xs start stop ≡ stretch parts xs i
stretch_is parts i start stop count xs all is_start is_stop =
    ap (λ s. slice_range xs s stop) (is_start ∙ ap (λ n. bound n parts i) all) ∙ ap (λ t. slice_range xs (bound (length xs) parts i) t) (is_stop ∙ ap (λ n. bound n parts (i + 1)) all)

pub length-part : (xs : List ℕ) (from to : ℕ) → length (slice_range xs from to) ≤ to - from
length-part xs from to = omega (arith, length-take (to - from) (drop from xs))

-- the numbers of a part fit as all do
pub part_fits : (width : ℕ) (xs : List ℕ) (from to : ℕ) → AllFit width xs → AllFit width (slice_range xs from to)
part_fits width xs from to fit =
    All-take (λ x. x < 2 ^ width) (to - from) (drop from xs) (All-drop (λ x. x < 2 ^ width) from xs fit)
