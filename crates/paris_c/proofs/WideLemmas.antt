-- Numbers that are put in two words each are there again.
use Rattle.std.proofs.Common.{◌≡◌, ℕ, ◌+◌, ◌*◌, ◌/◌, ◌%◌, ◌^◌, ◌<◌, ◌≤◌, List, [], ◌∷◌, ◌++◌, length, map, take, get_or, slice_set, refl, sym, ap, ◌∙◌, arith, add-one}
use Rattle.std.proofs.lemmas.List.{take_more_set, take_all}
use Rattle.std.proofs.Math.Seq.{take-suc}
use Rattle.std.proofs.Math.ListN.{get_or-map, length-map}
use Rattle.paris_c.specs.declared.wide.Wide.{Wide}
use Rattle.paris_c.specs.Calls.{wide_of, wide_numbers}

-- one number more is put behind those that are there
pub one_more : (numbers : List ℕ) (room : List Wide) (i : ℕ) → i < length numbers → length room ≡ length numbers
    → take i room ≡ take i (map wide_of numbers) → take (i + 1) (slice_set room i (wide_of (get_or numbers i 0))) ≡ take (i + 1) (map wide_of numbers)
one_more numbers room i within same done =
    let y : Wide = wide_of (get_or numbers i 0) in
    let wide : List Wide = map wide_of numbers in
    let inside : i < length room = omega (arith, same) in
    let below : i < length wide = rw length-map within in
    let more : take (i + 1) wide ≡ take i wide ++ get_or wide i (wide_of 0) ∷ [] = rw add-one (take-suc wide i (wide_of 0) below) in
    take_more_set room i y inside
    ∙ ap (λ (l : List Wide). l ++ y ∷ []) done
    ∙ ap (λ (w : Wide). take i wide ++ w ∷ []) (sym (get_or-map wide_of numbers i 0))
    ∙ sym more

numbers_back : (numbers : List ℕ) → wide_numbers (map wide_of numbers) ≡ numbers
numbers_back [] = refl
numbers_back (n ∷ ns) =
    let back : n / 2 ^ 64 * 2 ^ 64 + n % 2 ^ 64 ≡ n = omega arith in
    ap (λ (m : ℕ). m ∷ wide_numbers (map wide_of ns)) back ∙ ap (λ (l : List ℕ). n ∷ l) (numbers_back ns)

-- where all are put, the room has the numbers
pub all_put : (numbers : List ℕ) (room : List Wide) (i : ℕ) → length numbers ≤ i → length room ≡ length numbers
    → take i room ≡ take i (map wide_of numbers) → wide_numbers room ≡ numbers
all_put numbers room i over same done =
    let whole : take i room ≡ room = take_all i room (omega (arith, same)) in
    let wide : take i (map wide_of numbers) ≡ map wide_of numbers = take_all i (map wide_of numbers) (rw length-map over) in
    ap wide_numbers (sym whole ∙ done ∙ wide) ∙ numbers_back numbers
