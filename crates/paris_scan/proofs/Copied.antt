-- Planes that show the first of values.
use Rattle.std.proofs.Common.{◌≡◌, ℕ, ◌+◌, ◌*◌, ◌^◌, ◌<◌, Bool, true, false, cond, List, [], ◌∷◌, ◌++◌, length, get_or, take, arith, ap, ◌∙◌, sym}
use Rattle.std.specs.Prelude.{All, slice_index}
use Rattle.std.proofs.lemmas.List.{length-take-le}
use Rattle.std.proofs.lemmas.List.Elements.{All-head}
use lib.Pow.{pow_pos}
use Rattle.paris_model.specs.Lines.{values_where}
use Rattle.paris_model.specs.Store.{bit}
use Rattle.paris_field.specs.Numbers.{bit_in, has, number_at, plane_at, value_of_planes}
use Rattle.paris_field.proofs.Places.{field_is, number_pushed}
use Rattle.paris_scan.specs.Firsts.{first_shown}
use Rattle.paris_scan.specs.Lines.{first_field}
use Rattle.paris_scan.proofs.Added.{map_cond, parts}
use Rattle.paris_scan.proofs.Tops.{low_lt, split_at}

crowned : (L : ℕ) (b : Bool) (x : ℕ) → cond b x 0 + 2 ^ L * bit b ≡ first_shown L (cond b (x ∷ []) [])
crowned L true x = omega arith
crowned L false x = omega arith

-- the numbers of selected processors with their mask on top
pub first_brought : (L v : ℕ) (selected mask : List Bool) (value : ℕ → ℕ) (ps qs : List (List Bool)) → length ps ≡ L → mask ≡ selected → qs ≡ ps ++ mask ∷ [] → number_at ps v ≡ cond (has selected v) (value v) 0
    → number_at qs v ≡ first_shown L (values_where (has selected) value (v ∷ []))
first_brought L v selected mask value ps qs long same pushed before =
    ap (λ l. number_at l v) pushed ∙ number_pushed ps mask v
    ∙ ap (λ k. number_at ps v + 2 ^ k * bit_in mask v) long
    ∙ ap (λ (m : List Bool). number_at ps v + 2 ^ L * bit_in m v) same
    ∙ ap (λ t. t + 2 ^ L * bit_in selected v) before
    ∙ crowned L (has selected v) (value v)
    ∙ ap (first_shown L) (sym (map_cond (has selected v) value v))

-- the planes below the top one hold the first value, or 0
first_low : (L v : ℕ) (ps : List (List Bool)) (xs : List ℕ) → length ps ≡ L + 1 → All (λ x. x < 2 ^ L) xs → number_at ps v ≡ first_shown L xs → number_at (take L ps) v ≡ slice_index xs 0
first_low L v ps [] long fits e =
    let none : first_shown L [] ≡ 0 + 2 ^ L * bit false = omega arith in
    (parts (2 ^ L) (number_at (take L ps) v) 0 (get_or (plane_at ps L) v false) false (low_lt ps L v (omega (arith, long))) (pow_pos L) (sym (split_at L v ps long) ∙ e ∙ none)).0
first_low L v ps (x ∷ xs) long fits e =
    let some : first_shown L (x ∷ xs) ≡ x + 2 ^ L * bit true = omega arith in
    (parts (2 ^ L) (number_at (take L ps) v) x (get_or (plane_at ps L) v false) true (low_lt ps L v (omega (arith, long))) (All-head (λ y. y < 2 ^ L) x xs fits) (sym (split_at L v ps long) ∙ e ∙ some)).0

pub first_field_is : (n L : ℕ) (ps rest : List (List Bool)) (values : ℕ → List ℕ) → length ps ≡ L + 1 → rest ≡ take L ps → ((v : ℕ) → All (λ x. x < 2 ^ L) (values v)) → ((v : ℕ) → v < n → number_at ps v ≡ first_shown L (values v)) → value_of_planes n rest ≡ first_field L n values
first_field_is n L ps rest values long is fits each =
    ap (value_of_planes n) is
    ∙ field_is n L (take L ps) (λ v. slice_index (values v) 0) (length-take-le L ps (omega (arith, long))) (λ v h. first_low L v ps (values v) long (fits v) (each v h))
