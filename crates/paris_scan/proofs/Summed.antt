-- Planes that show sums, as a field and as the plane on top.
use Rattle.std.proofs.Common.{◌≡◌, ℕ, ◌+◌, ◌<◌, Bool, Some, List, length, take, arith, ap, ◌∙◌, sym}
use Rattle.std.specs.Prelude.{Option, sum, nat_le, ◌^◌}
use Rattle.std.proofs.lemmas.List.{length-take-le}
use Rattle.paris_model.specs.declared.operators.Combiner.TheVariants.{Sum}
use Rattle.paris_model.specs.Combine.{combined, unit}
use Rattle.paris_field.specs.Numbers.{AllOf, number_at, plane_at, value_of_planes}
use Rattle.paris_field.proofs.Places.{field_is, plane_is}
use Rattle.paris_scan.specs.Lines.{combined_field, sums_overflow}
use Rattle.paris_scan.specs.Sums.{sum_shown}
use Rattle.paris_scan.proofs.Added.{shown_parts}
use Rattle.paris_scan.proofs.Units.{combined_sum}

pub sum_field : (n L : ℕ) (ps rest : List (List Bool)) (values : ℕ → List ℕ) → length ps ≡ L + 1 → rest ≡ take L ps → ((v : ℕ) → v < n → number_at ps v ≡ sum_shown L (values v)) → value_of_planes n rest ≡ combined_field Sum L n values
unfolding sum_shown
sum_field n L ps rest values long is each =
    ap (value_of_planes n) is
    ∙ field_is n L (take L ps) (λ v. combined Sum L (unit Sum L) (values v)) (length-take-le L ps (omega (arith, long))) (λ v h.
    (shown_parts L v (sum (values v)) ps long (each v h)).0 ∙ sym (combined_sum L (values v)))

pub sum_bits : (n L : ℕ) (ps : List (List Bool)) (top : Option (List Bool)) (values : ℕ → List ℕ) → length ps ≡ L + 1 → AllOf n ps → top ≡ Some (plane_at ps L) → ((v : ℕ) → v < n → number_at ps v ≡ sum_shown L (values v)) → top ≡ Some (sums_overflow L n values)
unfolding sum_shown
sum_bits n L ps top values long all is each =
    is ∙ ap Some (plane_is (plane_at ps L) n (λ v. nat_le (2 ^ L) (sum (values v))) (all L (omega (arith, long))) (λ v h. (shown_parts L v (sum (values v)) ps long (each v h)).1))
