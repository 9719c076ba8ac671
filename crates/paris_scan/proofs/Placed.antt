-- The one processor of a line that has a coordinate.
use Rattle.std.proofs.Common.{◌≡◌, ℕ, zero, suc, ◌+◌, ◌<◌, ◌≤◌, Bool, true, false, cond, List, [], ◌∷◌, map, arith, ap, ◌∙◌, eqb, inl, inr, refl}
use Rattle.std.specs.Prelude.{filter}
use Rattle.std.specs.List.{range_with_len}
use Rattle.std.proofs.lemmas.Bool.{cases_eq}
use Rattle.std.proofs.lemmas.Bool.Decides.{nat_tests}
use Rattle.paris_geometry.specs.Geometry.{axis_length, is_geometry, coordinate, at_coordinate}
use Rattle.paris_geometry.proofs.Neighbours.{coordinate_given}
use Rattle.paris_model.specs.Lines.{values_where, line_values}

-- a test that one place alone of those below n passes
pub record Alone (test : ℕ → Bool) (f : ℕ → ℕ) (n place : ℕ) : Type 0 where
  pub below : place < n
  pub only : (c : ℕ) → c < n → test (f c) ≡ eqb c place

same_place : (c place : ℕ) → c ≡ place → eqb c place ≡ true
same_place c place e = grind (arith, nat_tests, e)

other_place : (c place : ℕ) → (c ≡ place → ⊥) → eqb c place ≡ false
other_place c place e = grind (arith, nat_tests, e)

none_after : {test : ℕ → Bool} {f : ℕ → ℕ} {n place : ℕ} → Alone test f n place → (value : ℕ → ℕ) (a m : ℕ) → place < a → a + m ≤ n → values_where test value (map f (range_with_len a m)) ≡ []
none_after t value a zero after within = refl
none_after {test} {f} {n} {place} t value a (suc m) after within =
    ap (λ b. map value (cond b (f a ∷ filter test (map f (range_with_len (a + 1) m))) (filter test (map f (range_with_len (a + 1) m)))))
    (t.only a (omega arith) ∙ other_place a place (λ e. omega (arith, e)))
    ∙ none_after t value (a + 1) m (omega arith) (omega arith)

one_of : {test : ℕ → Bool} {f : ℕ → ℕ} {n place : ℕ} → Alone test f n place → (value : ℕ → ℕ) (a m : ℕ) → a ≤ place → place < a + m → a + m ≤ n → values_where test value (map f (range_with_len a m)) ≡ value (f place) ∷ []
one_of t value a zero from below within = absurd (omega arith)
one_of {test} {f} {n} {place} t value a (suc m) from below within =
    let rest : List ℕ = filter test (map f (range_with_len (a + 1) m)) in
    elim (cases_eq a place) [
      | inl e ↦
          ap (λ b. map value (cond b (f a ∷ rest) rest)) (t.only a (omega arith) ∙ same_place a place e)
          ∙ ap (λ l. value (f a) ∷ l) (none_after t value (a + 1) m (omega arith) (omega arith))
          ∙ ap (λ c. value (f c) ∷ []) e
      | inr e ↦
          ap (λ b. map value (cond b (f a ∷ rest) rest)) (t.only a (omega arith) ∙ other_place a place e)
          ∙ one_of t value (a + 1) m (omega arith) (omega arith) (omega arith)
    ]

pub line_at : (axes : List ℕ) (a place : ℕ) (value : ℕ → ℕ) (v : ℕ) → is_geometry axes ≡ true → place < axis_length axes a → line_values axes a (λ u. eqb (coordinate axes a u) place) value v ≡ value (at_coordinate axes a v place) ∷ []
line_at axes a place value v sound below =
    let t : Alone (λ u. eqb (coordinate axes a u) place) (at_coordinate axes a v) (axis_length axes a) place = record {
      below = below;
      only = λ c h. ap (λ x. eqb x place) (coordinate_given axes a v c sound h);
    } in
    one_of t value 0 (axis_length axes a) (omega arith) (omega arith) (omega arith)
