-- What holds of each row holds of one that is found by its id.
use Rattle.std.proofs.Common.{◌≡◌, ℕ, List, [], ◌∷◌, Bool, true, false, cond, Option, Some, Bor, nat_eq, sym, ap, ◌∙◌, slice_get}
use Rattle.std.specs.List.{AllByRecursion}
use Rattle.std.specs.Map.{lookup}
use Rattle.std.specs.Option.{option_map}

pub holds_of_found : {T : Type 0} (P : T → Type 0) (rows : List (ℕ × T)) (id : ℕ) (x : T) → AllByRecursion (λ r. P r.1) rows → lookup (nat_eq id) rows ≡ Some x → P x
holds_of_found P [] id x all found = absurd (cc)
holds_of_found P (r ∷ rows) id x all found = by_test (nat_eq id r.0) (holds_of_found P rows id x all.1) found
  where
    by_test : (b : Bool) → (lookup (nat_eq id) rows ≡ Some x → P x) → cond b (Some r.1) (lookup (nat_eq id) rows) ≡ Some x → P x
    by_test true later e = let same : r.1 ≡ x = cc in rw (← same) all.0
    by_test false later e = later e

-- the row at a place, where a map lends it
pub lent_row : {T : Type 0} (rows : List (ℕ × T)) (place : ℕ) (lent : Option (Bor ℕ × Bor T)) (r : Bor ℕ × Bor T) → option_map (λ (q : Bor ℕ × Bor T). (q.0.now, q.1.now)) lent ≡ slice_get rows place → lent ≡ Some r
    → slice_get rows place ≡ Some (r.0.now, r.1.now)
lent_row {T} rows place lent r e f = sym e ∙ ap (option_map (λ (q : Bor ℕ × Bor T). (q.0.now, q.1.now))) f
