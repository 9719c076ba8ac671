-- A row whose id is new stands among the others.
use Rattle.std.proofs.Common.{◌≡◌, ℕ, suc, ◌+◌, ◌<◌, List, [], ◌∷◌, length, false, cond, Option, Some, None, nat_eq, refl, sym, ap, ◌∙◌, arith}
use Rattle.std.proofs.lemmas.List.Edits.{length-remove}
use Rattle.std.proofs.lemmas.Option.{slice_get_within}
use Rattle.std.specs.List.{AllByRecursion}
use Rattle.std.specs.Option.{option_map, unwrap_or}
use Rattle.std.specs.Prelude.{remove}
use Rattle.paris_program.specs.Program.{ids_of, place_in, place_of}
use Rattle.paris_program.proofs.CallerLemmas.{place_of-first, row_there}
use Rattle.paris_depends.proofs.Places.{length-ids}

module _ {T : Type 0} where
  -- an id that is none of the ids has no place
  pub no_place : (rows : List (ℕ × T)) (id : ℕ) → AllByRecursion (λ i. nat_eq id i ≡ false) (ids_of rows) → place_of rows id ≡ None
  no_place [] id apart = refl
  no_place (r ∷ rows) id apart =
      place_of-first r rows id
      ∙ ap (λ b. cond b (Some 0) (option_map suc (place_of rows id))) apart.0
      ∙ ap (option_map suc) (no_place rows id apart.1)

-- where the other rows of a program are those of an index, there is one fewer of them, and a row's place is within them
module _ {S T : Type 0} (rows : List (ℕ × S)) (others old : List (ℕ × T)) (id place : ℕ) (at : place_of rows id ≡ Some place) (same : remove (ids_of rows) (place_in rows id) ≡ ids_of old) (kept : others ≡ old) where
  pub others_are : remove (ids_of rows) place ≡ ids_of others
  others_are = ap (remove (ids_of rows)) (ap (λ (o : Option ℕ). unwrap_or o 0) (sym at)) ∙ same ∙ ap (λ (l : List (ℕ × T)). ids_of l) (sym kept)

  pub one_fewer : (place < length rows) × (length others + 1 ≡ length rows)
  one_fewer =
      let row = row_there rows id place at in
      let within = slice_get_within rows place (id, row.0) row.1 in
      let count = ap length others_are in
      (within, omega (arith, within, count, length-remove (ids_of rows) place (omega (arith, within, length-ids rows)), length-ids rows, length-ids others))
