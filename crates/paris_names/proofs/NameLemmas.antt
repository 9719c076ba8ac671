-- The buffer of a name that is made.
use Rattle.std.proofs.Common.{◌≡◌, ℕ, ◌+◌, ◌-◌, ◌≤◌, List, [], ◌∷◌, ◌++◌, length, take, drop, true, refl, sym, ap, ◌∙◌, arith, replicate, length-append, rules}
use Rattle.std.proofs.Math.Seq.{take-append_seam}
use Rattle.std.proofs.lemmas.List.{drop-replicate}
use Rattle.paris_names.specs.Names.{is_name, name_buffer}

pub name_made : (bs : List ℕ) → length bs ≤ 16 → is_name bs ≡ true
    → let buffer = bs ++ drop (length bs) (replicate 16 0) in
    (length bs ≤ 16) × (buffer ≡ name_buffer (take (length bs) buffer)) × (is_name (take (length bs) buffer) ≡ true)
name_made bs small h =
    let front : take (length bs) (bs ++ drop (length bs) (replicate 16 0)) ≡ bs = take-append_seam bs (drop (length bs) (replicate 16 0)) in
    (small, rw front (ap (λ (l : List ℕ). bs ++ l) (drop-replicate (length bs) 16 0)), rw front h)
