-- The entries around a place in a list.
use Rattle.std.proofs.Common.{◌≡◌, ℕ, suc, ◌+◌, List, ap, arith, slice_get}
use Rattle.paris_depends.specs.Sides.{entry_before}

pub entry_before-more : (ids : List ℕ) (n : ℕ) → entry_before ids (n + 1) ≡ slice_get ids n
entry_before-more ids n = ap (entry_before ids) (let e : n + 1 ≡ suc n = omega arith in e)
