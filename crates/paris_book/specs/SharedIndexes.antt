-- The index of a book's rows, which its snapshots may share.
use Rattle.std.specs.Prelude.{◌≡◌, ℕ, List, true}
use Rattle.paris_depends.specs.Index.{CanAdd, CanChange, Footprint, HasRoom}
use Rattle.paris_book.specs.declared.shared_index.SharedIndex.{SharedIndex}

-- the rows that it has
abbrev pub indexed_in : SharedIndex → List (ℕ × Footprint)
indexed_in s = s.held.value.rows

-- no other book may share it
abbrev pub IsOwn : SharedIndex → Type 0
IsOwn s = s.held.own ≡ true

-- it may be changed, and a row with this footprint can be put in at a place with no more memory
abbrev pub CanAddIn : SharedIndex → ℕ → Footprint → Type 0
CanAddIn s place f = IsOwn s × CanAdd s.held.value.room place f

-- it may be changed, and so may the row with this id
abbrev pub CanChangeIn : SharedIndex → ℕ → Type 0
CanChangeIn s id = IsOwn s × CanChange s.held.value id

-- it may be changed, and a row with this footprint fits into the lists of its keys with no more memory
abbrev pub HasOwnRoom : SharedIndex → Footprint → Type 0
HasOwnRoom s f = IsOwn s × HasRoom s.held.value.room f
