-- How the lists are kept.
use Rattle.std.specs.Prelude.{ℕ, ◌-◌, List, cond, map}
use Rattle.std.specs.Vec.{vec_capacity, vec_len}
use Rattle.paris_names.specs.declared.ids.RowId.{RowId}
use Rattle.paris_depends.specs.Lists.{Lists}
use Rattle.paris_depends.specs.declared.id_list.IdList.{IdList}
use Rattle.paris_depends.specs.declared.lists.Lists.TheInside.{Inside}

abbrev pub numbers : List RowId → List ℕ
numbers ids = map (λ id. id.0) ids

-- the ids of a list
abbrev pub ids_held : IdList → List ℕ
ids_held ids = numbers ids.held.value.items

-- how many more ids fit with no more memory where no other index may share it
abbrev pub room_in : IdList → ℕ
room_in ids = cond ids.held.own (vec_capacity ids.held.value - vec_len ids.held.value) 0

abbrev pub listed : Inside → Lists
listed i = record { ids = map ids_held i.lists.items; room = map room_in i.lists.items }
