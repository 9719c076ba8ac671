-- What a row keeps for a look at it.
use Rattle.std.specs.Prelude.{◌≡◌, true, false, length, Some}
use Rattle.paris_names.specs.declared.keys.Key.{Key}
use Rattle.paris_names.specs.Keys.{has_key}
use Rattle.paris_geometry.specs.Geometry.{processor_count}
use Rattle.paris_model.specs.Instructions.{writes}
use Rattle.paris_exec.specs.Tasks.{Task, task_value}
use Rattle.paris_edits.specs.Rows.{is_settled}
use Rattle.paris_book.specs.Entries.{Entry, id_of}
use Rattle.paris_book.specs.declared.look.SharedLook.{SharedLook}
use Rattle.paris_book.specs.declared.look.SharedLook.TheVariants.{Settled, Pending}

-- a settled row keeps a result that holds the key
abbrev pub KeptFor : Entry → Key → Type 0
KeptFor e k = is_settled e.1.status ≡ true → (d : Task) × (e.1.done ≡ Some d) × (has_key (writes d.plan) k ≡ true)

-- a look at a row: its result's value where it is settled, else its id
abbrev pub LooksAt : SharedLook → Entry → Key → Type 0
LooksAt (Settled v) e k = (is_settled e.1.status ≡ true) × ((d : Task) × (e.1.done ≡ Some d) × (v.now ≡ task_value d k) × (length v.now.numbers ≡ processor_count d.plan.axes))
LooksAt (Pending id) e k = (is_settled e.1.status ≡ false) × (id ≡ id_of e)
