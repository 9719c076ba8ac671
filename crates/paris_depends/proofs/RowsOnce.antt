-- What an index knows of its rows.
use Rattle.std.proofs.Common.{ℕ, List, [], ◌∷◌}
use Rattle.std.specs.List.{AllByRecursion, IsDistinct}
use Rattle.paris_names.specs.Keys.{key_eq}
use Rattle.paris_model.specs.Instructions.{Plan}
use Rattle.paris_depends.specs.Index.{Footprint, footprint}
use Rattle.paris_depends.specs.IndexInside.{IsRow}
use Rattle.paris_depends.specs.Sides.{keys_on}
use Rattle.paris_depends.specs.declared.sides.Side.{Side}
use Rattle.paris_depends.specs.declared.sides.Side.TheVariants.{Writers, Readers}
use Rattle.paris_depends.proofs.FewKeys.{writes-few}
use Rattle.paris_depends.proofs.KeysOnce.{reads-once, writes-once}

-- each row has each key once on a side
pub once-on : (side : Side) (rows : List (ℕ × Footprint)) → AllByRecursion (λ (r : ℕ × Footprint). IsRow r.1) rows → AllByRecursion (λ (r : ℕ × Footprint). IsDistinct key_eq (keys_on side r.1)) rows
once-on side [] sound = tt
once-on Writers (r ∷ rows) sound = (sound.0.writes_once, once-on Writers rows sound.1)
once-on Readers (r ∷ rows) sound = (sound.0.reads_once, once-on Readers rows sound.1)

-- the row of a plan is sound
pub footprint-sound : (p : Plan) → IsRow (footprint p)
footprint-sound p = record { few = writes-few p; writes_once = writes-once p; reads_once = reads-once p }
