-- Where a value comes from: the last row that writes its key, and the tree of all that it was made from.
use Rattle.std.specs.Prelude.{ℕ, ◌==◌, Bool, true, false, ◌&&◌, List, [], ◌∷◌, Option, Some, None, if◌then◌else◌}
use Rattle.std.specs.Option.{option_or}
use Rattle.paris_names.specs.declared.keys.Key.{Key}
use Rattle.paris_names.specs.Keys.{has_key}
use Rattle.paris_model.specs.Instructions.{Plan, reads, writes}

-- the last of the rows that writes the key, or none, which is the start
abbrev pub origin : {X : Type 0} → (X → Plan) → Key → List X → Option X
origin plan k [] = None
origin plan k (x ∷ xs) = option_or (origin plan k xs) (if has_key (writes (plan x)) k then Some x else None)

-- a recipe, or a chain of recipes
pub data Recipe : Type 0 where
  -- a key at the start of the program: the number of the edit that last set or declared it
  Start : ℕ → Recipe
  -- a row: its id, the number of the edit that last set its instruction, and the chain of what it reads
  Made : ℕ → ℕ → Recipe → Recipe
  -- the empty chain, and a recipe before a chain
  End : Recipe
  And : Recipe → Recipe → Recipe

-- whether two recipes are the same
abbrev pub same : Recipe → Recipe → Bool
same (Start m) (Start n) = m == n
same (Made i s a) (Made j t b) = (i == j) && ((s == t) && same a b)
same End End = true
same (And a c) (And b d) = same a b && same c d
same _ _ = false

-- the chain of the recipes of keys
abbrev pub chain : (Key → Recipe) → List Key → Recipe
chain q [] = End
chain q (k ∷ ks) = And (q k) (chain q ks)

-- the recipe of a row with this id, number and plan, where q has the recipe of each key's origin
abbrev pub recipe : (Key → Recipe) → ℕ → ℕ → Plan → Recipe
recipe q id number p = Made id number (chain q (reads p))

-- the recipe of each key's origin just after that row
unfoldable pub past : (Key → Recipe) → ℕ → ℕ → Plan → Key → Recipe
past q id number p k = if has_key (writes p) k then recipe q id number p else q k
