-- The grammar of commands.
use Rattle.std.specs.Prelude.{◌≡◌, ℕ, ◌^◌, ◌<◌, List, [], ◌∷◌, ◌++◌, is_some, true, codes}
use Rattle.std.specs.List.{AllByRecursion}
use Rattle.std.specs.Fmt.{decimal}
use Rattle.paris_names.specs.declared.ids.Spot.{Spot}
use Rattle.paris_names.specs.declared.ids.Spot.TheVariants.{Start, After, End}
use Rattle.paris_text.specs.declared.verbs.Verb.{Verb}
use Rattle.paris_text.specs.declared.verbs.Verb.TheVariants as verb
use Rattle.paris_text.specs.declared.verbs.Setting.{Setting}
use Rattle.paris_text.specs.Verbs.{verb_text, allows}
use Rattle.paris_text.specs.Kinds.{Kind, meaning}
use Rattle.paris_text.specs.Kinds.Kind.{NameWord, NumberWord, ValueWord, KeyWord, AxesWord, ProfileWord}
use Rattle.paris_text.specs.Columns.{IsInstructionLine, Grammar}

-- what some words have to be, from the left
pub data Shape : Type 0 where
  -- no words
  Done : Shape
  -- a word of a kind, and then words of a shape
  One : Kind → Shape → Shape
  -- words of a kind, one or more
  Many : Kind → Shape
  -- a place of the program, and then words of a shape
  AtSpot : Shape → Shape
  -- an instruction
  Whole : Shape

-- what the words behind the first word of a command have to be
abbrev pub shape_of : Verb → Shape
shape_of verb.Set = One NameWord (One AxesWord Done)
shape_of verb.Field = One NameWord (One NameWord (One NumberWord Done))
shape_of verb.Input = One KeyWord (One NumberWord (Many ValueWord))
shape_of verb.Insert = AtSpot Whole
shape_of verb.Delete = One NumberWord Done
shape_of verb.Replace = One NumberWord Whole
shape_of verb.Take = Done
shape_of verb.Bring = One NumberWord Done
shape_of verb.Release = Done
shape_of verb.Show = One KeyWord (AtSpot Done)
shape_of verb.List = Done
shape_of verb.Faults = Done
shape_of verb.Settle = Done
shape_of verb.Paris = One ProfileWord Done

-- the words of a place of the program
abbrev pub spot_words : Spot → List (List ℕ)
spot_words Start = codes "start" ∷ []
spot_words (After row) = codes "after" ∷ decimal row.0 ∷ []
spot_words End = codes "end" ∷ []

-- its number is below the bound of numbers
abbrev pub SpotFits : Spot → Type 0
SpotFits Start = Unit {0}
SpotFits (After row) = row.0 < 2 ^ 64
SpotFits End = Unit {0}

-- these words are of this shape
abbrev pub IsOf : Shape → List (List ℕ) → Type 0
IsOf Done [] = Unit {0}
IsOf Done (w ∷ ws) = ⊥
IsOf (One k rest) [] = ⊥
IsOf (One k rest) (w ∷ ws) = (is_some (meaning k w) ≡ true) × IsOf rest ws
IsOf (Many k) [] = ⊥
IsOf (Many k) (w ∷ ws) = AllByRecursion (λ v. is_some (meaning k v) ≡ true) (w ∷ ws)
IsOf (AtSpot rest) ws = (spot : Spot) × (more : List (List ℕ)) × (ws ≡ spot_words spot ++ more) × SpotFits spot × IsOf rest more
IsOf Whole ws = IsInstructionLine ws

-- these words are a line of the grammar of the commands that may stand there
abbrev pub IsCommandLine : Setting → Grammar
IsCommandLine s [] = ⊥
IsCommandLine s (w ∷ ws) = (v : Verb) × (w ≡ verb_text v) × (allows s v ≡ true) × IsOf (shape_of v) ws
