-- Texts that are written in part.
use Rattle.std.specs.Prelude.{◌≡◌, ℕ, List, ◌++◌, Option}
use Rattle.std.specs.Io.KnownBytes.{Appends}

-- xs begins with the prefix
abbrev pub BeginsWith : List ℕ → List ℕ → Type 0
BeginsWith xs prefix = (more : List ℕ) × (xs ≡ prefix ++ more)

-- a front of the text was written
abbrev pub WritesFront : Option (List ℕ) → Option (List ℕ) → List ℕ → Type 0
WritesFront old new text = (front : List ℕ) × Appends old new front × BeginsWith text front
