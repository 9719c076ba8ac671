-- A script in parts: it is cut at each line that says just `session`.
use Rattle.std.specs.Prelude.{◌<◌, ℕ, Bool, List, [], ◌∷◌, ◌++◌, bytes_eq, codes, length, if◌then◌else◌}
use Rattle.paris_session.specs.Transcript.{lines}

-- whether a line cuts a script
abbrev pub is_cut_line : List ℕ → Bool
is_cut_line line = bytes_eq line (codes "session")

-- lines in parts, where `begun` stands before them in the first part
abbrev pub cut : List (List ℕ) → List (List ℕ) → List (List (List ℕ))
cut begun [] = begun ∷ []
cut begun (line ∷ rest) = if is_cut_line line then begun ∷ cut [] rest else cut (begun ++ line ∷ []) rest

-- the lines of each part of a script
unfoldable pub parts : List ℕ → List (List (List ℕ))
parts script = cut [] (lines script)

-- a part has fewer lines than that its commands could not be counted
abbrev pub IsShort : List (List ℕ) → Type 0
IsShort part = length part < 1125899906842624
