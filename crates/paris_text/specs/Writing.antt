-- Words behind a first word, each with a space before it.
use Rattle.std.specs.Prelude.{ℕ, List, [], ◌∷◌, ◌++◌}

abbrev pub tail_text : List (List ℕ) → List ℕ
tail_text [] = []
tail_text (w ∷ ws) = 32 ∷ (w ++ tail_text ws)
