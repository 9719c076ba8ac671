-- How many values the words of a line are.
use Rattle.std.specs.Prelude.{ℕ, List, length, Option, option_map, Result, Ok}
use Rattle.paris_text.specs.Words.{axes_word}
use Rattle.paris_text.specs.Kinds.Kind.{ValueWord}
use Rattle.paris_text.specs.Reading.{Place, ◌>>=◌}
use Rattle.paris_text.specs.CommandReading.{many_at}

-- how many values the words of a place are, or the column of the first word that is none
abbrev pub values_room : Place → Result ℕ ℕ
values_room p = many_at ValueWord p >>= λ values. Ok (length values)

-- how many lengths of axes a word is, if it is some
abbrev pub axes_room : List ℕ → Option ℕ
axes_room w = option_map length (axes_word w)
