-- Reading a command from the left: the command, or the column of the first word that does not fit.
use Rattle.std.specs.Prelude.{◌≡◌, ℕ, ◌+◌, List, [], ◌∷◌, length, Bool, false, Result, Ok, Err, codes, if◌then◌else◌}
use Rattle.std.specs.Str.{bytes_eq}
use Rattle.paris_names.specs.declared.faults.Fault.{Fault}
use Rattle.paris_names.specs.declared.faults.Fault.TheVariants.{NoMemory, Syntax}
use Rattle.paris_names.specs.declared.ids.Spot.{Spot}
use Rattle.paris_names.specs.declared.ids.Spot.TheVariants.{Start, After, End}
use Rattle.paris_edits.specs.declared.edits.Edit.TheVariants as edit
use Rattle.paris_text.specs.declared.verbs.Verb.{Verb}
use Rattle.paris_text.specs.declared.verbs.Verb.TheVariants as verb
use Rattle.paris_text.specs.declared.verbs.Setting.{Setting}
use Rattle.paris_text.specs.declared.commands.Command.{Command}
use Rattle.paris_text.specs.declared.commands.Command.TheVariants as command
use Rattle.paris_text.specs.Words.{words}
use Rattle.paris_text.specs.Verbs.{verb_in}
use Rattle.paris_text.specs.Kinds.{Kind, Meaning, meaning}
use Rattle.paris_text.specs.Kinds.Kind.{NumberWord}
use Rattle.paris_text.specs.Spelling.{Instruction}
use Rattle.paris_text.specs.Shapes.{Shape, shape_of}
use Rattle.paris_text.specs.Shapes.Shape.{Done, One, Many, AtSpot, Whole}
use Rattle.paris_text.specs.Reading.{Place, ◌>>=◌, read_word, next_word, word_at, kind_at, end_at, instr_at}

-- the first word of a command that may stand there
unfoldable pub verb_at : Setting → Place → Result (Verb × Place) ℕ
verb_at s p = next_word (verb_in s) p.0 p.1

-- all words from a column on, each of a kind
abbrev pub each_at : (k : Kind) → ℕ → List (List ℕ) → Result (List (Meaning k)) ℕ
each_at k c [] = Ok []
each_at k c (w ∷ ws) = read_word (meaning k w) c w ws >>= λ x. each_at k (c + length w + 1) ws >>= λ xs. Ok (x.0 ∷ xs)

-- one word or more, each of a kind, and then the end of the line
unfoldable pub many_at : (k : Kind) → Place → Result (List (Meaning k)) ℕ
many_at k p = kind_at k p >>= λ x. each_at k x.1.0 x.1.1 >>= λ xs. Ok (x.0 ∷ xs)

-- the place of the program that begins with a word at a column
abbrev pub spot_from : List ℕ → ℕ → Place → Result (Spot × Place) ℕ
spot_from w c behind =
    if bytes_eq w (codes "start") then Ok (Start, behind)
    else if bytes_eq w (codes "after") then (kind_at NumberWord behind >>= λ row. Ok (After (record { 0 = row.0 }), row.1))
    else if bytes_eq w (codes "end") then Ok (End, behind)
    else Err c

unfoldable pub spot_at : Place → Result (Spot × Place) ℕ
spot_at p = word_at p >>= λ x. spot_from x.0 p.0 x.1

-- a command of one word, which ends the line
abbrev pub alone_at : Command → Place → Result Command ℕ
alone_at c p = end_at p >>= λ over. Ok c

-- what words of a shape stand for
abbrev pub ShapeMeaning : Shape → Type 0
ShapeMeaning Done = Unit {0}
ShapeMeaning (One k rest) = Meaning k × ShapeMeaning rest
ShapeMeaning (Many k) = List (Meaning k)
ShapeMeaning (AtSpot rest) = Spot × ShapeMeaning rest
ShapeMeaning Whole = Instruction

-- words of this shape, and then the end of the line
abbrev pub shape_at : (s : Shape) → Place → Result (ShapeMeaning s) ℕ
shape_at Done p = end_at p
shape_at (One k rest) p = kind_at k p >>= λ x. shape_at rest x.1 >>= λ xs. Ok (x.0, xs)
shape_at (Many k) p = many_at k p
shape_at (AtSpot rest) p = spot_at p >>= λ x. shape_at rest x.1 >>= λ xs. Ok (x.0, xs)
shape_at Whole p = instr_at p

-- the command of a first word and of what the words behind it stand for
abbrev pub command_from : (v : Verb) → ShapeMeaning (shape_of v) → Command
command_from verb.Set (name, (axes, end)) = command.Edit (edit.AddSet name axes)
command_from verb.Field (name, (set, (width, end))) = command.Edit (edit.AddField name set width)
command_from verb.Input (key, (from, values)) = command.Edit (edit.Input key from values)
command_from verb.Insert (spot, instr) = command.Edit (edit.Insert spot instr)
command_from verb.Delete (row, end) = command.Edit (edit.Delete (record { 0 = row }))
command_from verb.Replace (row, instr) = command.Edit (edit.Replace (record { 0 = row }) instr)
command_from verb.Take end = command.Take
command_from verb.Bring (order, end) = command.Bring order
command_from verb.Release end = command.Release
command_from verb.Show (key, (spot, end)) = command.Show key spot
command_from verb.List end = command.List
command_from verb.Faults end = command.Faults
command_from verb.Settle end = command.Settle
command_from verb.Paris (profile, end) = command.Paris profile

unfoldable pub rest_at : Verb → Place → Result Command ℕ
rest_at v p = shape_at (shape_of v) p >>= λ xs. Ok (command_from v xs)

unfoldable pub command_at : Setting → Place → Result Command ℕ
command_at s p = verb_at s p >>= λ first. rest_at first.0 first.1

-- the command that a line is, or the column at which the line leaves the grammar of the commands that may stand there
unfoldable pub command_in : Setting → List ℕ → Result Command ℕ
command_in s line = command_at s (1, words line)

-- the same of a line of a script, whose book is its own, and of which the line may be the first command
abbrev pub command_of : Bool → List ℕ → Result Command ℕ
command_of first line = command_in (record { is_shared = false; is_first = first }) line

-- the fault that is due: the column where reading stops; want of memory where nothing stops it
abbrev pub IsRefusal : {X : Type 0} → Result X ℕ → Fault → Type 0
IsRefusal (Ok x) fault = fault ≡ NoMemory
IsRefusal (Err column) fault = fault ≡ Syntax column

-- what a reader of the code gave, which may want memory, is what reading gives
abbrev pub GivesIfRoom : {X Y : Type 0} → (X → Y) → Result X Fault → Result Y ℕ → Type 0
GivesIfRoom view (Ok x) read = read ≡ Ok (view x)
GivesIfRoom view (Err fault) read = IsRefusal read fault
