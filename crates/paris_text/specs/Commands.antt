-- The one spelling of each command.
use Rattle.std.specs.Prelude.{◌≡◌, ◌≢◌, true, ℕ, List, [], ◌∷◌, ◌++◌, map, codes}
use Rattle.std.specs.List.{join_with_byte, AllByRecursion}
use Rattle.std.specs.Fmt.{decimal}
use Rattle.paris_edits.specs.declared.edits.Edit.{Edit}
use Rattle.paris_edits.specs.declared.edits.Edit.TheVariants as edit
use Rattle.paris_text.specs.declared.verbs.Verb.{Verb}
use Rattle.paris_text.specs.declared.verbs.Verb.TheVariants as verb
use Rattle.paris_text.specs.declared.verbs.Setting.{Setting}
use Rattle.paris_text.specs.Verbs.{allows}
use Rattle.paris_text.specs.declared.commands.Command.{Command}
use Rattle.paris_text.specs.declared.commands.Command.TheVariants as command
use Rattle.paris_text.specs.Kinds.{key_text, axes_text, profile_text, Fits}
use Rattle.paris_text.specs.Kinds.Kind.{NameWord, NumberWord, ValueWord, KeyWord, AxesWord}
use Rattle.paris_text.specs.Spelling.{words_of, IsInBounds}
use Rattle.paris_text.specs.Shapes.{spot_words, SpotFits}

-- the words of a command that is an edit
abbrev pub edit_words : Edit → List (List ℕ)
edit_words (edit.AddSet name axes) = codes "set" ∷ name ∷ axes_text axes ∷ []
edit_words (edit.AddField name set width) = codes "field" ∷ name ∷ set ∷ decimal width ∷ []
edit_words (edit.Input key from values) = codes "input" ∷ key_text key ∷ decimal from ∷ map decimal values
edit_words (edit.Insert spot instr) = codes "insert" ∷ (spot_words spot ++ words_of instr)
edit_words (edit.Delete row) = codes "delete" ∷ decimal row.0 ∷ []
edit_words (edit.Replace row instr) = codes "replace" ∷ decimal row.0 ∷ words_of instr

-- the words of a command
abbrev pub command_words : Command → List (List ℕ)
command_words (command.Edit e) = edit_words e
command_words command.Take = codes "take" ∷ []
command_words (command.Bring order) = codes "bring" ∷ decimal order ∷ []
command_words command.Release = codes "release" ∷ []
command_words (command.Show key spot) = codes "show" ∷ key_text key ∷ spot_words spot
command_words command.List = codes "list" ∷ []
command_words command.Faults = codes "faults" ∷ []
command_words command.Settle = codes "settle" ∷ []
command_words (command.Paris profile) = codes "paris" ∷ profile_text profile ∷ []

-- the words with one space between each two
unfoldable pub command_spelling : Command → List ℕ
command_spelling c = join_with_byte 32 (command_words c)

-- the names are names, the numbers are below the bounds of their kinds, and there is an axis and a value
abbrev pub IsEditInBounds : Edit → Type 0
IsEditInBounds (edit.AddSet name axes) = Fits NameWord name × Fits AxesWord axes
IsEditInBounds (edit.AddField name set width) = Fits NameWord name × Fits NameWord set × Fits NumberWord width
IsEditInBounds (edit.Input key from values) = Fits KeyWord key × Fits NumberWord from × (values ≢ []) × AllByRecursion (Fits ValueWord) values
IsEditInBounds (edit.Insert spot instr) = SpotFits spot × IsInBounds instr
IsEditInBounds (edit.Delete row) = Fits NumberWord row.0
IsEditInBounds (edit.Replace row instr) = Fits NumberWord row.0 × IsInBounds instr

-- the same of a command
abbrev pub IsCommandInBounds : Command → Type 0
IsCommandInBounds (command.Edit e) = IsEditInBounds e
IsCommandInBounds (command.Bring order) = Fits NumberWord order
IsCommandInBounds (command.Show key spot) = Fits KeyWord key × SpotFits spot
IsCommandInBounds command.Take = Unit {0}
IsCommandInBounds command.Release = Unit {0}
IsCommandInBounds command.List = Unit {0}
IsCommandInBounds command.Faults = Unit {0}
IsCommandInBounds command.Settle = Unit {0}
IsCommandInBounds (command.Paris profile) = Unit {0}

-- the verb of an edit and of a command
abbrev pub edit_verb : Edit → Verb
edit_verb (edit.AddSet name axes) = verb.Set
edit_verb (edit.AddField name set width) = verb.Field
edit_verb (edit.Input key from values) = verb.Input
edit_verb (edit.Insert spot instr) = verb.Insert
edit_verb (edit.Delete row) = verb.Delete
edit_verb (edit.Replace row instr) = verb.Replace

abbrev pub verb_of : Command → Verb
verb_of (command.Edit e) = edit_verb e
verb_of command.Take = verb.Take
verb_of (command.Bring order) = verb.Bring
verb_of command.Release = verb.Release
verb_of (command.Show key spot) = verb.Show
verb_of command.List = verb.List
verb_of command.Faults = verb.Faults
verb_of command.Settle = verb.Settle
verb_of (command.Paris profile) = verb.Paris

-- a command that may stand there, with names and numbers within their bounds
abbrev pub MayStand : Setting → Command → Type 0
MayStand s c = (allows s (verb_of c) ≡ true) × IsCommandInBounds c
