-- Laws of the text of instructions and of commands.
use Rattle.std.specs.Prelude.{◌≡◌, ◌↔◌, ℕ, ◌+◌, List, length, Ok, Err}
use Rattle.paris_text.specs.declared.commands.Command.{Command}
use Rattle.paris_text.specs.declared.verbs.Setting.{Setting}
use Rattle.paris_text.specs.Words.{words}
use Rattle.paris_text.specs.Columns.{IsInstructionLine, IsColumn, width}
use Rattle.paris_text.specs.Spelling.{Instruction, IsInBounds, spelling}
use Rattle.paris_text.specs.Shapes.{IsCommandLine}
use Rattle.paris_text.specs.Commands.{command_spelling, IsCommandInBounds, MayStand}
use Rattle.paris_text.specs.CommandReading.{command_in}

-- no two instructions share a spelling
abbrev pub SpellingsDiffer : Type 0
SpellingsDiffer = (i j : Instruction) → IsInBounds i → IsInBounds j → spelling i ≡ spelling j → i ≡ j

-- a line is in the grammar exactly where it is the spelling of an instruction
abbrev pub LinesAreSpellings : Type 0
LinesAreSpellings = (line : List ℕ) → IsInstructionLine (words line) ↔ ((i : Instruction) × IsInBounds i × (line ≡ spelling i))

-- a line leaves the grammar at one column, and a line of the grammar at none
abbrev pub ColumnsAreUnique : Type 0
ColumnsAreUnique = (ws : List (List ℕ)) (a b : ℕ) → IsColumn IsInstructionLine ws a → IsColumn IsInstructionLine ws b → a ≡ b

abbrev pub LinesHaveNoColumn : Type 0
LinesHaveNoColumn = (ws : List (List ℕ)) (column : ℕ) → IsInstructionLine ws → IsColumn IsInstructionLine ws column → ⊥

-- the words of a line, each with the space after it, have one byte more than the line
abbrev pub WidthIsLength : Type 0
WidthIsLength = (line : List ℕ) → width (words line) ≡ length line + 1

-- a line reads as a command exactly where it is the spelling of that command, and the command may stand there
abbrev pub CommandsAreRead : Type 0
CommandsAreRead = (s : Setting) (line : List ℕ) (c : Command) → (command_in s line ≡ Ok c) ↔ (MayStand s c × (line ≡ command_spelling c))

-- reading stops at a column exactly where the line leaves, there, the grammar of the commands that may stand in it
abbrev pub ColumnsOfCommands : Type 0
ColumnsOfCommands = (s : Setting) (line : List ℕ) (column : ℕ) → (command_in s line ≡ Err column) ↔ IsColumn (IsCommandLine s) (words line) column

-- no two commands share a spelling
abbrev pub CommandSpellingsDiffer : Type 0
CommandSpellingsDiffer = (b c : Command) → IsCommandInBounds b → IsCommandInBounds c → command_spelling b ≡ command_spelling c → b ≡ c

-- a line is in that grammar exactly where it is the spelling of a command that may stand there
abbrev pub LinesAreCommands : Type 0
LinesAreCommands = (s : Setting) (line : List ℕ) → IsCommandLine s (words line) ↔ ((c : Command) × MayStand s c × (line ≡ command_spelling c))
