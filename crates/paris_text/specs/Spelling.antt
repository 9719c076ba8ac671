-- The one spelling of each instruction.
use Rattle.std.specs.Prelude.{ℕ, List, [], ◌∷◌, map}
use Rattle.std.specs.List.{join_with_byte, AllByRecursion}
use Rattle.paris_model.specs.declared.actions.Action.{Action}
use Rattle.paris_model.specs.declared.actions.Action.TheVariants.{OnSelected, OnAll, ByNews, AlongLine, ByMail}
use Rattle.paris_model.specs.declared.actions.Conditional.{Conditional}
use Rattle.paris_model.specs.declared.actions.Conditional.TheVariants as conditional
use Rattle.paris_model.specs.declared.actions.Unconditional.{Unconditional}
use Rattle.paris_model.specs.declared.actions.Unconditional.TheVariants as unconditional
use Rattle.paris_model.specs.declared.actions.News.{News as Neighbour}
use Rattle.paris_model.specs.declared.actions.News.TheVariants as neighbour
use Rattle.paris_model.specs.declared.actions.Line.{Line}
use Rattle.paris_model.specs.declared.actions.Line.TheVariants as line
use Rattle.paris_model.specs.declared.actions.Mail.{Mail}
use Rattle.paris_model.specs.declared.actions.Mail.TheVariants as mail
use Rattle.paris_text.specs.declared.mnemonics.FlagAction.TheVariants.{SetTest, ClearTest, LoadTest, StoreTest, SetContext, ClearContext, InvertContext, LoadContext, AndContext, OrContext, AndContextWithTest, StoreContext}
use Rattle.paris_text.specs.declared.mnemonics.NewsMove.TheVariants as news
use Rattle.paris_text.specs.declared.mnemonics.Mnemonic.{Mnemonic}
use Rattle.paris_text.specs.declared.mnemonics.Mnemonic.TheVariants.{Binary, Unary, MoveConstant, Resize, Compare, MyCoordinate, MyAddress, MoveAlways, Flag, News, Scan, CopyScan, Spread, CopySpread, Reduce, Get, Send, CombiningSend}
use Rattle.paris_text.specs.Mnemonics.{text}
use Rattle.paris_text.specs.Kinds.{Operand, name, number, value, direction, inclusion, optional, spelled, Fits}

-- an instruction, with the bytes of its names
abbrev pub Instruction : Type 0
Instruction = Action (List ℕ) (List ℕ)

-- a first word, and the operands in the order in which they are spelled
abbrev pub Parts : Type 0
Parts = Mnemonic × List Operand

abbrev pub conditional_parts : Conditional (List ℕ) (List ℕ) → Parts
conditional_parts (conditional.Binary operator to left right length) = (Binary operator, name to ∷ name left ∷ name right ∷ number length ∷ [])
conditional_parts (conditional.Unary operator to from length) = (Unary operator, name to ∷ name from ∷ number length ∷ [])
conditional_parts (conditional.MoveConstant to constant length) = (MoveConstant, name to ∷ value constant ∷ number length ∷ [])
conditional_parts (conditional.Resize sign to from length from_length) = (Resize sign, name to ∷ name from ∷ number length ∷ number from_length ∷ [])
conditional_parts (conditional.Compare comparison left right length) = (Compare comparison, name left ∷ name right ∷ number length ∷ [])
conditional_parts (conditional.MyCoordinate to axis length) = (MyCoordinate, name to ∷ number axis ∷ number length ∷ [])
conditional_parts (conditional.MyAddress to length) = (MyAddress, name to ∷ number length ∷ [])
conditional_parts (conditional.SetTest set) = (Flag SetTest, name set ∷ [])
conditional_parts (conditional.ClearTest set) = (Flag ClearTest, name set ∷ [])
conditional_parts (conditional.LoadTest field) = (Flag LoadTest, name field ∷ [])
conditional_parts (conditional.StoreTest field) = (Flag StoreTest, name field ∷ [])

abbrev pub unconditional_parts : Unconditional (List ℕ) (List ℕ) → Parts
unconditional_parts (unconditional.MoveAlways to from length) = (MoveAlways, name to ∷ name from ∷ number length ∷ [])
unconditional_parts (unconditional.SetContext set) = (Flag SetContext, name set ∷ [])
unconditional_parts (unconditional.ClearContext set) = (Flag ClearContext, name set ∷ [])
unconditional_parts (unconditional.InvertContext set) = (Flag InvertContext, name set ∷ [])
unconditional_parts (unconditional.LoadContext field) = (Flag LoadContext, name field ∷ [])
unconditional_parts (unconditional.AndContext field) = (Flag AndContext, name field ∷ [])
unconditional_parts (unconditional.OrContext field) = (Flag OrContext, name field ∷ [])
unconditional_parts (unconditional.AndContextWithTest set) = (Flag AndContextWithTest, name set ∷ [])
unconditional_parts (unconditional.StoreContext field) = (Flag StoreContext, name field ∷ [])

abbrev pub news_parts : Neighbour (List ℕ) → Parts
news_parts (neighbour.Get to from axis way length) = (News news.Get, name to ∷ name from ∷ number axis ∷ direction way ∷ number length ∷ [])
news_parts (neighbour.Send to from axis way length) = (News news.Send, name to ∷ name from ∷ number axis ∷ direction way ∷ number length ∷ [])

abbrev pub line_parts : Line (List ℕ) → Parts
line_parts (line.Scan combiner to from axis length way counted segments) =
    (Scan combiner, name to ∷ name from ∷ number axis ∷ number length ∷ direction way ∷ inclusion counted ∷ optional segments ∷ [])
line_parts (line.CopyScan to from axis length way segments) = (CopyScan, name to ∷ name from ∷ number axis ∷ number length ∷ direction way ∷ optional segments ∷ [])
line_parts (line.Spread combiner to from axis length) = (Spread combiner, name to ∷ name from ∷ number axis ∷ number length ∷ [])
line_parts (line.CopySpread to from axis length coordinate) = (CopySpread, name to ∷ name from ∷ number axis ∷ number length ∷ number coordinate ∷ [])
line_parts (line.Reduce combiner to from axis length coordinate) = (Reduce combiner, name to ∷ name from ∷ number axis ∷ number length ∷ number coordinate ∷ [])

abbrev pub mail_parts : Mail (List ℕ) → Parts
mail_parts (mail.Get to addresses from length) = (Get, name to ∷ name addresses ∷ name from ∷ number length ∷ [])
mail_parts (mail.Send to addresses from length notify) = (Send, name to ∷ name addresses ∷ name from ∷ number length ∷ optional notify ∷ [])
mail_parts (mail.CombiningSend combiner to addresses from length notify) =
    (CombiningSend combiner, name to ∷ name addresses ∷ name from ∷ number length ∷ optional notify ∷ [])

abbrev pub instruction_parts : Instruction → Parts
instruction_parts (OnSelected action) = conditional_parts action
instruction_parts (OnAll action) = unconditional_parts action
instruction_parts (ByNews action) = news_parts action
instruction_parts (AlongLine action) = line_parts action
instruction_parts (ByMail action) = mail_parts action

abbrev pub operand_words : List Operand → List (List ℕ)
operand_words os = map (λ o. spelled o.0 o.1) os

-- the words of an instruction
abbrev pub words_of : Instruction → List (List ℕ)
words_of i = text (instruction_parts i).0 ∷ operand_words (instruction_parts i).1

-- the words with one space between each two
unfoldable pub spelling : Instruction → List ℕ
spelling i = join_with_byte 32 (words_of i)

abbrev pub OperandsFit : List Operand → Type 0
OperandsFit os = AllByRecursion (λ o. Fits o.0 o.1) os

-- the names are names, and the numbers are below the bounds of their kinds
abbrev pub IsInBounds : Instruction → Type 0
IsInBounds i = OperandsFit (instruction_parts i).1
