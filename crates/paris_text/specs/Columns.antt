-- The grammar of instructions, and the column at which a line leaves a grammar.
use Rattle.std.specs.Prelude.{◌≡◌, ℕ, ◌+◌, List, [], ◌∷◌, ◌++◌, length, is_some, true, ◌⊎◌}
use Rattle.paris_text.specs.declared.mnemonics.Mnemonic.{Mnemonic}
use Rattle.paris_text.specs.declared.mnemonics.Mnemonic.TheVariants.{Binary, Unary, MoveConstant, Resize, Compare, MyCoordinate, MyAddress, MoveAlways, Flag, News, Scan, CopyScan, Spread, CopySpread, Reduce, Get, Send, CombiningSend}
use Rattle.paris_text.specs.Mnemonics.{text}
use Rattle.paris_text.specs.Kinds.{Kind, meaning}
use Rattle.paris_text.specs.Kinds.Kind.{NameWord, NumberWord, ValueWord, DirectionWord, InclusionWord, OptionWord}

-- what each word behind a first word has to be
abbrev pub expects : Mnemonic → List Kind
expects (Binary operator) = NameWord ∷ NameWord ∷ NameWord ∷ NumberWord ∷ []
expects (Unary operator) = NameWord ∷ NameWord ∷ NumberWord ∷ []
expects MoveConstant = NameWord ∷ ValueWord ∷ NumberWord ∷ []
expects (Resize sign) = NameWord ∷ NameWord ∷ NumberWord ∷ NumberWord ∷ []
expects (Compare comparison) = NameWord ∷ NameWord ∷ NumberWord ∷ []
expects MyCoordinate = NameWord ∷ NumberWord ∷ NumberWord ∷ []
expects MyAddress = NameWord ∷ NumberWord ∷ []
expects MoveAlways = NameWord ∷ NameWord ∷ NumberWord ∷ []
expects (Flag action) = NameWord ∷ []
expects (News move) = NameWord ∷ NameWord ∷ NumberWord ∷ DirectionWord ∷ NumberWord ∷ []
expects (Scan combiner) = NameWord ∷ NameWord ∷ NumberWord ∷ NumberWord ∷ DirectionWord ∷ InclusionWord ∷ OptionWord ∷ []
expects CopyScan = NameWord ∷ NameWord ∷ NumberWord ∷ NumberWord ∷ DirectionWord ∷ OptionWord ∷ []
expects (Spread combiner) = NameWord ∷ NameWord ∷ NumberWord ∷ NumberWord ∷ []
expects CopySpread = NameWord ∷ NameWord ∷ NumberWord ∷ NumberWord ∷ NumberWord ∷ []
expects (Reduce combiner) = NameWord ∷ NameWord ∷ NumberWord ∷ NumberWord ∷ NumberWord ∷ []
expects Get = NameWord ∷ NameWord ∷ NameWord ∷ NumberWord ∷ []
expects Send = NameWord ∷ NameWord ∷ NameWord ∷ NumberWord ∷ OptionWord ∷ []
expects (CombiningSend combiner) = NameWord ∷ NameWord ∷ NameWord ∷ NumberWord ∷ OptionWord ∷ []

-- these words are of these kinds, one by one
abbrev pub AreOfKinds : List Kind → List (List ℕ) → Type 0
AreOfKinds [] [] = Unit {0}
AreOfKinds [] (w ∷ ws) = ⊥
AreOfKinds (k ∷ ks) [] = ⊥
AreOfKinds (k ∷ ks) (w ∷ ws) = (is_some (meaning k w) ≡ true) × AreOfKinds ks ws

-- these words are a line of the grammar of instructions
abbrev pub IsInstructionLine : List (List ℕ) → Type 0
IsInstructionLine [] = ⊥
IsInstructionLine (w ∷ ws) = (m : Mnemonic) × (w ≡ text m) × AreOfKinds (expects m) ws

-- the lines of a grammar, each with its words
abbrev pub Grammar : Type 1
Grammar = List (List ℕ) → Type 0

-- a line of the grammar begins with these words
abbrev pub Begins : Grammar → List (List ℕ) → Type 0
Begins grammar ws = (more : List (List ℕ)) × grammar (ws ++ more)

-- the bytes of the words, each with the space after it
abbrev pub width : List (List ℕ) → ℕ
width [] = 0
width (w ∷ ws) = length w + 1 + width ws

-- The column, from 1, of the first byte of the first word such that no line of the grammar begins with the words up to it and
-- with it; where all words are right and more are wanted, the line's length plus 1.
abbrev pub IsColumn : Grammar → List (List ℕ) → ℕ → Type 0
IsColumn grammar ws column =
    ((front : List (List ℕ)) × (word : List ℕ) × (rest : List (List ℕ)) × (ws ≡ front ++ word ∷ rest)
    × Begins grammar front × (Begins grammar (front ++ word ∷ []) → ⊥) × (column ≡ 1 + width front))
    ⊎ (Begins grammar ws × (grammar ws → ⊥) × (column ≡ width ws))
