-- Reading words from the left: what a word stands for and what is left, or the column of the first word that does not fit.
use Rattle.std.specs.Prelude.{◌≡◌, ℕ, ◌+◌, ◌-◌, List, [], ◌∷◌, length, Option, None, Some, Result, Ok, Err, drop, nat_le, if◌then◌else◌}
use Rattle.paris_model.specs.declared.actions.Action.TheVariants.{OnSelected, OnAll, ByNews, AlongLine, ByMail}
use Rattle.paris_model.specs.declared.actions.Conditional.TheVariants as conditional
use Rattle.paris_model.specs.declared.actions.Unconditional.TheVariants as unconditional
use Rattle.paris_model.specs.declared.actions.News.TheVariants as neighbour
use Rattle.paris_model.specs.declared.actions.Line.TheVariants as line
use Rattle.paris_model.specs.declared.actions.Mail.TheVariants as mail
use Rattle.paris_text.specs.declared.mnemonics.FlagAction.{FlagAction}
use Rattle.paris_text.specs.declared.mnemonics.FlagAction.TheVariants.{SetTest, ClearTest, LoadTest, StoreTest, SetContext, ClearContext, InvertContext, LoadContext, AndContext, OrContext, AndContextWithTest, StoreContext}
use Rattle.paris_text.specs.declared.mnemonics.NewsMove.TheVariants as news
use Rattle.paris_text.specs.declared.mnemonics.Mnemonic.{Mnemonic}
use Rattle.paris_text.specs.declared.mnemonics.Mnemonic.TheVariants.{Binary, Unary, MoveConstant, Resize, Compare, MyCoordinate, MyAddress, MoveAlways, Flag, News, Scan, CopyScan, Spread, CopySpread, Reduce, Get, Send, CombiningSend}
use Rattle.paris_text.specs.declared.reader.Syntax.{Syntax}
use Rattle.paris_text.specs.Words.{words}
use Rattle.paris_text.specs.Kinds.{Kind, Meaning, meaning}
use Rattle.paris_text.specs.Mnemonics.{mnemonic_word}
use Rattle.paris_text.specs.Columns.{expects}
use Rattle.paris_text.specs.Spelling.{Instruction}

-- the words of a line from a place on; past its end there are none
unfoldable pub left : List ℕ → ℕ → List (List ℕ)
left line at = if nat_le at (length line) then words (drop at line) else []

-- the column of the next word, and the words from it on
abbrev pub Place : Type 0
Place = ℕ × List (List ℕ)

-- the place in a line behind some of its bytes
unfoldable pub place : List ℕ → ℕ → Place
place line at = (at + 1, left line at)

infixl 10 ◌>>=◌
abbrev pub ◌>>=◌ : {A B : Type 0} → Result A ℕ → (A → Result B ℕ) → Result B ℕ
(Ok x) >>= f = f x
(Err e) >>= f = Err e

-- what a word reads as and the place behind it, or the column of the word
abbrev pub read_word : {X : Type 0} → Option X → ℕ → List ℕ → List (List ℕ) → Result (X × Place) ℕ
read_word None c w ws = Err c
read_word (Some x) c w ws = Ok (x, (c + length w + 1, ws))

-- the next word, read so; where there is none, the column is that behind the line
abbrev pub next_word : {X : Type 0} → (List ℕ → Option X) → ℕ → List (List ℕ) → Result (X × Place) ℕ
next_word read c [] = Err (c - 1)
next_word read c (w ∷ ws) = read_word (read w) c w ws

unfoldable pub word_at : Place → Result (List ℕ × Place) ℕ
word_at p = next_word Some p.0 p.1

unfoldable pub mnemonic_at : Place → Result (Mnemonic × Place) ℕ
mnemonic_at p = next_word mnemonic_word p.0 p.1

unfoldable pub kind_at : (k : Kind) → Place → Result (Meaning k × Place) ℕ
kind_at k p = next_word (meaning k) p.0 p.1

-- no words are left
abbrev pub no_words : ℕ → List (List ℕ) → Result (Unit {0}) ℕ
no_words c [] = Ok tt
no_words c (w ∷ ws) = Err c

unfoldable pub end_at : Place → Result (Unit {0}) ℕ
end_at p = no_words p.0 p.1

-- what words of these kinds stand for, one by one
abbrev pub Meanings : List Kind → Type 0
Meanings [] = Unit {0}
Meanings (k ∷ ks) = Meaning k × Meanings ks

-- words of these kinds, and then the end of the line
abbrev pub all_at : (ks : List Kind) → Place → Result (Meanings ks) ℕ
all_at [] p = end_at p
all_at (k ∷ ks) p = kind_at k p >>= λ x. all_at ks x.1 >>= λ xs. Ok (x.0, xs)

abbrev pub flag_instr : FlagAction → List ℕ → Instruction
flag_instr SetTest name = OnSelected (conditional.SetTest name)
flag_instr ClearTest name = OnSelected (conditional.ClearTest name)
flag_instr LoadTest name = OnSelected (conditional.LoadTest name)
flag_instr StoreTest name = OnSelected (conditional.StoreTest name)
flag_instr SetContext name = OnAll (unconditional.SetContext name)
flag_instr ClearContext name = OnAll (unconditional.ClearContext name)
flag_instr InvertContext name = OnAll (unconditional.InvertContext name)
flag_instr LoadContext name = OnAll (unconditional.LoadContext name)
flag_instr AndContext name = OnAll (unconditional.AndContext name)
flag_instr OrContext name = OnAll (unconditional.OrContext name)
flag_instr AndContextWithTest name = OnAll (unconditional.AndContextWithTest name)
flag_instr StoreContext name = OnAll (unconditional.StoreContext name)

-- the instruction of a first word and of what the words behind it stand for
abbrev pub instr_of : (m : Mnemonic) → Meanings (expects m) → Instruction
instr_of (Binary operator) (a, (b, (c, (d, e)))) = OnSelected (conditional.Binary operator a b c d)
instr_of (Unary operator) (a, (b, (c, d))) = OnSelected (conditional.Unary operator a b c)
instr_of MoveConstant (a, (b, (c, d))) = OnSelected (conditional.MoveConstant a b c)
instr_of (Resize sign) (a, (b, (c, (d, e)))) = OnSelected (conditional.Resize sign a b c d)
instr_of (Compare comparison) (a, (b, (c, d))) = OnSelected (conditional.Compare comparison a b c)
instr_of MyCoordinate (a, (b, (c, d))) = OnSelected (conditional.MyCoordinate a b c)
instr_of MyAddress (a, (b, c)) = OnSelected (conditional.MyAddress a b)
instr_of MoveAlways (a, (b, (c, d))) = OnAll (unconditional.MoveAlways a b c)
instr_of (Flag action) (a, b) = flag_instr action a
instr_of (News news.Get) (a, (b, (c, (d, (e, f))))) = ByNews (neighbour.Get a b c d e)
instr_of (News news.Send) (a, (b, (c, (d, (e, f))))) = ByNews (neighbour.Send a b c d e)
instr_of (Scan combiner) (a, (b, (c, (d, (e, (f, (g, h))))))) = AlongLine (line.Scan combiner a b c d e f g)
instr_of CopyScan (a, (b, (c, (d, (e, (f, g)))))) = AlongLine (line.CopyScan a b c d e f)
instr_of (Spread combiner) (a, (b, (c, (d, e)))) = AlongLine (line.Spread combiner a b c d)
instr_of CopySpread (a, (b, (c, (d, (e, f))))) = AlongLine (line.CopySpread a b c d e)
instr_of (Reduce combiner) (a, (b, (c, (d, (e, f))))) = AlongLine (line.Reduce combiner a b c d e)
instr_of Get (a, (b, (c, (d, e)))) = ByMail (mail.Get a b c d)
instr_of Send (a, (b, (c, (d, (e, f))))) = ByMail (mail.Send a b c d e)
instr_of (CombiningSend combiner) (a, (b, (c, (d, (e, f))))) = ByMail (mail.CombiningSend combiner a b c d e)

unfoldable pub operands_at : Mnemonic → Place → Result Instruction ℕ
operands_at m p = all_at (expects m) p >>= λ xs. Ok (instr_of m xs)

unfoldable pub instr_at : Place → Result Instruction ℕ
instr_at p = mnemonic_at p >>= λ first. operands_at first.0 first.1

-- what a reader of the code gave is what reading gives
abbrev pub Gives : {X Y : Type 0} → (X → Y) → Result X Syntax → Result Y ℕ → Type 0
Gives view (Ok x) read = read ≡ Ok (view x)
Gives view (Err e) read = read ≡ Err e.0
