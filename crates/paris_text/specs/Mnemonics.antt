-- The first words of instructions, and the instruction that a first word is of.
use Rattle.std.specs.Prelude.{ℕ, List, ◌++◌, Option, codes, find}
use Rattle.std.specs.Str.{bytes_eq}
use Rattle.paris_model.specs.declared.operators.Sign.TheVariants.{Unsigned, Signed}
use Rattle.paris_model.specs.declared.operators.BinaryOperator.{BinaryOperator}
use Rattle.paris_model.specs.declared.operators.BinaryOperator.TheVariants as binary
use Rattle.paris_model.specs.declared.operators.UnaryOperator.{UnaryOperator}
use Rattle.paris_model.specs.declared.operators.UnaryOperator.TheVariants.{Negate, BitNot, Move}
use Rattle.paris_model.specs.declared.operators.Comparison.{Comparison}
use Rattle.paris_model.specs.declared.operators.Comparison.TheVariants.{Equal, NotEqual, Less, LessOrEqual, Greater, GreaterOrEqual}
use Rattle.paris_model.specs.declared.operators.Combiner.{Combiner}
use Rattle.paris_model.specs.declared.operators.Combiner.TheVariants.{Sum, BitOr, BitAnd, BitXor, Maximum, Minimum}
use Rattle.paris_text.specs.declared.mnemonics.FlagAction.{FlagAction}
use Rattle.paris_text.specs.declared.mnemonics.FlagAction.TheVariants.{SetTest, ClearTest, LoadTest, StoreTest, SetContext, ClearContext, InvertContext, LoadContext, AndContext, OrContext, AndContextWithTest, StoreContext}
use Rattle.paris_text.specs.declared.mnemonics.NewsMove.TheVariants as news
use Rattle.paris_text.specs.declared.mnemonics.Mnemonic.{Mnemonic}
use Rattle.paris_text.specs.declared.mnemonics.Mnemonic.TheVariants.{Binary, Unary, MoveConstant, Resize, Compare, MyCoordinate, MyAddress, MoveAlways, Flag, News, Scan, CopyScan, Spread, CopySpread, Reduce, Get, Send, CombiningSend}
use Rattle.paris_text.specs.declared.mnemonics.TheConstants.{MNEMONICS}

abbrev pub binary_text : BinaryOperator → List ℕ
binary_text binary.UnsignedAdd = codes "u-add-3-1L"
binary_text binary.UnsignedAddCarry = codes "u-add-carry-3-1L"
binary_text binary.UnsignedSubtract = codes "u-subtract-3-1L"
binary_text binary.SignedAdd = codes "s-add-3-1L"
binary_text binary.SignedSubtract = codes "s-subtract-3-1L"
binary_text binary.UnsignedMultiply = codes "u-multiply-3-1L"
binary_text binary.SignedMultiply = codes "s-multiply-3-1L"
binary_text binary.Truncate = codes "u-truncate-3-1L"
binary_text binary.Remainder = codes "u-rem-3-1L"
binary_text (binary.Maximum Unsigned) = codes "u-max-3-1L"
binary_text (binary.Maximum Signed) = codes "s-max-3-1L"
binary_text (binary.Minimum Unsigned) = codes "u-min-3-1L"
binary_text (binary.Minimum Signed) = codes "s-min-3-1L"
binary_text binary.BitAnd = codes "logand-3-1L"
binary_text binary.BitOr = codes "logior-3-1L"
binary_text binary.BitXor = codes "logxor-3-1L"

abbrev pub unary_text : UnaryOperator → List ℕ
unary_text Negate = codes "s-negate-2-1L"
unary_text BitNot = codes "lognot-2-1L"
unary_text Move = codes "u-move-1L"

abbrev pub comparison_text : Comparison → List ℕ
comparison_text Equal = codes "u-eq-1L"
comparison_text NotEqual = codes "u-ne-1L"
comparison_text (Less Unsigned) = codes "u-lt-1L"
comparison_text (Less Signed) = codes "s-lt-1L"
comparison_text (LessOrEqual Unsigned) = codes "u-le-1L"
comparison_text (LessOrEqual Signed) = codes "s-le-1L"
comparison_text (Greater Unsigned) = codes "u-gt-1L"
comparison_text (Greater Signed) = codes "s-gt-1L"
comparison_text (GreaterOrEqual Unsigned) = codes "u-ge-1L"
comparison_text (GreaterOrEqual Signed) = codes "s-ge-1L"

abbrev pub flag_text : FlagAction → List ℕ
flag_text SetTest = codes "set-test"
flag_text ClearTest = codes "clear-test"
flag_text LoadTest = codes "load-test"
flag_text StoreTest = codes "store-test"
flag_text SetContext = codes "set-context"
flag_text ClearContext = codes "clear-context"
flag_text InvertContext = codes "invert-context"
flag_text LoadContext = codes "load-context"
flag_text AndContext = codes "logand-context"
flag_text OrContext = codes "logior-context"
flag_text AndContextWithTest = codes "logand-context-with-test"
flag_text StoreContext = codes "store-context"

-- a combiner within a first word
abbrev pub combiner_text : Combiner → List ℕ
combiner_text Sum = codes "u-add"
combiner_text BitOr = codes "logior"
combiner_text BitAnd = codes "logand"
combiner_text BitXor = codes "logxor"
combiner_text Maximum = codes "u-max"
combiner_text Minimum = codes "u-min"

abbrev pub scan_text : Combiner → List ℕ
scan_text c = codes "scan-with-" ++ combiner_text c ++ codes "-1L"

abbrev pub spread_text : Combiner → List ℕ
spread_text c = codes "spread-with-" ++ combiner_text c ++ codes "-1L"

abbrev pub reduce_text : Combiner → List ℕ
reduce_text c = codes "reduce-with-" ++ combiner_text c ++ codes "-1L"

abbrev pub send_text : Combiner → List ℕ
send_text c = codes "send-with-" ++ combiner_text c ++ codes "-1L"

-- the first word of each instruction
unfoldable pub text : Mnemonic → List ℕ
text (Binary operator) = binary_text operator
text (Unary operator) = unary_text operator
text MoveConstant = codes "u-move-constant-1L"
text (Resize Unsigned) = codes "u-move-2L"
text (Resize Signed) = codes "s-move-2L"
text (Compare comparison) = comparison_text comparison
text MyCoordinate = codes "my-news-coordinate-1L"
text MyAddress = codes "my-send-address-1L"
text MoveAlways = codes "u-move-always-1L"
text (Flag action) = flag_text action
text (News news.Get) = codes "get-from-news-1L"
text (News news.Send) = codes "send-to-news-1L"
text (Scan combiner) = scan_text combiner
text CopyScan = codes "scan-with-copy-1L"
text (Spread combiner) = spread_text combiner
text CopySpread = codes "spread-with-copy-1L"
text (Reduce combiner) = reduce_text combiner
text Get = codes "get-1L"
text Send = codes "send-1L"
text (CombiningSend combiner) = send_text combiner

-- the mnemonic that a word is, if it is one
unfoldable pub mnemonic_word : List ℕ → Option Mnemonic
mnemonic_word w = find (λ m. bytes_eq (text m) w) MNEMONICS
