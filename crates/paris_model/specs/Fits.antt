-- When an instruction fits its set's axes and its operands' widths: the axis is there, lengths fit, operands of one bit have one, and no two stores overlap.
use Rattle.std.specs.Prelude.{◌≡◌, ℕ, ◌^◌, ◌==◌, Bool, false, true, ◌&&◌, ◌||◌, nat_lt, nat_le, List, length, Option, Some, None}
use Rattle.std.specs.List.{list_all}
use Rattle.paris_geometry.specs.Geometry.{axis_length}
use Rattle.paris_model.specs.declared.actions.Operand.{Operand}
use Rattle.paris_model.specs.declared.actions.Conditional.{Conditional}
use Rattle.paris_model.specs.declared.actions.Conditional.TheVariants.{Binary, Unary, MoveConstant, Resize, Compare, MyCoordinate, MyAddress, LoadTest, StoreTest}
use Rattle.paris_model.specs.declared.actions.Unconditional.{Unconditional}
use Rattle.paris_model.specs.declared.actions.Unconditional.TheVariants.{MoveAlways, LoadContext, AndContext, OrContext, StoreContext}
use Rattle.paris_model.specs.declared.actions.News.{News}
use Rattle.paris_model.specs.declared.actions.Line.{Line}
use Rattle.paris_model.specs.declared.actions.Line.TheVariants.{Scan, CopyScan, Spread, CopySpread, Reduce}
use Rattle.paris_model.specs.declared.actions.Mail.{Mail}
use Rattle.paris_model.specs.declared.actions.Action.{Action}
use Rattle.paris_model.specs.declared.actions.Action.TheVariants.{OnSelected, OnAll, ByNews, AlongLine, ByMail}
use Rattle.paris_model.specs.Instructions.{operands}
use Rattle.paris_names.specs.declared.limits.TheConstants.{MAX_WIDTH}

-- there is no axis of this number
abbrev pub is_bad_axis : List ℕ → ℕ → Bool
is_bad_axis axes X = nat_le (length axes) X

abbrev pub conditional_bad_axis : List ℕ → Conditional Operand ℕ → Bool
conditional_bad_axis axes (MyCoordinate D X L) = is_bad_axis axes X
conditional_bad_axis axes _ = false

abbrev pub news_axis : News Operand → ℕ
news_axis (News.Get D A X direction L) = X
news_axis (News.Send D A X direction L) = X

abbrev pub line_axis : Line Operand → ℕ
line_axis (Scan op D A X L direction _ G) = X
line_axis (CopyScan D A X L direction G) = X
line_axis (Spread op D A X L) = X
line_axis (CopySpread D A X L C) = X
line_axis (Reduce op D A X L C) = X

-- the axis isn't there
abbrev pub has_bad_axis : List ℕ → Action Operand ℕ → Bool
has_bad_axis axes (OnSelected i) = conditional_bad_axis axes i
has_bad_axis axes (OnAll i) = false
has_bad_axis axes (ByNews i) = is_bad_axis axes (news_axis i)
has_bad_axis axes (AlongLine i) = is_bad_axis axes (line_axis i)
has_bad_axis axes (ByMail i) = false

-- a length is 0, or above the width of an operand of that length
abbrev pub is_bad_length : ℕ → Operand → Bool
is_bad_length L o = (L == 0) || nat_lt o.width L

abbrev pub conditional_bad_length : Conditional Operand ℕ → Bool
conditional_bad_length (Binary op D A B L) = is_bad_length L D || (is_bad_length L A || is_bad_length L B)
conditional_bad_length (Unary op D A L) = is_bad_length L D || is_bad_length L A
conditional_bad_length (MoveConstant D K L) = is_bad_length L D
conditional_bad_length (Resize sign D A L M) = is_bad_length L D || is_bad_length M A
conditional_bad_length (Compare op A B L) = is_bad_length L A || is_bad_length L B
conditional_bad_length (MyCoordinate D X L) = is_bad_length L D
conditional_bad_length (MyAddress D L) = is_bad_length L D
conditional_bad_length _ = false

abbrev pub unconditional_bad_length : Unconditional Operand ℕ → Bool
unconditional_bad_length (MoveAlways D A L) = is_bad_length L D || is_bad_length L A
unconditional_bad_length _ = false

abbrev pub news_bad_length : News Operand → Bool
news_bad_length (News.Get D A X direction L) = is_bad_length L D || is_bad_length L A
news_bad_length (News.Send D A X direction L) = is_bad_length L D || is_bad_length L A

abbrev pub line_bad_length : Line Operand → Bool
line_bad_length (Scan op D A X L direction _ G) = is_bad_length L D || is_bad_length L A
line_bad_length (CopyScan D A X L direction G) = is_bad_length L D || is_bad_length L A
line_bad_length (Spread op D A X L) = is_bad_length L D || is_bad_length L A
line_bad_length (CopySpread D A X L C) = is_bad_length L D || is_bad_length L A
line_bad_length (Reduce op D A X L C) = is_bad_length L D || is_bad_length L A

-- the field of addresses is read at its whole width, so it has no length
abbrev pub mail_bad_length : Mail Operand → Bool
mail_bad_length (Mail.Get D B A L) = is_bad_length L D || is_bad_length L A
mail_bad_length (Mail.Send D B A L N) = is_bad_length L D || is_bad_length L A
mail_bad_length (Mail.CombiningSend op D B A L N) = is_bad_length L D || is_bad_length L A

-- some length is bad
abbrev pub has_bad_length : Action Operand ℕ → Bool
has_bad_length (OnSelected i) = conditional_bad_length i
has_bad_length (OnAll i) = unconditional_bad_length i
has_bad_length (ByNews i) = news_bad_length i
has_bad_length (AlongLine i) = line_bad_length i
has_bad_length (ByMail i) = mail_bad_length i

-- an operand of one bit is wider
abbrev pub is_wide : Operand → Bool
is_wide o = nat_lt 1 o.width

abbrev pub is_wide_if_given : Option Operand → Bool
is_wide_if_given None = false
is_wide_if_given (Some o) = is_wide o

-- a constant needs more bits than its length, or an operand of one bit is wider
abbrev pub conditional_bad_operand : Conditional Operand ℕ → Bool
conditional_bad_operand (MoveConstant D K L) = nat_le (2 ^ L) K
conditional_bad_operand (LoadTest F) = is_wide F
conditional_bad_operand (StoreTest F) = is_wide F
conditional_bad_operand _ = false

abbrev pub unconditional_bad_operand : Unconditional Operand ℕ → Bool
unconditional_bad_operand (LoadContext F) = is_wide F
unconditional_bad_operand (AndContext F) = is_wide F
unconditional_bad_operand (OrContext F) = is_wide F
unconditional_bad_operand (StoreContext F) = is_wide F
unconditional_bad_operand _ = false

-- the segment field is wider than one bit, or the coordinate is outside its axis
abbrev pub line_bad_operand : List ℕ → Line Operand → Bool
line_bad_operand axes (Scan op D A X L direction _ G) = is_wide_if_given G
line_bad_operand axes (CopyScan D A X L direction G) = is_wide_if_given G
line_bad_operand axes (Spread op D A X L) = false
line_bad_operand axes (CopySpread D A X L C) = nat_le (axis_length axes X) C
line_bad_operand axes (Reduce op D A X L C) = nat_le (axis_length axes X) C

abbrev pub mail_notify : Mail Operand → Option Operand
mail_notify (Mail.Get D B A L) = None
mail_notify (Mail.Send D B A L N) = N
mail_notify (Mail.CombiningSend op D B A L N) = N

abbrev pub has_bad_operand : List ℕ → Action Operand ℕ → Bool
has_bad_operand axes (OnSelected i) = conditional_bad_operand i
has_bad_operand axes (OnAll i) = unconditional_bad_operand i
has_bad_operand axes (ByNews i) = false
has_bad_operand axes (AlongLine i) = line_bad_operand axes i
has_bad_operand axes (ByMail i) = is_wide_if_given (mail_notify i)

abbrev pub mail_target : Mail Operand → Operand
mail_target (Mail.Get D B A L) = D
mail_target (Mail.Send D B A L N) = D
mail_target (Mail.CombiningSend op D B A L N) = D

abbrev pub is_overlap : Operand → Option Operand → Bool
is_overlap D None = false
is_overlap D (Some N) = N.field == D.field

-- the notify field is the destination
abbrev pub has_overlap : Action Operand ℕ → Bool
has_overlap (ByMail i) = is_overlap (mail_target i) (mail_notify i)
has_overlap _ = false

-- each operand is as wide as a field may be in some profile, 1 to 128 bits
abbrev pub have_field_widths : Action Operand ℕ → Bool
have_field_widths i = list_all (λ (o : Operand). nat_lt 0 o.width && nat_le o.width MAX_WIDTH) (operands i)

-- what holds of the action of each plan
pub record IsFit (axes : List ℕ) (i : Action Operand ℕ) : Type 0 where
  pub axis : has_bad_axis axes i ≡ false
  pub lengths : has_bad_length i ≡ false
  pub operands : has_bad_operand axes i ≡ false
  pub overlap : has_overlap i ≡ false
  pub widths : have_field_widths i ≡ true
