-- The kinds of the words behind a first word: what a word of a kind stands for, and how that is spelled.
use Rattle.std.specs.Prelude.{◌≡◌, ◌≢◌, ℕ, ◌^◌, ◌<◌, List, [], ◌∷◌, ◌++◌, map, true, Option, None, Some, codes, if◌then◌else◌}
use Rattle.std.specs.Str.{bytes_eq}
use Rattle.std.specs.Fmt.{decimal}
use Rattle.std.specs.List.{join_with_byte, AllByRecursion}
use Rattle.paris_names.specs.Names.{is_name}
use Rattle.paris_names.specs.declared.names.KeyName.{KeyName}
use Rattle.paris_names.specs.declared.profiles.Profile.{Profile}
use Rattle.paris_names.specs.declared.profiles.Profile.TheVariants.{One as ProfileOne, Two as ProfileTwo}
use Rattle.paris_names.specs.declared.keys.FlagName.{FlagName}
use Rattle.paris_names.specs.declared.keys.FlagName.TheVariants.{Context, Test, Carry, Overflow}
use Rattle.paris_geometry.specs.declared.direction.Direction.{Direction}
use Rattle.paris_geometry.specs.declared.direction.Direction.TheVariants.{Upward, Downward}
use Rattle.paris_model.specs.declared.operators.Inclusion.{Inclusion}
use Rattle.paris_model.specs.declared.operators.Inclusion.TheVariants.{Inclusive, Exclusive}
use Rattle.paris_text.specs.Words.{name_word, number_word, value_word, key_word, axes_word, profile_word}

pub data Kind : Type 0 where
  -- a name
  NameWord : Kind
  -- a number below 2^64
  NumberWord : Kind
  -- a number below 2^128
  ValueWord : Kind
  -- a direction
  DirectionWord : Kind
  -- whether a scan is inclusive
  InclusionWord : Kind
  -- a name, or the word `none`
  OptionWord : Kind
  -- a name, or a name with a flag behind a dot
  KeyWord : Kind
  -- the lengths of axes, one or more
  AxesWord : Kind
  -- the number of a profile
  ProfileWord : Kind

-- what words of a kind stand for
abbrev pub Meaning : Kind → Type 0
Meaning NameWord = List ℕ
Meaning NumberWord = ℕ
Meaning ValueWord = ℕ
Meaning DirectionWord = Direction
Meaning InclusionWord = Inclusion
Meaning OptionWord = Option (List ℕ)
Meaning KeyWord = KeyName
Meaning AxesWord = List ℕ
Meaning ProfileWord = Profile

abbrev pub direction_text : Direction → List ℕ
direction_text Upward = codes "upward"
direction_text Downward = codes "downward"

abbrev pub inclusion_text : Inclusion → List ℕ
inclusion_text Inclusive = codes "inclusive"
inclusion_text Exclusive = codes "exclusive"

abbrev pub option_text : Option (List ℕ) → List ℕ
option_text None = codes "none"
option_text (Some name) = name

abbrev pub flag_name_text : FlagName → List ℕ
flag_name_text Context = codes "context"
flag_name_text Test = codes "test"
flag_name_text Carry = codes "carry"
flag_name_text Overflow = codes "overflow"

-- a flag behind its dot
abbrev pub dotted : Option FlagName → List ℕ
dotted None = []
dotted (Some flag) = 46 ∷ flag_name_text flag

abbrev pub key_text : KeyName → List ℕ
key_text key = key.name ++ dotted key.flag

-- the numbers with one `x` between each two
abbrev pub axes_text : List ℕ → List ℕ
axes_text axes = join_with_byte 120 (map decimal axes)

abbrev pub profile_text : Profile → List ℕ
profile_text ProfileOne = codes "1"
profile_text ProfileTwo = codes "2"

-- how it is spelled
abbrev pub spelled : (k : Kind) → Meaning k → List ℕ
spelled NameWord name = name
spelled NumberWord number = decimal number
spelled ValueWord value = decimal value
spelled DirectionWord direction = direction_text direction
spelled InclusionWord inclusion = inclusion_text inclusion
spelled OptionWord option = option_text option
spelled KeyWord key = key_text key
spelled AxesWord axes = axes_text axes
spelled ProfileWord profile = profile_text profile

abbrev pub IsOptionalName : Option (List ℕ) → Type 0
IsOptionalName None = Unit {0}
IsOptionalName (Some name) = is_name name ≡ true

-- that it is within the bounds of its kind
abbrev pub Fits : (k : Kind) → Meaning k → Type 0
Fits NameWord name = is_name name ≡ true
Fits NumberWord number = number < 2 ^ 64
Fits ValueWord value = value < 2 ^ 128
Fits DirectionWord direction = Unit {0}
Fits InclusionWord inclusion = Unit {0}
Fits OptionWord option = IsOptionalName option
Fits KeyWord key = is_name key.name ≡ true
Fits AxesWord axes = (axes ≢ []) × AllByRecursion (λ n. n < 2 ^ 64) axes
Fits ProfileWord profile = Unit {0}

abbrev pub direction_word : List ℕ → Option Direction
direction_word w = if bytes_eq w (codes "upward") then Some Upward else if bytes_eq w (codes "downward") then Some Downward else None

abbrev pub inclusion_word : List ℕ → Option Inclusion
inclusion_word w = if bytes_eq w (codes "inclusive") then Some Inclusive else if bytes_eq w (codes "exclusive") then Some Exclusive else None

abbrev pub option_word : List ℕ → Option (Option (List ℕ))
option_word w = if bytes_eq w (codes "none") then Some None else if is_name w then Some (Some w) else None

-- what a word stands for, if it is of the kind
abbrev pub meaning : (k : Kind) → List ℕ → Option (Meaning k)
meaning NameWord w = name_word w
meaning NumberWord w = number_word w
meaning ValueWord w = value_word w
meaning DirectionWord w = direction_word w
meaning InclusionWord w = inclusion_word w
meaning OptionWord w = option_word w
meaning KeyWord w = key_word w
meaning AxesWord w = axes_word w
meaning ProfileWord w = profile_word w

-- an operand of an instruction, with its kind
abbrev pub Operand : Type 0
Operand = (k : Kind) × Meaning k

abbrev pub name : List ℕ → Operand
name n = (NameWord, n)

abbrev pub number : ℕ → Operand
number n = (NumberWord, n)

abbrev pub value : ℕ → Operand
value n = (ValueWord, n)

abbrev pub direction : Direction → Operand
direction d = (DirectionWord, d)

abbrev pub inclusion : Inclusion → Operand
inclusion i = (InclusionWord, i)

abbrev pub optional : Option (List ℕ) → Operand
optional n = (OptionWord, n)
