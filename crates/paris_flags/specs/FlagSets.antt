-- Sets of flags.
use Rattle.std.specs.Prelude.{ℕ, ◌==◌, Bool, List, [], ◌∷◌, drop, filter, bit_and}
use Rattle.paris_names.specs.declared.keys.FlagName.{FlagName}
use Rattle.paris_names.specs.declared.keys.FlagName.TheVariants.{Context, Test, Carry, Overflow}
use Rattle.paris_flags.specs.declared.sets.FlagSet.{FlagSet}
use Rattle.paris_flags.specs.declared.sets.FlagNames.{FlagNames}

-- the four flags, in order
abbrev pub flag_names : List FlagName
flag_names = Context ∷ Test ∷ Carry ∷ Overflow ∷ []

-- the bit of a flag
abbrev pub flag_bit : FlagName → ℕ
flag_bit Context = 1
flag_bit Test = 2
flag_bit Carry = 4
flag_bit Overflow = 8

-- whether a flag is in a set
abbrev pub has_flag : FlagSet → FlagName → Bool
has_flag flags name = bit_and flags.0 (flag_bit name) == flag_bit name

-- the flags of a set, in order
abbrev pub flags_in : FlagSet → List FlagName
flags_in flags = filter (has_flag flags) flag_names

-- the flags that an iterator has left
abbrev pub flags_left : FlagNames → List FlagName
flags_left names = filter (has_flag names.flags) (drop names.place flag_names)
