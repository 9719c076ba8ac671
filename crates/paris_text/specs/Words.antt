-- The words of a line, and what a word spells.
use Rattle.std.specs.Prelude.{ℕ, ◌+◌, ◌-◌, ◌*◌, ◌^◌, List, [], ◌∷◌, length, take, drop, Bool, ◌&&◌, ◌||◌, if◌then◌else◌, nat_le, nat_lt, nat_eq, codes, slice_index, Option, None, Some, option_map}
use Rattle.std.specs.List.{slice_split, list_all, position_or_len}
use Rattle.std.specs.Str.{bytes_eq}
use Rattle.paris_names.specs.Names.{is_name}
use Rattle.paris_names.specs.declared.names.KeyName.{KeyName}
use Rattle.paris_names.specs.declared.profiles.Profile.{Profile}
use Rattle.paris_names.specs.declared.profiles.Profile.TheVariants.{One as ProfileOne, Two as ProfileTwo}
use Rattle.paris_names.specs.declared.keys.FlagName.{FlagName}
use Rattle.paris_names.specs.declared.keys.FlagName.TheVariants.{Context, Test, Carry, Overflow}

-- a line is cut at each single space
abbrev pub words : List ℕ → List (List ℕ)
words line = slice_split (λ b. nat_eq b 32) line

abbrev pub is_digit : ℕ → Bool
is_digit b = nat_le 48 b && nat_le b 57

-- the number that digits spell after a number
abbrev pub value_from : ℕ → List ℕ → ℕ
value_from n [] = n
value_from n (b ∷ bs) = value_from (n * 10 + (b - 48)) bs

-- digits with no leading zero
unfoldable pub is_number : List ℕ → Bool
is_number w = nat_lt 0 (length w) && (list_all is_digit w && (nat_lt 48 (slice_index w 0) || nat_le (length w) 1))

-- a number below a bound
abbrev pub number_below : ℕ → List ℕ → Option ℕ
number_below bound w = if is_number w then (if nat_lt (value_from 0 w) bound then Some (value_from 0 w) else None) else None

-- a value
abbrev pub value_word : List ℕ → Option ℕ
value_word w = number_below (2 ^ 128) w

-- a number
abbrev pub number_word : List ℕ → Option ℕ
number_word w = number_below (2 ^ 64) w

abbrev pub name_word : List ℕ → Option (List ℕ)
name_word w = if is_name w then Some w else None

abbrev pub flag_word : List ℕ → Option FlagName
flag_word w =
    if bytes_eq w (codes "context") then Some Context
    else if bytes_eq w (codes "test") then Some Test
    else if bytes_eq w (codes "carry") then Some Carry
    else if bytes_eq w (codes "overflow") then Some Overflow
    else None

-- how many bytes stand before the first dot
abbrev pub dot_place : List ℕ → ℕ
dot_place w = position_or_len (λ b. nat_eq b 46) w

abbrev pub plain_key : Option (List ℕ) → Option KeyName
plain_key None = None
plain_key (Some name) = Some (record { name = name; flag = None })

abbrev pub flag_key : Option (List ℕ) → Option FlagName → Option KeyName
flag_key None flag = None
flag_key (Some name) None = None
flag_key (Some name) (Some flag) = Some (record { name = name; flag = Some flag })

-- a profile, by its number
abbrev pub profile_word : List ℕ → Option Profile
profile_word w =
    if bytes_eq w (codes "1") then Some ProfileOne
    else if bytes_eq w (codes "2") then Some ProfileTwo
    else None

-- a name, or a name with a dot and a flag after it
abbrev pub key_word : List ℕ → Option KeyName
key_word w =
    if nat_eq (dot_place w) (length w) then plain_key (name_word w)
    else flag_key (name_word (take (dot_place w) w)) (flag_word (drop (dot_place w + 1) w))

abbrev pub with_first : Option ℕ → Option (List ℕ) → Option (List ℕ)
with_first None ns = None
with_first (Some n) ns = option_map (λ rest. n ∷ rest) ns

-- the numbers that words spell, one by one
abbrev pub numbers_of_words : List (List ℕ) → Option (List ℕ)
numbers_of_words [] = Some []
numbers_of_words (w ∷ ws) = with_first (number_word w) (numbers_of_words ws)

-- numbers joined by `x`
abbrev pub axes_word : List ℕ → Option (List ℕ)
axes_word w = numbers_of_words (slice_split (λ b. nat_eq b 120) w)
