-- The declared sets and fields, each in the order of its declaration.
use Rattle.std.specs.Prelude.{ℕ, ◌<◌, ◌≤◌, ◌==◌, Bool, ◌||◌, nat_lt, nat_le, List, [], ◌∷◌, ◌++◌, length, position, slice_index_or, Option, Some, None, is_some, is_none, option_map, if◌then◌else◌}
use Rattle.std.specs.Str.{bytes_eq}
use Rattle.paris_names.specs.declared.faults.Fault.{Fault}
use Rattle.paris_names.specs.declared.faults.Fault.TheVariants.{SetsFull, NameTaken, NoSet, FieldsFull, BadWidth}
use Rattle.paris_names.specs.declared.keys.FlagName.{FlagName}
use Rattle.paris_names.specs.declared.keys.Key.{Key}
use Rattle.paris_names.specs.declared.keys.Key.TheVariants.{Field, Flag}
use Rattle.paris_names.specs.declared.names.KeyName.{KeyName}
use Rattle.paris_geometry.specs.Geometry.{processor_count}
use Rattle.paris_names.specs.declared.profiles.Profile.{Profile}
use Rattle.paris_names.specs.Profiles.{max_width}
use Rattle.paris_names.specs.declared.limits.TheConstants.{MAX_FIELDS, MAX_SETS}

pub record DeclaredSet : Type 0 where
  pub name : List ℕ
  pub axes : List ℕ

pub record DeclaredField : Type 0 where
  pub name : List ℕ
  pub set_no : ℕ
  pub width : ℕ

-- the profile says how wide a field may be
pub record Board : Type 0 where
  pub profile : Profile
  pub sets : List DeclaredSet
  pub fields : List DeclaredField

abbrev pub empty_board : Profile → Board
empty_board profile = record { profile = profile; sets = []; fields = [] }

-- the set of this name, and the field of this name
abbrev pub set_named : Board → List ℕ → Option ℕ
set_named b name = position (λ (s : DeclaredSet). bytes_eq s.name name) b.sets

abbrev pub field_named : Board → List ℕ → Option ℕ
field_named b name = position (λ (f : DeclaredField). bytes_eq f.name name) b.fields

-- the key of a field's name, or of a set's name with a flag
abbrev pub key_named : Board → KeyName → Option Key
key_named b k = key_by k.flag
  where
    key_by : Option FlagName → Option Key
    key_by None = option_map Field (field_named b k.name)
    key_by (Some flag) = option_map (λ s. Flag s flag) (set_named b k.name)

-- whether a set or a field has this name
abbrev pub is_taken : Board → List ℕ → Bool
is_taken b name = is_some (set_named b name) || is_some (field_named b name)

abbrev pub axes_of : Board → ℕ → List ℕ
axes_of b s = (slice_index_or b.sets s (record { name = []; axes = [] })).axes

abbrev pub declaration_at : Board → ℕ → DeclaredField
declaration_at b f = slice_index_or b.fields f (record { name = []; set_no = 0; width = 0 })

abbrev pub is_declared : Board → Key → Bool
is_declared b (Field f) = nat_lt f (length b.fields)
is_declared b (Flag s flag) = nat_lt s (length b.sets)

-- the set of a key, and its width in bits: a flag is one bit wide
abbrev pub set_of_key : Board → Key → ℕ
set_of_key b (Field f) = (declaration_at b f).set_no
set_of_key b (Flag s flag) = s

abbrev pub width_of : Board → Key → ℕ
width_of b (Field f) = (declaration_at b f).width
width_of b (Flag s flag) = 1

-- how many processors the set of a key has
abbrev pub count_of : Board → Key → ℕ
count_of b k = processor_count (axes_of b (set_of_key b k))

-- why a set of this name can't be declared, if it can't
abbrev pub set_fault : Board → List ℕ → Option Fault
set_fault b name =
    if is_taken b name then Some NameTaken
    else if nat_le MAX_SETS (length b.sets) then Some SetsFull
    else None

-- why a field of this name and width can't be declared in the set of that name, if it can't
abbrev pub field_fault : Board → List ℕ → List ℕ → ℕ → Option Fault
field_fault b name set width =
    if is_none (set_named b set) then Some NoSet
    else if is_taken b name then Some NameTaken
    else if nat_le MAX_FIELDS (length b.fields) then Some FieldsFull
    else if (width == 0) || nat_lt (max_width b.profile) width then Some BadWidth
    else None

abbrev pub with_set : Board → List ℕ → List ℕ → Board
with_set b name axes = record b { sets = b.sets ++ record { name = name; axes = axes } ∷ [] }

abbrev pub with_field : Board → List ℕ → ℕ → ℕ → Board
with_field b name set_no width = record b { fields = b.fields ++ record { name = name; set_no = set_no; width = width } ∷ [] }

-- each field is of a declared set, and from 1 bit to the widest wide
abbrev pub AreFields : ℕ → ℕ → List DeclaredField → Type 0
AreFields widest sets [] = Unit {0}
AreFields widest sets (f ∷ fs) = (f.set_no < sets) × (0 < f.width) × (f.width ≤ widest) × AreFields widest sets fs

abbrev pub IsBoard : Board → Type 0
IsBoard b = AreFields (max_width b.profile) (length b.sets) b.fields
