-- Keys: their equality, their order, and a number of its own for each.
use Rattle.std.specs.Prelude.{ℕ, ◌+◌, ◌*◌, Bool, true, false, ◌&&◌, ◌==◌, nat_lt, List, [], ◌∷◌, if◌then◌else◌, fold}
use Rattle.std.specs.List.{list_any}
use Rattle.paris_names.specs.declared.keys.FlagName.{FlagName}
use Rattle.paris_names.specs.declared.keys.FlagName.TheVariants.{Context, Test, Carry, Overflow}
use Rattle.paris_names.specs.declared.keys.Key.{Key}
use Rattle.paris_names.specs.declared.keys.Key.TheVariants.{Field, Flag}

-- the place of a flag in the order context, test, carry, overflow
abbrev pub flag_place : FlagName → ℕ
flag_place Context = 0
flag_place Test = 1
flag_place Carry = 2
flag_place Overflow = 3

-- whether both are the same key
abbrev pub key_eq : Key → Key → Bool
key_eq (Field f) (Field g) = f == g
key_eq (Flag s a) (Flag t b) = (s == t) && (flag_place a == flag_place b)
key_eq _ _ = false

-- whether a key comes before another: fields by number, then flags in their order
abbrev pub key_before : Key → Key → Bool
key_before (Field f) (Field g) = nat_lt f g
key_before (Field f) (Flag t b) = true
key_before (Flag s a) (Field g) = false
key_before (Flag s a) (Flag t b) = nat_lt (flag_place a) (flag_place b)

-- whether a key is among keys
abbrev pub has_key : List Key → Key → Bool
has_key keys k = list_any (key_eq k) keys

-- the key put into a list in order, unless it is there
abbrev pub with_key : Key → List Key → List Key
with_key k [] = k ∷ []
with_key k (j ∷ js) = if key_eq k j then j ∷ js else if key_before k j then k ∷ j ∷ js else j ∷ with_key k js

-- the keys in order, each once
abbrev pub in_order : List Key → List Key
in_order keys = fold (λ done k. with_key k done) [] keys

-- a number that no other key has
abbrev pub key_slot : Key → ℕ
key_slot (Field f) = 2 * f
key_slot (Flag s a) = 8 * s + 2 * flag_place a + 1
