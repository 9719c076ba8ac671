-- Flags that are bits.
use Rattle.std.proofs.Common.{◌≡◌, ℕ, zero, suc, ◌<◌, Bool, true, false, cond, List, [], ◌∷◌, slice_index, drop, drop_of_length-le, length, ◌≤◌, ap, ◌∙◌, refl, arith}
use Rattle.std.proofs.lemmas.Bool.{and_parts}
use Rattle.paris_names.specs.declared.keys.FlagName.{FlagName}
use Rattle.paris_names.specs.declared.keys.Key.{Key}
use Rattle.paris_names.specs.declared.keys.Key.TheVariants.{Field, Flag}
use Rattle.paris_names.specs.Keys.{key_eq}
use Rattle.paris_model.specs.Instructions.{value_at}
use Rattle.paris_plain.specs.Plain.{are_bits, flags_are_bits}

-- a number of a list of bits is below 2
bits_below : (numbers : List ℕ) (v : ℕ) → are_bits numbers ≡ true → slice_index numbers v < 2
bits_below [] v h = grind arith
bits_below (n ∷ ns) zero h = grind arith
bits_below (n ∷ ns) (suc v) h = bits_below ns v (and_parts _ _ h).1

-- and so is each number at a flag
pub flag_below : (keys : List Key) (values : List (List ℕ)) (s : ℕ) (flag : FlagName) (v : ℕ) → flags_are_bits keys values ≡ true → slice_index (value_at keys values (Flag s flag)) v < 2
flag_below [] values s flag v h = grind arith
flag_below (k ∷ ks) [] s flag v h = grind arith
flag_below (Field f ∷ ks) (x ∷ xs) s flag v h = flag_below ks xs s flag v h
flag_below (Flag t other ∷ ks) (x ∷ xs) s flag v h =
    let parts = and_parts (are_bits x) (flags_are_bits ks xs) h in
    by_test (key_eq (Flag s flag) (Flag t other)) (bits_below x v parts.0) (flag_below ks xs s flag v parts.1)
  where
    by_test : (b : Bool) → slice_index x v < 2 → slice_index (value_at ks xs (Flag s flag)) v < 2 → slice_index (cond b x (value_at ks xs (Flag s flag))) v < 2
    by_test true here later = here
    by_test false here later = later

-- past the lists all is well
pub flags_past : (ks : List Key) (xs : List (List ℕ)) (i : ℕ) → length xs ≤ i → flags_are_bits (drop i ks) (drop i xs) ≡ true
flags_past ks xs i h = ap (flags_are_bits (drop i ks)) (drop_of_length-le xs h) ∙ none_beside (drop i ks)
  where
    none_beside : (ks : List Key) → flags_are_bits ks [] ≡ true
    none_beside [] = refl
    none_beside (k ∷ ks) = refl
