-- What a word of a kind stands for is spelled so, and what is spelled so is read back.
use Rattle.std.proofs.Common.{◌≡◌, ℕ, ◌+◌, ◌-◌, ◌*◌, ◌/◌, ◌%◌, ◌^◌, ◌<◌, ◌≤◌, List, [], ◌∷◌, ◌++◌, length, Option, None, Some, true, false, refl, sym, ap, ◌∙◌, arith, codes, if◌then◌else◌, nat_lt, get_or, length-append, zero, suc, take, drop, add-one, drop-cons, append-nil, eq-eqb}
use Rattle.std.specs.Prelude.{Bool, nat_eq, not, ◌&&◌, IfSome, slice_index, is_some, map}
use Rattle.std.specs.List.{list_all, slice_split, join_with_byte, AllByRecursion}
use Rattle.std.specs.Str.{bytes_eq}
use Rattle.std.specs.Fmt.{decimal}
use Rattle.std.proofs.lemmas.Fmt.{decimal_digit, decimal_by_steps_wide}
use Rattle.std.proofs.lemmas.Bool.{ltb-true, lt-ltb}
use Rattle.std.proofs.lemmas.Bool.Decides.{nat_tests}
use Rattle.std.proofs.lemmas.List.{take-append-drop, take_at, drop_at, drop-drop}
use Rattle.std.proofs.lemmas.List.Folds.{list_all-append}
use Rattle.std.proofs.lemmas.List.Sums.{prefix_len-le-length, passes_at_first}
use Rattle.std.proofs.lemmas.List.Splits.{length-slice_split, join_with_byte-slice_split}
use Rattle.std.proofs.lemmas.Slice.Eq.{bytes_eq-Decides}
use Rattle.std.proofs.Math.ListN.{get_or-append}
use Rattle.paris_names.specs.Names.{is_name, is_name_byte}
use Rattle.paris_names.specs.declared.names.KeyName.{KeyName}
use Rattle.paris_names.specs.declared.profiles.Profile.{Profile}
use Rattle.paris_names.specs.declared.profiles.Profile.TheVariants.{One as ProfileOne, Two as ProfileTwo}
use Rattle.paris_names.specs.declared.keys.FlagName.{FlagName}
use Rattle.paris_names.specs.declared.keys.FlagName.TheVariants.{Context, Test, Carry, Overflow}
use Rattle.paris_geometry.specs.declared.direction.Direction.{Direction}
use Rattle.paris_geometry.specs.declared.direction.Direction.TheVariants.{Upward, Downward}
use Rattle.paris_model.specs.declared.operators.Inclusion.{Inclusion}
use Rattle.paris_model.specs.declared.operators.Inclusion.TheVariants.{Inclusive, Exclusive}
use Rattle.paris_text.specs.Words.{is_digit, is_number, value_from, number_below, name_word, number_word, flag_word, dot_place, plain_key, flag_key, key_word, with_first, numbers_of_words, axes_word, profile_word}
use Rattle.paris_text.specs.Kinds.{Kind, Meaning, meaning, spelled, Fits, direction_word, inclusion_word, option_word, flag_name_text, dotted, key_text, axes_text}
use Rattle.paris_text.specs.Kinds.Kind.{NameWord, NumberWord, ValueWord, DirectionWord, InclusionWord, OptionWord, KeyWord, AxesWord, ProfileWord}
use Rattle.paris_text.proofs.NumberLemmas.{spelled_back}
use Rattle.paris_text.proofs.JoinLemmas.{is_without, and_parts, split_joined, joined_without}
use Rattle.paris_text.proofs.MnemonicLemmas.{is_spaceless}

-- a word that stands for something spells it, within its bounds
abbrev pub SpellsIt : (k : Kind) → List ℕ → Option (Meaning k) → Type 0
SpellsIt k w o = IfSome o (λ x. (spelled k x ≡ w) × Fits k x)

number_spells : (bound : ℕ) → bound ≤ 10 ^ 64 → (w : List ℕ) → IfSome (number_below bound w) (λ n. (decimal n ≡ w) × (n < bound))
number_spells bound small w = go (is_number w) refl (nat_lt (value_from 0 w) bound) refl
  where
    go : (b : Bool) → is_number w ≡ b → (t : Bool) → nat_lt (value_from 0 w) bound ≡ t
        → IfSome (if b then (if t then Some (value_from 0 w) else None) else None) (λ n. (decimal n ≡ w) × (n < bound))
    go false e t f = tt
    go true e false f = tt
    go true e true f =
        let lt : value_from 0 w < bound = ltb-true (value_from 0 w) bound f in
        (spelled_back w e (omega arith), lt)

name_spells : (w : List ℕ) → SpellsIt NameWord w (name_word w)
name_spells w = go (is_name w) refl
  where
    go : (b : Bool) → is_name w ≡ b → SpellsIt NameWord w (if b then Some w else None)
    go false e = tt
    go true e = (refl, e)

chosen : {X : Type 0} (w t : List ℕ) (x : X) (rest : Option X) (P : Option X → Type 0) → (w ≡ t → P (Some x)) → P rest → P (if bytes_eq w t then Some x else rest)
chosen {X = X} w t x rest P here there = go (bytes_eq w t) (bytes_eq-Decides w t).0
  where
    go : (b : Bool) → (b ≡ true → w ≡ t) → P (if b then Some x else rest)
    go true h = here (h refl)
    go false h = there

direction_spells : (w : List ℕ) → SpellsIt DirectionWord w (direction_word w)
direction_spells w =
    let P : Option Direction → Type 0 = λ o. SpellsIt DirectionWord w o in
    chosen w (codes "upward") Upward _ P (λ e. (sym e, tt)) (chosen w (codes "downward") Downward None P (λ e. (sym e, tt)) tt)

inclusion_spells : (w : List ℕ) → SpellsIt InclusionWord w (inclusion_word w)
inclusion_spells w =
    let P : Option Inclusion → Type 0 = λ o. SpellsIt InclusionWord w o in
    chosen w (codes "inclusive") Inclusive _ P (λ e. (sym e, tt)) (chosen w (codes "exclusive") Exclusive None P (λ e. (sym e, tt)) tt)

profile_spells : (w : List ℕ) → SpellsIt ProfileWord w (profile_word w)
profile_spells w =
    let P : Option Profile → Type 0 = λ o. SpellsIt ProfileWord w o in
    chosen w (codes "1") ProfileOne _ P (λ e. (sym e, tt)) (chosen w (codes "2") ProfileTwo None P (λ e. (sym e, tt)) tt)

option_spells : (w : List ℕ) → SpellsIt OptionWord w (option_word w)
option_spells w =
    let P : Option (Option (List ℕ)) → Type 0 = λ o. SpellsIt OptionWord w o in
    chosen w (codes "none") None _ P (λ e. (sym e, tt)) (go (is_name w) refl)
  where
    go : (b : Bool) → is_name w ≡ b → SpellsIt OptionWord w (if b then Some (Some w) else None)
    go false e = tt
    go true e = (refl, e)

flag_spells : (w : List ℕ) → IfSome (flag_word w) (λ flag. flag_name_text flag ≡ w)
flag_spells w =
    let P : Option FlagName → Type 0 = λ o. IfSome o (λ flag. flag_name_text flag ≡ w) in
    chosen w (codes "context") Context _ P (λ e. sym e)
    (chosen w (codes "test") Test _ P (λ e. sym e) (chosen w (codes "carry") Carry _ P (λ e. sym e) (chosen w (codes "overflow") Overflow None P (λ e. sym e) tt)))

-- a name and a flag, with a dot between them
flagged_spells : (w name flag : List ℕ) → name ++ 46 ∷ flag ≡ w → SpellsIt KeyWord w (flag_key (name_word name) (flag_word flag))
flagged_spells w name flag whole = go (is_name name) refl (flag_word flag) (flag_spells flag)
  where
    go : (b : Bool) → is_name name ≡ b → (o : Option FlagName) → IfSome o (λ f. flag_name_text f ≡ flag) → SpellsIt KeyWord w (flag_key (if b then Some name else None) o)
    go false e o h = tt
    go true e None h = tt
    go true e (Some f) h = (ap (λ (t : List ℕ). name ++ 46 ∷ t) h ∙ whole, e)

plain_spells : (w : List ℕ) → SpellsIt KeyWord w (plain_key (name_word w))
plain_spells w = go (is_name w) refl
  where
    go : (b : Bool) → is_name w ≡ b → SpellsIt KeyWord w (plain_key (if b then Some w else None))
    go false e = tt
    go true e = (append-nil w, e)

-- a list that holds a dot is what stands before the first one, the dot, and what stands behind it
cut_at_dot : (w : List ℕ) → nat_eq (dot_place w) (length w) ≡ false → take (dot_place w) w ++ 46 ∷ drop (dot_place w + 1) w ≡ w
cut_at_dot w other =
    let at = dot_place w in
    let within : at ≤ length w = prefix_len-le-length (λ b. not (nat_eq b 46)) w in
    let below : at < length w = grind (arith, nat_tests) in
    let dot : nat_eq (get_or w at 0) 46 ≡ true = passes_at_first (λ b. nat_eq b 46) w 0 below in
    let is : get_or w at 0 ≡ 46 = grind (arith, nat_tests) in
    let rest : drop at w ≡ get_or w at 0 ∷ drop (at + 1) w = rw add-one (drop-cons w at 0 below) in
    ap (λ (b : ℕ). take at w ++ b ∷ drop (at + 1) w) (sym is) ∙ ap (λ (l : List ℕ). take at w ++ l) (sym rest) ∙ take-append-drop at w

key_spells : (w : List ℕ) → SpellsIt KeyWord w (key_word w)
key_spells w = go (nat_eq (dot_place w) (length w)) refl
  where
    go : (b : Bool) → nat_eq (dot_place w) (length w) ≡ b
        → SpellsIt KeyWord w (if b then plain_key (name_word w) else flag_key (name_word (take (dot_place w) w)) (flag_word (drop (dot_place w + 1) w)))
    go true e = plain_spells w
    go false e = flagged_spells w (take (dot_place w) w) (drop (dot_place w + 1) w) (cut_at_dot w e)

-- numbers that words spell
abbrev SpellNumbers : List (List ℕ) → List ℕ → Type 0
SpellNumbers ws ns = (map decimal ns ≡ ws) × AllByRecursion (λ n. n < 2 ^ 64) ns

numbers_spell : (ws : List (List ℕ)) → IfSome (numbers_of_words ws) (SpellNumbers ws)
numbers_spell [] = (refl, tt)
numbers_spell (w ∷ ws) = go (number_word w) (number_spells (2 ^ 64) (omega arith) w) (numbers_of_words ws) (numbers_spell ws)
  where
    go : (o : Option ℕ) → IfSome o (λ n. (decimal n ≡ w) × (n < 2 ^ 64)) → (os : Option (List ℕ)) → IfSome os (SpellNumbers ws) → IfSome (with_first o os) (SpellNumbers (w ∷ ws))
    go None h os later = tt
    go (Some n) h None later = tt
    go (Some n) h (Some ns) later = ((let a = h.0 in let b = later.0 in cc), (h.1, later.1))

-- a cut list has a part
parts_some : (w : List ℕ) → slice_split (λ b. nat_eq b 120) w ≡ [] → ⊥
parts_some w none = omega (arith, length-slice_split (λ b. nat_eq b 120) w, ap length none)

axes_spells : (w : List ℕ) → SpellsIt AxesWord w (axes_word w)
axes_spells w = go (axes_word w) (numbers_spell (slice_split (λ b. nat_eq b 120) w))
  where
    go : (o : Option (List ℕ)) → IfSome o (SpellNumbers (slice_split (λ b. nat_eq b 120) w)) → SpellsIt AxesWord w o
    go None h = tt
    go (Some ns) h =
        (ap (join_with_byte 120) h.0 ∙ join_with_byte-slice_split 120 w, ((λ e. parts_some w (sym h.0 ∙ ap (map decimal) e)), h.1))

pub meaning_spells : (k : Kind) (w : List ℕ) → SpellsIt k w (meaning k w)
meaning_spells NameWord w = name_spells w
meaning_spells NumberWord w = number_spells (2 ^ 64) (omega arith) w
meaning_spells ValueWord w = number_spells (2 ^ 128) (omega arith) w
meaning_spells DirectionWord w = direction_spells w
meaning_spells InclusionWord w = inclusion_spells w
meaning_spells OptionWord w = option_spells w
meaning_spells KeyWord w = key_spells w
meaning_spells AxesWord w = axes_spells w
meaning_spells ProfileWord w = profile_spells w

-- the text of a number
record IsText (n : ℕ) (ds : List ℕ) : Type 0 where
  digits : list_all is_digit ds ≡ true
  worth : value_from 0 ds ≡ n
  some : 0 < length ds
  first : 0 < n → 48 < get_or ds 0 0

value_last : (m : ℕ) (ds : List ℕ) (d : ℕ) → value_from m (ds ++ d ∷ []) ≡ value_from m ds * 10 + (d - 48)
value_last m [] d = refl
value_last m (b ∷ bs) d = value_last (m * 10 + (b - 48)) bs d

last_digit : (n : ℕ) → is_digit (48 + n % 10) ≡ true
last_digit n = let small : n % 10 < 10 = omega arith in grind (arith, nat_tests)

one_digit : (n : ℕ) → n < 10 → IsText n ((48 + n) ∷ [])
one_digit n small = record {
  digits = (let d : is_digit (48 + n) ≡ true = grind (arith, nat_tests) in rw d refl);
  worth = omega arith;
  some = omega arith;
  first = λ h. omega arith;
}

more_digits : (n : ℕ) (ds : List ℕ) → 10 ≤ n → IsText (n / 10) ds → IsText n (ds ++ ((48 + n % 10) ∷ []))
more_digits n ds large t = record {
  digits = list_all-append is_digit ds ((48 + n % 10) ∷ []) ∙ rw (t.digits, last_digit n) refl;
  worth = value_last 0 ds (48 + n % 10) ∙ (let w = t.worth in omega arith);
  some = (let s = t.some in rw length-append (omega arith));
  first = λ h. (let s : 0 < length ds = t.some in let f : 48 < get_or ds 0 0 = t.first (omega arith) in rw (get_or-append ds ((48 + n % 10) ∷ []) 0 0 s) f);
}

decimal_text : (n : ℕ) → n < 10 ^ 64 → IsText n (decimal n)
decimal_text n small = decimal_by_steps_wide IsText one_digit more_digits n small

decimal_number : (n : ℕ) → n < 10 ^ 64 → is_number (decimal n) ≡ true
unfolding is_number
decimal_number zero small = rw (decimal_digit 0 (omega arith)) refl
decimal_number (suc n) small =
    let t = decimal_text (suc n) small in
    let ds : list_all is_digit (decimal (suc n)) ≡ true = t.digits in
    let s : 0 < length (decimal (suc n)) = t.some in
    let f : 48 < slice_index (decimal (suc n)) 0 = t.first (omega arith) in
    grind (arith, nat_tests)

number_back : (bound n : ℕ) → bound ≤ 10 ^ 64 → n < bound → number_below bound (decimal n) ≡ Some n
number_back bound n small h =
    let all : n < 10 ^ 64 = omega arith in
    let yes : is_number (decimal n) ≡ true = decimal_number n all in
    let worth : value_from 0 (decimal n) ≡ n = (decimal_text n all).worth in
    let fits : nat_lt n bound ≡ true = lt-ltb n bound h in
    rw (yes, worth, fits) refl

name_is_not_none : (n : List ℕ) → is_name n ≡ true → bytes_eq n (codes "none") ≡ false
unfolding is_name
name_is_not_none n h = grind (arith, nat_tests)

weaker_all : (p q : ℕ → Bool) → ((b : ℕ) → p b ≡ true → q b ≡ true) → (bs : List ℕ) → list_all p bs ≡ true → list_all q bs ≡ true
weaker_all p q h [] all = refl
weaker_all p q h (b ∷ bs) all = go (p b) refl all (λ k. weaker_all p q h bs k)
  where
    go : (t : Bool) → p b ≡ t → (t && list_all p bs) ≡ true → (list_all p bs ≡ true → list_all q bs ≡ true) → list_all q (b ∷ bs) ≡ true
    go true e k later = rw (h b e, later k) refl
    go false e k later = cc

name_spaceless : (n : List ℕ) → is_name n ≡ true → is_spaceless n ≡ true
unfolding is_name
name_spaceless n h =
    let bytes : list_all is_name_byte n ≡ true = grind (arith, nat_tests) in
    weaker_all is_name_byte (λ b. not (nat_eq b 32)) (λ b e. grind (arith, nat_tests)) n bytes

-- a digit is no byte that is none
digit_differs : (byte : ℕ) → is_digit byte ≡ false → (b : ℕ) → is_digit b ≡ true → not (nat_eq b byte) ≡ true
digit_differs byte none b digit = grind (arith, nat_tests)

number_without : (byte : ℕ) → is_digit byte ≡ false → (n : ℕ) → n < 10 ^ 64 → is_without byte (decimal n) ≡ true
number_without byte none n small = weaker_all is_digit (λ b. not (nat_eq b byte)) (digit_differs byte none) (decimal n) (decimal_text n small).digits

name_has_no_dot : (n : List ℕ) → is_name n ≡ true → is_without 46 n ≡ true
unfolding is_name
name_has_no_dot n h =
    let bytes : list_all is_name_byte n ≡ true = grind (arith, nat_tests) in
    weaker_all is_name_byte (λ b. not (nat_eq b 46)) (λ b e. grind (arith, nat_tests)) n bytes

-- where the dot is
dot_behind : (n more : List ℕ) → is_without 46 n ≡ true → dot_place (n ++ 46 ∷ more) ≡ length n
dot_behind [] more h = refl
dot_behind (b ∷ bs) more h =
    let parts = and_parts (not (nat_eq b 46)) _ h in
    rw parts.0 (omega (arith, dot_behind bs more parts.1))

no_dot : (n : List ℕ) → is_without 46 n ≡ true → dot_place n ≡ length n
no_dot [] h = refl
no_dot (b ∷ bs) h =
    let parts = and_parts (not (nat_eq b 46)) _ h in
    rw parts.0 (omega (arith, no_dot bs parts.1))

flag_back : (flag : FlagName) → flag_word (flag_name_text flag) ≡ Some flag
flag_back Context = refl
flag_back Test = refl
flag_back Carry = refl
flag_back Overflow = refl

plain_back : (name : List ℕ) → is_name name ≡ true → key_word (name ++ []) ≡ Some (record { name = name; flag = None })
plain_back name h =
    let all : nat_eq (dot_place name) (length name) ≡ true = eq-eqb (dot_place name) (length name) (no_dot name (name_has_no_dot name h)) in
    rw (append-nil, all, h) refl

flagged_back : (name : List ℕ) (flag : FlagName) → is_name name ≡ true → key_word (name ++ 46 ∷ flag_name_text flag) ≡ Some (record { name = name; flag = Some flag })
flagged_back name flag h =
    let t = flag_name_text flag in
    let at : dot_place (name ++ 46 ∷ t) ≡ length name = dot_behind name t (name_has_no_dot name h) in
    let longer : nat_eq (length name) (length (name ++ 46 ∷ t)) ≡ false = rw length-append (grind (arith, nat_tests)) in
    let front : take (length name) (name ++ 46 ∷ t) ≡ name = take_at name (46 ∷ t) (length name) refl in
    let behind : drop (length name + 1) (name ++ 46 ∷ t) ≡ t = rw (← drop-drop) (rw (drop_at name (46 ∷ t) (length name) refl) refl) in
    rw (at, longer, front, behind, h, flag_back flag) refl

key_back : (key : KeyName) → is_name key.name ≡ true → key_word (key_text key) ≡ Some key
key_back key h = go key.flag refl
  where
    go : (o : Option FlagName) → key.flag ≡ o → key_word (key.name ++ dotted o) ≡ Some (record { name = key.name; flag = o })
    go None e = plain_back key.name h
    go (Some flag) e = flagged_back key.name flag h

numbers_back : (ns : List ℕ) → AllByRecursion (λ n. n < 2 ^ 64) ns → numbers_of_words (map decimal ns) ≡ Some ns
numbers_back [] h = refl
numbers_back (n ∷ ns) h = rw (number_back (2 ^ 64) n (omega arith) h.0, numbers_back ns h.1) refl

-- the digits of numbers hold no byte that is no digit
digits_without : (byte : ℕ) → is_digit byte ≡ false → (ns : List ℕ) → AllByRecursion (λ n. n < 2 ^ 64) ns → list_all (is_without byte) (map decimal ns) ≡ true
digits_without byte none [] h = refl
digits_without byte none (n ∷ ns) h =
    let first : is_without byte (decimal n) ≡ true = number_without byte none n (omega (arith, h.0)) in
    rw (first, digits_without byte none ns h.1) refl

axes_back : (ns : List ℕ) → Fits AxesWord ns → axes_word (axes_text ns) ≡ Some ns
axes_back [] h = absurd (h.0 refl)
axes_back (n ∷ ns) h =
    rw (split_joined 120 (decimal n) (map decimal ns) (digits_without 120 refl (n ∷ ns) h.1)) (numbers_back (n ∷ ns) h.1)

pub meaning_back : (k : Kind) (x : Meaning k) → Fits k x → meaning k (spelled k x) ≡ Some x
meaning_back NameWord n h = rw h refl
meaning_back NumberWord n h = number_back (2 ^ 64) n (omega arith) h
meaning_back ValueWord n h = number_back (2 ^ 128) n (omega arith) h
meaning_back DirectionWord Upward h = refl
meaning_back DirectionWord Downward h = refl
meaning_back InclusionWord Inclusive h = refl
meaning_back InclusionWord Exclusive h = refl
meaning_back KeyWord key h = key_back key h
meaning_back AxesWord ns h = axes_back ns h
meaning_back ProfileWord ProfileOne h = refl
meaning_back ProfileWord ProfileTwo h = refl
meaning_back OptionWord None h = refl
meaning_back OptionWord (Some n) h = rw (name_is_not_none n h, h) refl

flag_spaceless : (flag : Option FlagName) → is_spaceless (dotted flag) ≡ true
flag_spaceless None = refl
flag_spaceless (Some Context) = refl
flag_spaceless (Some Test) = refl
flag_spaceless (Some Carry) = refl
flag_spaceless (Some Overflow) = refl

key_spaceless : (key : KeyName) → is_name key.name ≡ true → is_spaceless (key_text key) ≡ true
key_spaceless key h = list_all-append (λ b. not (nat_eq b 32)) key.name (dotted key.flag) ∙ rw (name_spaceless key.name h, flag_spaceless key.flag) refl

axes_spaceless : (ns : List ℕ) → Fits AxesWord ns → is_spaceless (axes_text ns) ≡ true
axes_spaceless [] h = refl
axes_spaceless (n ∷ ns) h = joined_without 32 120 refl (decimal n) (map decimal ns) (digits_without 32 refl (n ∷ ns) h.1)

pub spelled_spaceless : (k : Kind) (x : Meaning k) → Fits k x → is_spaceless (spelled k x) ≡ true
spelled_spaceless NameWord n h = name_spaceless n h
spelled_spaceless NumberWord n h = number_without 32 refl n (omega arith)
spelled_spaceless ValueWord n h = number_without 32 refl n (omega arith)
spelled_spaceless DirectionWord Upward h = refl
spelled_spaceless DirectionWord Downward h = refl
spelled_spaceless InclusionWord Inclusive h = refl
spelled_spaceless InclusionWord Exclusive h = refl
spelled_spaceless KeyWord key h = key_spaceless key h
spelled_spaceless AxesWord ns h = axes_spaceless ns h
spelled_spaceless ProfileWord ProfileOne h = refl
spelled_spaceless ProfileWord ProfileTwo h = refl
spelled_spaceless OptionWord None h = refl
spelled_spaceless OptionWord (Some n) h = name_spaceless n h

-- a word of each kind
pub sample : (k : Kind) → (w : List ℕ) × (is_some (meaning k w) ≡ true)
unfolding is_name is_number
sample NameWord = (97 ∷ [], refl)
sample NumberWord = (49 ∷ [], refl)
sample ValueWord = (49 ∷ [], refl)
sample DirectionWord = (codes "upward", refl)
sample InclusionWord = (codes "inclusive", refl)
sample OptionWord = (codes "none", refl)
sample KeyWord = (97 ∷ [], refl)
sample AxesWord = (49 ∷ [], refl)
sample ProfileWord = (49 ∷ [], refl)
