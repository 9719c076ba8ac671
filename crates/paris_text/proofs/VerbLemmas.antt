-- The table of verbs: each is found by its text, and no text has a space.
use Rattle.std.proofs.Common.{◌≡◌, ℕ, List, Bool, Option, None, Some, true, false, refl, ap, ◌∙◌, sym}
use Rattle.std.specs.Str.{bytes_eq}
use Rattle.std.specs.List.{list_all}
use Rattle.std.proofs.lemmas.Slice.Eq.{bytes_eq-Decides}
use Rattle.paris_text.specs.declared.verbs.Verb.{Verb}
use Rattle.paris_text.specs.declared.verbs.Verb.TheVariants.{Set, Take}
use Rattle.paris_text.specs.declared.verbs.Setting.{Setting}
use Rattle.paris_text.specs.declared.verbs.TheConstants.{VERBS}
use Rattle.paris_text.specs.Verbs.{verb_text, verb_word, verb_in, allows, if_allowed}
use Rattle.paris_text.proofs.MnemonicLemmas.{is_spaceless, find_passes, find_has}

pub verb_found : (v : Verb) → verb_word (verb_text v) ≡ Some v
unfolding verb_word verb_text
verb_found Set = refl
verb_found _ = refl

pub found_verb : (w : List ℕ) (v : Verb) → verb_word w ≡ Some v → verb_text v ≡ w
unfolding verb_word
found_verb w v h = (bytes_eq-Decides (verb_text v) w).0 (find_passes (λ v. bytes_eq (verb_text v) w) VERBS v h)

verbs_spaceless : list_all (λ v. is_spaceless (verb_text v)) VERBS ≡ true
unfolding verb_text
verbs_spaceless = refl

pub verb_spaceless : (v : Verb) → is_spaceless (verb_text v) ≡ true
unfolding verb_word
verb_spaceless v = find_has (λ u. bytes_eq (verb_text u) (verb_text v)) (λ u. is_spaceless (verb_text u)) VERBS v verbs_spaceless (verb_found v)

-- a verb that may stand there is found there by its text
pub verb_found_in : (s : Setting) (v : Verb) → allows s v ≡ true → verb_in s (verb_text v) ≡ Some v
unfolding verb_in
verb_found_in s v may = rw (verb_found v, may) refl

if_allowed_has : (s : Setting) (o : Option Verb) (v : Verb) → if_allowed s o ≡ Some v → (o ≡ Some v) × (allows s v ≡ true)
if_allowed_has s None v h = cc
if_allowed_has s (Some u) v h = go (allows s u) refl
  where
    go : (b : Bool) → allows s u ≡ b → (Some u ≡ Some v) × (allows s v ≡ true)
    go true may =
        let found : Some u ≡ Some v = rw may at h in
        let same : u ≡ v = cc in
        (found, ap (allows s) (sym same) ∙ may)
    go false may = let none : None ≡ Some v = rw may at h in cc

-- what is found there is the verb of the word, and may stand there
pub found_verb_in : (s : Setting) (w : List ℕ) (v : Verb) → verb_in s w ≡ Some v → (verb_text v ≡ w) × (allows s v ≡ true)
unfolding verb_in
found_verb_in s w v h =
    let has = if_allowed_has s (verb_word w) v h in
    (found_verb w v has.0, has.1)

-- one verb may stand anywhere
pub take_is_allowed : (s : Setting) → allows s Take ≡ true
take_is_allowed s = refl
