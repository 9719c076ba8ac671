-- Lists joined by a byte that is in none of them are cut there again.
use Rattle.std.proofs.Common.{◌≡◌, ℕ, List, [], ◌∷◌, true, false, refl, ap, ◌∙◌}
use Rattle.std.specs.Prelude.{Bool, nat_eq, not, ◌&&◌, All}
use Rattle.std.specs.List.{list_all, slice_split, join_with_byte}
use Rattle.std.proofs.lemmas.Bool.{eq-eqb}
use Rattle.std.proofs.lemmas.List.Folds.{list_all-append}
use Rattle.std.proofs.lemmas.List.Splits.{slice_split_at, slice_split_none}
use Rattle.std.proofs.lemmas.List.Elements.{All-weaker}
use Rattle.std.proofs.lemmas.List.Sums.{AllPass-from_list_all}

-- the byte is not in the list
abbrev pub is_without : ℕ → List ℕ → Bool
is_without byte bs = list_all (λ b. not (nat_eq b byte)) bs

not_true : (b : Bool) → not b ≡ true → b ≡ false
not_true false h = refl
not_true true h = cc

pub and_parts : (a b : Bool) → (a && b) ≡ true → (a ≡ true) × (b ≡ true)
and_parts true true h = (refl, refl)
and_parts true false h = cc
and_parts false b h = cc

none_of : (byte : ℕ) (bs : List ℕ) → is_without byte bs ≡ true → All (λ b. nat_eq b byte ≡ false) bs
none_of byte bs h =
    All-weaker (λ b. not (nat_eq b byte) ≡ true) (λ b. nat_eq b byte ≡ false) (λ b e. not_true (nat_eq b byte) e) bs (AllPass-from_list_all (λ b. not (nat_eq b byte)) bs h)

pub split_joined : (byte : ℕ) (p : List ℕ) (ps : List (List ℕ)) → list_all (is_without byte) (p ∷ ps) ≡ true
    → slice_split (λ b. nat_eq b byte) (join_with_byte byte (p ∷ ps)) ≡ p ∷ ps
split_joined byte p [] h = slice_split_none (λ b. nat_eq b byte) p (none_of byte p (and_parts (is_without byte p) _ h).0)
split_joined byte p (q ∷ qs) h =
    let parted = slice_split_at (λ b. nat_eq b byte) p byte (join_with_byte byte (q ∷ qs)) (none_of byte p (and_parts (is_without byte p) _ h).0) (eq-eqb byte byte refl) in
    parted ∙ ap (λ (ps : List (List ℕ)). p ∷ ps) (split_joined byte q qs (and_parts (is_without byte p) _ h).1)

-- lists without a byte, joined by another byte
pub joined_without : (byte other : ℕ) → nat_eq other byte ≡ false → (p : List ℕ) (ps : List (List ℕ)) → list_all (is_without byte) (p ∷ ps) ≡ true
    → is_without byte (join_with_byte other (p ∷ ps)) ≡ true
joined_without byte other differ p [] h = (and_parts (is_without byte p) _ h).0
joined_without byte other differ p (q ∷ qs) h =
    let first : is_without byte p ≡ true = (and_parts (is_without byte p) _ h).0 in
    let later : is_without byte (join_with_byte other (q ∷ qs)) ≡ true = joined_without byte other differ q qs (and_parts (is_without byte p) _ h).1 in
    list_all-append (λ b. not (nat_eq b byte)) p (other ∷ join_with_byte other (q ∷ qs)) ∙ rw (first, differ, later) refl
