-- One slot of many is written.
use Rattle.std.proofs.Common.{◌≡◌, ℕ, zero, suc, ◌+◌, ◌<◌, ◌≤◌, List, [], ◌∷◌, ◌++◌, length, map, set, take, get_or, refl, sym, ap, ◌∙◌, arith, Bool, true, false, cond, nat_eq}
use Rattle.std.proofs.lemmas.Bool.Decides.{nat_tests}
use Rattle.std.proofs.lemmas.List.{map-append, take_more}
use Rattle.std.specs.Prelude.{insert, remove, Result, Ok, Err, OnOk}

module _ {A B : Type 0} (f : A → B) where
  pub map-set : (xs : List A) (i : ℕ) (a : A) → map f (set xs i a) ≡ set (map f xs) i (f a)
  map-set [] i a = refl
  map-set (x ∷ xs) zero a = refl
  map-set (x ∷ xs) (suc i) a = ap (λ l. f x ∷ l) (map-set xs i a)

  pub map-set_kept : (xs : List A) (i : ℕ) (a old : A) → i < length xs → old ≡ get_or xs i old → f a ≡ f old → map f (set xs i a) ≡ map f xs
  map-set_kept [] i a old within at same = refl
  map-set_kept (x ∷ xs) zero a old within at same = ap (λ b. b ∷ map f xs) (same ∙ ap f at)
  map-set_kept (x ∷ xs) (suc i) a old within at same = ap (λ l. f x ∷ l) (map-set_kept xs i a old (omega arith) at same)

  pub get_or-mapped : (xs : List A) (i : ℕ) (old : A) (d : B) → i < length xs → old ≡ get_or xs i old → get_or (map f xs) i d ≡ f old
  get_or-mapped [] i old d within at = absurd (omega arith)
  get_or-mapped (x ∷ xs) zero old d within at = ap f (sym at)
  get_or-mapped (x ∷ xs) (suc i) old d within at = get_or-mapped xs i old d (omega arith) at

  pub get_or-mapped_set : (xs : List A) (i : ℕ) (a : A) (d : B) → i < length xs → get_or (map f (set xs i a)) i d ≡ f a
  get_or-mapped_set [] i a d within = absurd (omega arith)
  get_or-mapped_set (x ∷ xs) zero a d within = refl
  get_or-mapped_set (x ∷ xs) (suc i) a d within = get_or-mapped_set xs i a d (omega arith)

  pub get_or-mapped_other : (xs : List A) (i : ℕ) (a : A) (s : ℕ) (d : B) → (s ≡ i → ⊥) → get_or (map f (set xs i a)) s d ≡ get_or (map f xs) s d
  get_or-mapped_other [] i a s d other = refl
  get_or-mapped_other (x ∷ xs) zero a zero d other = absurd (other refl)
  get_or-mapped_other (x ∷ xs) zero a (suc s) d other = refl
  get_or-mapped_other (x ∷ xs) (suc i) a zero d other = refl
  get_or-mapped_other (x ∷ xs) (suc i) a (suc s) d other = get_or-mapped_other xs i a s d (λ e. other (ap suc e))

-- numbers of which one grows
pub grown : {A : Type 0} (f : A → ℕ) (xs : List A) (i : ℕ) (a old : A) (s : ℕ) → old ≡ get_or xs i old → f old ≤ f a → get_or (map f xs) s 0 ≤ get_or (map f (set xs i a)) s 0
grown f [] i a old s at more = omega arith
grown f (x ∷ xs) zero a old zero at more = let same = ap f at in omega (arith, same)
grown f (x ∷ xs) zero a old (suc s) at more = omega arith
grown f (x ∷ xs) (suc i) a old zero at more = omega arith
grown f (x ∷ xs) (suc i) a old (suc s) at more = grown f xs i a old s at more

pub map-insert : {A B : Type 0} (f : A → B) (xs : List A) (i : ℕ) (a : A) → map f (insert xs i a) ≡ insert (map f xs) i (f a)
map-insert f [] zero a = refl
map-insert f [] (suc i) a = refl
map-insert f (x ∷ xs) zero a = refl
map-insert f (x ∷ xs) (suc i) a = ap (λ l. f x ∷ l) (map-insert f xs i a)

pub map-remove : {A B : Type 0} (f : A → B) (xs : List A) (i : ℕ) → map f (remove xs i) ≡ remove (map f xs) i
map-remove f [] zero = refl
map-remove f [] (suc i) = refl
map-remove f (x ∷ xs) zero = refl
map-remove f (x ∷ xs) (suc i) = ap (λ l. f x ∷ l) (map-remove f xs i)

pub on_ok : {T E : Type 0} (r : Result T E) (P Q : Type 0) → (P → Q) → OnOk r P → OnOk r Q
on_ok (Ok x) P Q f h = f h
on_ok (Err e) P Q f h = tt

-- lists that are all empty, and one more
pub none-push : {A B : Type 0} (f : A → List B) (xs : List A) (a : A) (s : ℕ) → ((t : ℕ) → get_or (map f xs) t [] ≡ []) → f a ≡ [] → get_or (map f (xs ++ a ∷ [])) s [] ≡ []
none-push f [] a zero none empty = empty
none-push f [] a (suc s) none empty = refl
none-push f (x ∷ xs) a zero none empty = none 0
none-push f (x ∷ xs) a (suc s) none empty = none-push f xs a s (λ t. none (suc t)) empty

-- a slot that holds something else than the default is there
pub held_within : {A B : Type 0} (f : A → B) (d : B) (xs : List A) (s : ℕ) → (get_or (map f xs) s d ≡ d → ⊥) → s < length xs
held_within f d [] s other = absurd (other refl)
held_within f d (x ∷ xs) zero other = omega arith
held_within f d (x ∷ xs) (suc s) other = let rest = held_within f d xs s other in omega (arith, rest)

-- one more slot that holds the default
pub get_or-push_default : {A B : Type 0} (f : A → B) (d : B) (xs : List A) (a : A) (s : ℕ) → f a ≡ d → get_or (map f (xs ++ a ∷ [])) s d ≡ get_or (map f xs) s d
get_or-push_default f d [] a zero same = same
get_or-push_default f d [] a (suc s) same = refl
get_or-push_default f d (x ∷ xs) a zero same = refl
get_or-push_default f d (x ∷ xs) a (suc s) same = get_or-push_default f d xs a s same

-- one more slot, with more than nothing
pub pushed_more : {A : Type 0} (f : A → ℕ) (xs : List A) (a : A) (s : ℕ) → get_or (map f xs) s 0 ≤ get_or (map f (xs ++ a ∷ [])) s 0
pushed_more f [] a s = omega arith
pushed_more f (x ∷ xs) a zero = omega arith
pushed_more f (x ∷ xs) a (suc s) = pushed_more f xs a s

same_number : (m n : ℕ) → nat_eq m n ≡ true → m ≡ n
same_number m n e = grind (arith, nat_tests)

other_number : (m n : ℕ) → nat_eq m n ≡ false → m ≡ n → ⊥
other_number m n e = grind (arith, nat_tests)

-- one slot is turned into what is made of it, and the others stay
pub set-turned : {A B : Type 0} (f : A → B) (d : B) (xs : List A) (i : ℕ) (a : A) (turn : B → B) (s : ℕ) → i < length xs → f a ≡ turn (get_or (map f xs) i d)
    → get_or (map f (set xs i a)) s d ≡ cond (nat_eq s i) (turn (get_or (map f xs) s d)) (get_or (map f xs) s d)
set-turned {A} {B} f d xs i a turn s within made = by_test (nat_eq s i) refl
  where
    by_test : (b : Bool) → nat_eq s i ≡ b → get_or (map f (set xs i a)) s d ≡ cond b (turn (get_or (map f xs) s d)) (get_or (map f xs) s d)
    by_test true e =
        let same = same_number s i e in
        ap (λ n. get_or (map f (set xs i a)) n d) same
        ∙ get_or-mapped_set f xs i a d within
        ∙ made
        ∙ ap (λ n. turn (get_or (map f xs) n d)) (sym same)
    by_test false e = get_or-mapped_other f xs i a s d (other_number s i e)

-- one more item is copied
pub copied-more : {A B : Type 0} (f : A → B) (xs old more : List A) (i : ℕ) (x a : A) → map f old ≡ map f (take i xs) → i < length xs → x ≡ get_or xs i x → f a ≡ f x → more ≡ old ++ a ∷ []
    → map f more ≡ map f (take (i + 1) xs)
copied-more f xs old more i x a so_far within at same longer =
    ap (map f) longer
    ∙ map-append f old (a ∷ [])
    ∙ ap (λ l. l ++ f a ∷ []) so_far
    ∙ ap (λ b. map f (take i xs) ++ b ∷ []) (same ∙ ap f at)
    ∙ sym (map-append f (take i xs) (get_or xs i x ∷ []))
    ∙ ap (map f) (sym (take_more xs i x within))
