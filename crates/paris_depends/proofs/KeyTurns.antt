-- The lists of keys that change one after another, each key once.
use Rattle.std.proofs.Common.{◌≡◌, ℕ, zero, suc, ◌<◌, ◌≤◌, ◌+◌, List, [], ◌∷◌, ◌++◌, Bool, true, false, cond, refl, sym, ap, ◌∙◌, subst, arith, length, take, drop, get_or, nat_eq}
use Rattle.std.proofs.lemmas.List.{take_more, drop_more}
use Rattle.std.proofs.lemmas.Bool.Decides.{nat_tests}
use Rattle.std.specs.Prelude.{◌||◌}
use Rattle.std.specs.List.{AllByRecursion, IsDistinct}
use Rattle.paris_names.specs.declared.keys.Key.{Key}
use Rattle.paris_names.specs.Keys.{has_key, key_eq, key_slot}
use Rattle.paris_names.proofs.KeyLists.{key_eq-true, key_eq-flip, key_eq-is, slot-apart}

-- of the keys so far, and one more
pub has_key-more : (keys : List Key) (i : ℕ) (key k : Key) → i < length keys → key ≡ get_or keys i key → has_key (take (i + 1) keys) k ≡ (key_eq k key || has_key (take i keys) k)
has_key-more keys i key k within at =
    ap (λ ks. has_key ks k) (take_more keys i key within ∙ ap (λ j. take i keys ++ j ∷ []) (sym at)) ∙ has_last (take i keys)
  where
    has_last : (ks : List Key) → has_key (ks ++ key ∷ []) k ≡ (key_eq k key || has_key ks k)
    has_last [] = by_test (key_eq k key)
      where
        by_test : (b : Bool) → (b || false) ≡ (b || false)
        by_test b = refl
    has_last (j ∷ js) = ap (λ b. key_eq k j || b) (has_last js) ∙ turn (key_eq k j) (key_eq k key) (has_key js k)
      where
        turn : (a b c : Bool) → (a || (b || c)) ≡ (b || (a || c))
        turn true true c = refl
        turn true false c = refl
        turn false true c = refl
        turn false false c = refl

-- of the keys left, the first
pub has_key-left : (keys : List Key) (i : ℕ) (key k : Key) → i < length keys → key ≡ get_or keys i key → has_key (drop i keys) k ≡ (key_eq k key || has_key (drop (i + 1) keys) k)
has_key-left keys i key k within at = ap (λ ks. has_key ks k) (drop_more keys i key within ∙ ap (λ j. j ∷ drop (i + 1) keys) (sym at))

none_equal : (j : Key) (ks : List Key) → AllByRecursion (λ y. key_eq j y ≡ false) ks → has_key ks j ≡ false
none_equal j [] apart = refl
none_equal j (k ∷ ks) apart = ap (λ b. b || has_key ks j) apart.0 ∙ none_equal j ks apart.1

equal_none : (j : Key) (ks : List Key) (i : ℕ) (key : Key) → AllByRecursion (λ y. key_eq j y ≡ false) ks → i < length ks → key ≡ get_or ks i key → key_eq key j ≡ false
equal_none j [] i key apart within at = absurd (omega arith)
equal_none j (k ∷ ks) zero key apart within at = ap (λ x. key_eq x j) at ∙ key_eq-flip k j ∙ apart.0
equal_none j (k ∷ ks) (suc i) key apart within at = equal_none j ks i key apart.1 (omega arith) at

-- where each key stands once, a key is not among those before it
pub new-once : (keys : List Key) (i : ℕ) (key : Key) → IsDistinct key_eq keys → i < length keys → key ≡ get_or keys i key → has_key (take i keys) key ≡ false
unfolding IsDistinct
new-once [] i key once within at = absurd (omega arith)
new-once (j ∷ js) zero key once within at = refl
new-once (j ∷ js) (suc i) key once within at =
    ap (λ b. b || has_key (take i js) key) (equal_none j js i key once.0 (omega arith) at) ∙ new-once js i key once.1 (omega arith) at

-- nor among those after it
pub gone-once : (keys : List Key) (i : ℕ) (key : Key) → IsDistinct key_eq keys → i < length keys → key ≡ get_or keys i key → has_key (drop (suc i) keys) key ≡ false
unfolding IsDistinct
gone-once [] i key once within at = absurd (omega arith)
gone-once (j ∷ js) zero key once within at = ap (has_key js) at ∙ none_equal j js once.0
gone-once (j ∷ js) (suc i) key once within at = gone-once js i key once.1 (omega arith) at

nat_eq-is : (m n : ℕ) → nat_eq m n ≡ true → m ≡ n
nat_eq-is m n e = grind (arith, nat_tests)

nat_eq-apart : (m n : ℕ) → (m ≡ n → ⊥) → nat_eq m n ≡ false
nat_eq-apart m n e = grind (arith, nat_tests)

nat_eq-same : (n : ℕ) → nat_eq n n ≡ true
nat_eq-same n = grind (arith, nat_tests)

-- slots are the same where the keys are
pub same-slot : (k key : Key) → nat_eq (key_slot k) (key_slot key) ≡ key_eq k key
same-slot k key = by_test (key_eq k key) refl
  where
    by_test : (b : Bool) → key_eq k key ≡ b → nat_eq (key_slot k) (key_slot key) ≡ b
    by_test true e = ap (λ (j : Key). nat_eq (key_slot j) (key_slot key)) (key_eq-true k key e) ∙ nat_eq-same (key_slot key)
    by_test false e = nat_eq-apart (key_slot k) (key_slot key) (λ same. let is = key_eq-is k key (slot-apart k key same) in cc)

module _ (keys : List Key) (i : ℕ) (key : Key) (within : i < length keys) (at : key ≡ get_or keys i key) where
  -- a key among keys
  pub has_key-at : has_key keys key ≡ true
  has_key-at = among keys i within at
    where
      among : (ks : List Key) (j : ℕ) → j < length ks → key ≡ get_or ks j key → has_key ks key ≡ true
      among [] j short here = absurd (omega arith)
      among (k ∷ ks) zero short here = ap (λ b. b || has_key ks key) (key_eq-is key k here)
      among (k ∷ ks) (suc j) short here = ap (λ b. key_eq key k || b) (among ks j (omega arith) here) ∙ by_or (key_eq key k)
        where
          by_or : (b : Bool) → (b || true) ≡ true
          by_or true = refl
          by_or false = refl

  -- the list of each key so far is the new one, and those of the others stay: one more key
  pub turned-more : {X : Type 0} (slot : ℕ) (before now turned : ℕ → X) (new start : Key → X)
      → slot ≡ key_slot key
      → ((s : ℕ) → now s ≡ cond (nat_eq s slot) (turned s) (before s))
      → turned (key_slot key) ≡ new key
      → ((k : Key) → before (key_slot k) ≡ cond (has_key (take i keys) k) (new k) (start k))
      → (k : Key) → now (key_slot k) ≡ cond (has_key (take (i + 1) keys) k) (new k) (start k)
  turned-more {X} slot before now turned new start is one here so_far k =
      one (key_slot k)
      ∙ ap (λ n. cond (nat_eq (key_slot k) n) (turned (key_slot k)) (before (key_slot k))) is
      ∙ ap (λ b. cond b (turned (key_slot k)) (before (key_slot k))) (same-slot k key)
      ∙ by_key (key_eq k key) refl
      ∙ ap (λ b. cond b (new k) (start k)) (sym (has_key-more keys i key k within at))
    where
      by_key : (b : Bool) → key_eq k key ≡ b → cond b (turned (key_slot k)) (before (key_slot k)) ≡ cond (b || has_key (take i keys) k) (new k) (start k)
      by_key true e = let same = key_eq-true k key e in subst (λ (j : Key). turned (key_slot j) ≡ new j) (sym same) here
      by_key false e = so_far k

  -- there is room for each key so far: one more key
  pub room-more : (slot : ℕ) (before now : ℕ → ℕ) → slot ≡ key_slot key → ((s : ℕ) → before s ≤ now s) → 0 < now slot
      → ((k : Key) → has_key (take i keys) k ≡ true → 0 < before (key_slot k)) → (k : Key) → has_key (take (i + 1) keys) k ≡ true → 0 < now (key_slot k)
  room-more slot before now is more here so_far k has = by_key (key_eq k key) refl (sym (has_key-more keys i key k within at) ∙ has)
    where
      by_key : (b : Bool) → key_eq k key ≡ b → (b || has_key (take i keys) k) ≡ true → 0 < now (key_slot k)
      by_key true e h = let same = ap key_slot (key_eq-true k key e) in subst (λ (n : ℕ). 0 < now n) (is ∙ sym same) here
      by_key false e h = let old = so_far k h in let up = more (key_slot k) in omega arith

  -- the keys left have room, where each key stands once: one key fewer
  pub room-left : (slot : ℕ) (before now : ℕ → ℕ) → slot ≡ key_slot key → IsDistinct key_eq keys → ((s : ℕ) → (s ≡ slot → ⊥) → now s ≡ before s)
      → ((k : Key) → has_key (drop i keys) k ≡ true → 0 < before (key_slot k)) → (k : Key) → has_key (drop (i + 1) keys) k ≡ true → 0 < now (key_slot k)
  room-left slot before now is once others so_far k has =
      let old = so_far k (has_key-left keys i key k within at ∙ ap (λ b. key_eq k key || b) has ∙ by_or (key_eq k key)) in
      let same = others (key_slot k) (λ e. apart (slot-apart k key (e ∙ is))) in
      omega arith
    where
      by_or : (b : Bool) → (b || true) ≡ true
      by_or true = refl
      by_or false = refl

      apart : k ≡ key → ⊥
      apart e =
          let gone = gone-once keys i key once within at in
          let next : i + 1 ≡ suc i = omega arith in
          let left = ap (λ n. has_key (drop n keys) k) next ∙ ap (has_key (drop (suc i) keys)) e ∙ gone in
          cc
