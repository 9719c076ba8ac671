-- A script that goes on: its lines, its session and its replies.
use Rattle.std.proofs.Common.{◌≡◌, ℕ, zero, suc, ◌+◌, ◌-◌, ◌<◌, ◌≤◌, List, [], ◌∷◌, ◌++◌, Bool, not, inl, inr, min, length, take, get_or, refl, sym, ap, ◌∙◌, arith, append_assoc, append-nil, if◌then◌else◌, nat_eq, nat_le, true, false}
use Rattle.std.specs.Prelude.{All}
use Rattle.std.specs.List.{position_or_len}
use Rattle.std.proofs.lemmas.Bool.{cases_lt, leb-true, leb-false}
use Rattle.std.proofs.lemmas.List.{get_or-take, length-take, length-append, take-take, take_all}
use Rattle.std.proofs.lemmas.List.Elements.{All-head, All-tail, All-from_get_or}
use Rattle.std.proofs.lemmas.List.Sums.{prefix_len_passes}
use Rattle.std.specs.Io.KnownBytes.{Appends}
use Rattle.std.proofs.KnownBytes.{Appends-trans}
use Rattle.std.proofs.Common.{Option}
use Rattle.paris_session.specs.Texts.{WritesFront}
use Rattle.paris_session.specs.Transcript.{Sitting}
use Rattle.paris_session.specs.Hands.{longest_line}
use Rattle.paris_session.specs.Transcript.{after_lines, replies, answer}
use Rattle.paris_session.specs.Progress.{with_byte, ended_lines, open_line, said, sitting_at}

pub ended-append : (begun xs ys : List ℕ) → ended_lines begun (xs ++ ys) ≡ ended_lines begun xs ++ ended_lines (open_line begun xs) ys
ended-append begun [] ys = refl
ended-append begun (b ∷ xs) ys =
    elim (nat_eq b 10) as (λ t. (if t then begun ∷ ended_lines [] (xs ++ ys) else ended_lines (with_byte begun b) (xs ++ ys))
    ≡ (if t then begun ∷ ended_lines [] xs else ended_lines (with_byte begun b) xs)
    ++ ended_lines (if t then open_line [] xs else open_line (with_byte begun b) xs) ys)
    [ true ↦ ap (λ (l : List (List ℕ)). begun ∷ l) (ended-append [] xs ys) | false ↦ ended-append (with_byte begun b) xs ys ]

pub open-append : (begun xs ys : List ℕ) → open_line begun (xs ++ ys) ≡ open_line (open_line begun xs) ys
open-append begun [] ys = refl
open-append begun (b ∷ xs) ys =
    elim (nat_eq b 10) as (λ t. (if t then open_line [] (xs ++ ys) else open_line (with_byte begun b) (xs ++ ys))
    ≡ open_line (if t then open_line [] xs else open_line (with_byte begun b) xs) ys)
    [ true ↦ open-append [] xs ys | false ↦ open-append (with_byte begun b) xs ys ]

-- bytes that end no line
abbrev pub EndsNone : List ℕ → Type 0
EndsNone bytes = All (λ b. nat_eq b 10 ≡ false) bytes

pub none_ends : (begun bytes : List ℕ) → EndsNone bytes → ended_lines begun bytes ≡ []
none_ends begun [] clear = refl
none_ends begun (b ∷ bs) clear =
    let no : nat_eq b 10 ≡ false = All-head (λ x. nat_eq x 10 ≡ false) b bs clear in
    rw no (none_ends (with_byte begun b) bs (All-tail (λ x. nat_eq x 10 ≡ false) b bs clear))

take_none : (k : ℕ) → take {A = ℕ} k [] ≡ []
take_none zero = refl
take_none (suc k) = refl

-- a line goes on with them, as far as it keeps any
pub goes_on : (begun bytes : List ℕ) → EndsNone bytes → open_line begun bytes ≡ begun ++ take (longest_line + 1 - length begun) bytes
goes_on begun [] clear = sym (ap (λ (l : List ℕ). begun ++ l) (take_none (longest_line + 1 - length begun)) ∙ append-nil begun)
goes_on begun (b ∷ bs) clear =
    let no : nat_eq b 10 ≡ false = All-head (λ x. nat_eq x 10 ≡ false) b bs clear in
    rw no (go (nat_le (length begun) longest_line) refl (λ line. goes_on line bs (All-tail (λ x. nat_eq x 10 ≡ false) b bs clear)))
  where
    go : (t : Bool) → nat_le (length begun) longest_line ≡ t → ((line : List ℕ) → open_line line bs ≡ line ++ take (longest_line + 1 - length line) bs)
        → open_line (if t then begun ++ b ∷ [] else begun) bs ≡ begun ++ take (longest_line + 1 - length begun) (b ∷ bs)
    go true e rest =
        let within : length begun ≤ longest_line = leb-true (length begun) longest_line e in
        let more : longest_line + 1 - length begun ≡ suc (longest_line - length begun) = omega (arith, within) in
        let later : longest_line + 1 - length (begun ++ b ∷ []) ≡ longest_line - length begun = omega (arith, length-append begun (b ∷ [])) in
        rest (begun ++ b ∷ [])
        ∙ ap (λ (k : ℕ). (begun ++ b ∷ []) ++ take k bs) later
        ∙ append_assoc begun (b ∷ []) (take (longest_line - length begun) bs)
        ∙ ap (λ (k : ℕ). begun ++ take k (b ∷ bs)) (sym more)
    go false e rest =
        let full : longest_line + 1 - length begun ≡ 0 = omega (arith, leb-false (length begun) longest_line e) in
        rest begun
        ∙ ap (λ (k : ℕ). begun ++ take k bs) full
        ∙ ap (λ (k : ℕ). begun ++ take k (b ∷ bs)) (sym full)

pub take_least : (m n : ℕ) (l : List ℕ) → take (min n m) l ≡ take m (take n l)
take_least m n l = elim (cases_lt m n) [
  | inl less ↦ let e : min n m ≡ m = omega (arith, less) in ap (λ (k : ℕ). take k l) e ∙ sym (take-take m n l (omega (arith, less)))
  | inr more ↦ let e : min n m ≡ n = omega (arith, more) in ap (λ (k : ℕ). take k l) e ∙ sym (take_all m (take n l) (omega (arith, more, length-take n l)))
]

-- the bytes before the first line feed end none
pub run_ends_none : (bytes : List ℕ) → EndsNone (take (position_or_len (λ b. nat_eq b 10) bytes) bytes)
run_ends_none bytes =
    let n = position_or_len (λ b. nat_eq b 10) bytes in
    All-from_get_or (λ b. nat_eq b 10 ≡ false) (take n bytes) 0 (λ i h.
    let within : i < n = omega (arith, h, length-take n bytes) in
    let pass : not (nat_eq (get_or bytes i 0) 10) ≡ true = prefix_len_passes (λ b. not (nat_eq b 10)) bytes i 0 within in
    rw (get_or-take n bytes i 0 within) (of_not (nat_eq (get_or bytes i 0) 10) pass))
  where
    of_not : (t : Bool) → not t ≡ true → t ≡ false
    of_not false e = refl
    of_not true e = sym e

pub after-append : (r : Sitting) (xs ys : List (List ℕ)) → after_lines r (xs ++ ys) ≡ after_lines (after_lines r xs) ys
after-append r [] ys = refl
after-append r (x ∷ xs) ys = after-append (answer r x).0 xs ys

pub replies-append : (r : Sitting) (xs ys : List (List ℕ)) → replies r (xs ++ ys) ≡ replies r xs ++ replies (after_lines r xs) ys
replies-append r [] ys = refl
replies-append r (x ∷ xs) ys =
    ap (λ (l : List ℕ). (answer r x).1 ++ l) (replies-append (answer r x).0 xs ys)
    ∙ sym (append_assoc (answer r x).1 (replies (answer r x).0 xs) (replies (after_lines (answer r x).0 xs) ys))

-- what is written at the bytes and at more of them
pub said-append : (r : Sitting) (begun xs ys : List ℕ) → said r begun (xs ++ ys) ≡ said r begun xs ++ said (sitting_at r begun xs) (open_line begun xs) ys
said-append r begun xs ys =
    ap (replies r) (ended-append begun xs ys) ∙ replies-append r (ended_lines begun xs) (ended_lines (open_line begun xs) ys)

pub sitting_at-append : (r : Sitting) (begun xs ys : List ℕ) → sitting_at r begun (xs ++ ys) ≡ sitting_at (sitting_at r begun xs) (open_line begun xs) ys
sitting_at-append r begun xs ys =
    ap (after_lines r) (ended-append begun xs ys) ∙ after-append r (ended_lines begun xs) (ended_lines (open_line begun xs) ys)

-- what is written at bytes and then at more of them
pub more_said : (r s : Sitting) (begun going xs ys : List ℕ) (a b c : Option (List ℕ)) → s ≡ sitting_at r begun xs → going ≡ open_line begun xs
    → Appends a b (said r begun xs) → Appends b c (said s going ys) → Appends a c (said r begun (xs ++ ys))
more_said r s begun going xs ys a b c same line first second =
    rw (said-append, ← same, ← line) (Appends-trans a b c (said r begun xs) (said s going ys) first second)

pub more_session : (r s t : Sitting) (begun going xs ys : List ℕ) → s ≡ sitting_at r begun xs → going ≡ open_line begun xs
    → t ≡ sitting_at s going ys → t ≡ sitting_at r begun (xs ++ ys)
more_session r s t begun going xs ys same line next = rw (sitting_at-append, ← same, ← line) next

pub more_line : (begun going last xs ys : List ℕ) → going ≡ open_line begun xs → last ≡ open_line going ys → last ≡ open_line begun (xs ++ ys)
more_line begun going last xs ys line next = rw (open-append, ← line) next

-- a front of what is written at the bytes
pub front_said : (r s : Sitting) (begun going xs ys zs : List ℕ) (a b c : Option (List ℕ)) → s ≡ sitting_at r begun xs → going ≡ open_line begun xs
    → Appends a b (said r begun xs) → WritesFront b c (said s going ys) → WritesFront a c (said r begun ((xs ++ ys) ++ zs))
front_said r s begun going xs ys zs a b c same line first (front, appended, (more, split)) =
    let later = said (sitting_at r begun (xs ++ ys)) (open_line begun (xs ++ ys)) zs in (
      said r begun xs ++ front,
      Appends-trans a b c (said r begun xs) front first appended,
      (
        more ++ later,
        rw (said-append, said-append, ← same, ← line, split) (ap (λ (l : List ℕ). l ++ later) (sym (append_assoc (said r begun xs) front more)) ∙ append_assoc (said r begun xs ++ front) more later),
      ),
    )
