-- Seats by their numbers.
use Rattle.std.proofs.Common.{◌≡◌, ◌≢◌, ℕ, suc, ◌+◌, ◌<◌, Bool, true, false, List, [], ◌∷◌, ◌++◌, length, get_or, take, drop, map, refl, sym, ap, ◌∙◌, subst, arith, Some, None, Vec, Global, sum_by}
use Rattle.std.specs.Prelude.{◌==◌, ◌||◌, nat_lt, if◌then◌else◌}
use Rattle.std.specs.List.{position, position_or_len}
use Rattle.std.proofs.lemmas.Bool.Decides.{nat_tests}
use Rattle.std.proofs.lemmas.List.{map-append}
use Rattle.std.proofs.lemmas.List.Sums.{sum_by_push}
use Rattle.paris_records.specs.declared.records.Entry.{Entry}
use Rattle.paris_records.specs.declared.records.Receipt.{Receipt}
use Rattle.paris_desk.specs.Seats.{SeatState}
use Rattle.paris_desk.specs.Closing.{has_seat, receipts_of, past_of, by_number}

-- at this place is the first of these seats that has a number: its receipts and its past, and what is left without it
pub record Found (n : ℕ) (ss : List SeatState) (place : ℕ) : Type 0 where
  pub within : place < length ss
  pub number : (d : SeatState) → (get_or ss place d).number ≡ n
  pub receipts : (d : SeatState) → (get_or ss place d).receipts ≡ receipts_of n ss
  pub past : (d : SeatState) → (get_or ss place d).past ≡ past_of n ss
  pub others : (m : ℕ) → m ≢ n → (has_seat m (take place ss ++ drop (suc place) ss) ≡ has_seat m ss) × (receipts_of m (take place ss ++ drop (suc place) ss) ≡ receipts_of m ss) × (past_of m (take place ss ++ drop (suc place) ss) ≡ past_of m ss)

here : (n : ℕ) (s : SeatState) (ss : List SeatState) → (s.number == n) ≡ true → Found n (s ∷ ss) 0
here n s ss eq = record {
  within = omega arith;
  number = λ d. (grind (arith, nat_tests, eq));
  receipts = λ d. rw eq refl;
  past = λ d. rw eq refl;
  others = λ m ne. (let no : (s.number == m) ≡ false = grind (arith, nat_tests, eq, ne) in (rw no refl, rw no refl, rw no refl));
}

further : (n : ℕ) (s : SeatState) (ss : List SeatState) (place : ℕ) → (s.number == n) ≡ false → Found n ss place → Found n (s ∷ ss) (suc place)
further n s ss place eq f = record {
  within = (let w = f.within in omega (arith, w));
  number = λ d. f.number d;
  receipts = λ d. rw eq (f.receipts d);
  past = λ d. rw eq (f.past d);
  others = λ m ne. (
    ap (λ (b : Bool). (s.number == m) || b) (f.others m ne).0,
    ap (λ (rs : List Receipt). if s.number == m then s.receipts else rs) (f.others m ne).1,
    ap (λ (es : List Entry). if s.number == m then s.past else es) (f.others m ne).2,
  );
}

abbrev first : ℕ → List SeatState → ℕ
first n ss = position_or_len (λ (s : SeatState). s.number == n) ss

found_step : (n : ℕ) (s : SeatState) (ss : List SeatState) → ((s.number == n) ≡ false → Found n ss (first n ss)) → (b : Bool) → (s.number == n) ≡ b → Found n (s ∷ ss) (first n (s ∷ ss))
found_step n s ss later true eq = rw eq (here n s ss eq)
found_step n s ss later false eq =
    let next : suc (first n ss) ≡ 1 + first n ss = omega arith in
    rw eq (subst (λ k. Found n (s ∷ ss) k) next (further n s ss (first n ss) eq (later eq)))

-- where a seat has the number, a first one is found
found_first : (n : ℕ) (ss : List SeatState) → has_seat n ss ≡ true → Found n ss (first n ss)
found_first n [] h = absurd (let e : false ≡ true = h in cc)
found_first n (s ∷ ss) h =
    let here : ((s.number == n) || has_seat n ss) ≡ true = h in
    found_step n s ss (λ eq. found_first n ss (let e : (false || has_seat n ss) ≡ true = ap (λ (b : Bool). b || has_seat n ss) (sym eq) ∙ here in e)) (s.number == n) refl

position_is : (n : ℕ) (ss : List SeatState) → has_seat n ss ≡ true → position (λ (s : SeatState). s.number == n) ss ≡ Some (first n ss)
position_is n ss h = let yes : nat_lt (first n ss) (length ss) ≡ true = grind (arith, nat_tests, (found_first n ss h).within) in rw yes refl

pub found : (n place : ℕ) (ss : List SeatState) → has_seat n ss ≡ true → position (λ (s : SeatState). s.number == n) ss ≡ Some place → Found n ss place
found n place ss h is = let same : first n ss ≡ place = (let e : Some (first n ss) ≡ Some place = sym (position_is n ss h) ∙ is in cc) in subst (λ k. Found n ss k) same (found_first n ss h)

pub not_none : (n : ℕ) (ss : List SeatState) → has_seat n ss ≡ true → position (λ (s : SeatState). s.number == n) ss ≡ None → ⊥
not_none n ss h is = let e : Some (first n ss) ≡ None = sym (position_is n ss h) ∙ is in cc

-- one list more
pub one_more : (n : ℕ) (ss : List SeatState) (vs vs' : List (Vec Receipt Global)) (v : Vec Receipt Global) → vs' ≡ vs ++ v ∷ [] → v.items ≡ receipts_of n ss → map (λ (r : Vec Receipt Global). r.items) vs ≡ by_number n ss
    → map (λ (r : Vec Receipt Global). r.items) vs' ≡ by_number (n + 1) ss
one_more n ss vs vs' v more own is =
    let f : Vec Receipt Global → List Receipt = λ r. r.items in
    let pushed : map f (vs ++ v ∷ []) ≡ map f vs ++ v.items ∷ [] = map-append f vs (v ∷ []) in
    let next : by_number n ss ++ receipts_of n ss ∷ [] ≡ by_number (n + 1) ss = (let one : suc n ≡ n + 1 = omega arith in ap (λ (k : ℕ). by_number k ss) one) in
    ap (map f) more ∙ pushed ∙ (λ i. is i ++ own i ∷ []) ∙ next

pub sum_more : (n : ℕ) (ss : List SeatState) (amount more total : ℕ) → amount ≡ sum_by length (by_number n ss) → more ≡ length (receipts_of n ss) → total ≡ amount + more → total ≡ sum_by length (by_number (n + 1) ss)
sum_more n ss amount more total is own sum =
    let pushed : sum_by length (by_number n ss ++ receipts_of n ss ∷ []) ≡ sum_by length (by_number n ss) + length (receipts_of n ss) = sum_by_push length (by_number n ss) (receipts_of n ss) in
    let next : sum_by length (by_number n ss ++ receipts_of n ss ∷ []) ≡ sum_by length (by_number (n + 1) ss) = (let one : suc n ≡ n + 1 = omega arith in ap (λ (k : ℕ). sum_by length (by_number k ss)) one) in
    let all : total ≡ sum_by length (by_number n ss ++ receipts_of n ss ∷ []) = omega (arith, sum, is, own, pushed) in
    all ∙ next
