-- Lists of receipts by number, where together they have as many as a history has entries.
use Rattle.std.proofs.Common.{◌≡◌, ℕ, zero, suc, ◌+◌, ◌<◌, ◌≤◌, Bool, true, false, List, [], ◌∷◌, length, refl, sym, ap, ◌∙◌, arith, length-append, sum_by}
use Rattle.std.specs.Prelude.{nat_lt}
use Rattle.std.proofs.Math.Seq.{get_or-append_seam}
use Rattle.std.proofs.lemmas.Bool.Decides.{nat_tests}
use Rattle.std.proofs.lemmas.List.{get_or_append_left, get_or_past}
use Rattle.std.proofs.lemmas.List.Sums.{sum_by_push}
use Rattle.paris_records.specs.declared.records.Entry.{Entry}
use Rattle.paris_records.specs.Agreement.{receipts_of_seat}
use Rattle.paris_records.specs.Receipts.{IsPart, receipts_in}
use Rattle.paris_records.proofs.Sums.{receipts_to, all_counted, none_counted, no_calls}
use Rattle.paris_desk.specs.Closing.{by_number, receipts_of}
use Rattle.paris_desk.specs.Seats.{SeatState}

by_number_length : (m : ℕ) (ss : List SeatState) → length (by_number m ss) ≡ m
by_number_length zero ss = refl
by_number_length (suc m) ss = let i = by_number_length m ss in let l = length-append (by_number m ss) (receipts_of m ss ∷ []) in omega (arith, i, l)

by_number_sum : (m : ℕ) (ss : List SeatState) → sum_by length (by_number m ss) ≡ receipts_to (λ k. receipts_of k ss) m
by_number_sum zero ss = refl
by_number_sum (suc m) ss = sum_by_push length (by_number m ss) (receipts_of m ss) ∙ ap (λ (k : ℕ). k + length (receipts_of m ss)) (by_number_sum m ss)

pub by_number_at : (m : ℕ) (ss : List SeatState) (k : ℕ) → k < m → receipts_of_seat (by_number m ss) k ≡ receipts_of k ss
by_number_at zero ss k lt = absurd (omega arith)
by_number_at (suc m) ss k lt = by_test (by_number_at m ss k) (nat_lt k m) refl
  where
    by_test : (k < m → receipts_of_seat (by_number m ss) k ≡ receipts_of k ss) → (b : Bool) → nat_lt k m ≡ b → receipts_of_seat (by_number (suc m) ss) k ≡ receipts_of k ss
    by_test before true is =
        let less : k < m = grind (arith, nat_tests, is) in
        let l = by_number_length m ss in
        get_or_append_left (by_number m ss) (receipts_of m ss ∷ []) [] k (omega (arith, l, less)) ∙ before less
    by_test before false is =
        let ge : m ≤ k = grind (arith, nat_tests, is) in
        let same : length (by_number m ss) ≡ k = (let l = by_number_length m ss in omega (arith, l, ge, lt)) in
        let number : m ≡ k = omega (arith, ge, lt) in
        ap (λ (j : ℕ). receipts_of_seat (by_number (suc m) ss) j) (sym same) ∙ get_or-append_seam (by_number m ss) (receipts_of m ss) [] [] ∙ ap (λ (j : ℕ). receipts_of j ss) number

-- a number past the last list has none
pub by_number_past : (m : ℕ) (ss : List SeatState) (k : ℕ) → m ≤ k → receipts_of_seat (by_number m ss) k ≡ []
by_number_past m ss k ge = let l = by_number_length m ss in get_or_past (by_number m ss) k [] (omega (arith, l, ge))

-- each seat's list has a receipt of each of its entries; a seat past the last list has no entry
pub each_list : (m : ℕ) (ss : List SeatState) (h : List Entry) → ((k : ℕ) → k < m → IsPart k 0 (receipts_of k ss) h) → sum_by length (by_number m ss) ≡ length h
    → (k : ℕ) → receipts_of_seat (by_number m ss) k ≡ receipts_in k 0 h
each_list m ss h parts all k = by_test (nat_lt k m) refl
  where
    sum : receipts_to (λ j. receipts_of j ss) m ≡ length h
    sum = sym (by_number_sum m ss) ∙ all

    by_test : (b : Bool) → nat_lt k m ≡ b → receipts_of_seat (by_number m ss) k ≡ receipts_in k 0 h
    by_test true is =
        let less : k < m = grind (arith, nat_tests, is) in
        by_number_at m ss k less ∙ all_counted (λ j. receipts_of j ss) m h parts sum k less
    by_test false is =
        let ge : m ≤ k = grind (arith, nat_tests, is) in
        by_number_past m ss k ge ∙ no_calls k h (none_counted (λ j. receipts_of j ss) m h parts sum k ge)
