-- What stretches come to, put into a room one by one.
use Rattle.std.proofs.Common.{◌≡◌, ℕ, ◌+◌, ◌*◌, ◌/◌, ◌%◌, ◌^◌, ◌<◌, ◌≤◌, List, [], ◌∷◌, ◌++◌, get_or, length, map, slice_set, take, arith, ◌∙◌, sym, ap, refl}
use Rattle.std.specs.Prelude.{sum}
use Rattle.std.specs.List.{range_with_len}
use Rattle.std.proofs.lemmas.List.{map-append, take_all, take_more, take_more_set}
use Rattle.std.proofs.lemmas.List.FromFn.{get_or-map-range_with_len, length-map-range_with_len}
use Rattle.paris_stretches.specs.Stretches.{count_others, greatest, least, stretch, sum_number}
use Rattle.paris_c.specs.Calls.{wide_number, wide_of}
use Rattle.paris_c.specs.StretchCalls.{SummaryNumbers, summaries, summary_number, summed_up}
use Rattle.paris_c.specs.declared.stretches.Summary.{Summary}

-- a summary by its parts
made : ℕ → ℕ → ℕ → ℕ → SummaryNumbers
made a b c d = record { least = a; greatest = b; sum = c; others = d }

back : (n : ℕ) → wide_number (wide_of n) ≡ n
back n = omega arith

pub summed : (words : Summary) (xs : List ℕ) (low high : ℕ) → words.least ≡ wide_of low → words.greatest ≡ wide_of high
    → low ≡ least xs → high ≡ greatest xs → sum_number words.sum ≡ sum xs → words.others ≡ count_others xs → summary_number words ≡ summed_up xs
unfolding made
summed words xs low high is_low is_high l h s o =
    ap (λ a. made a (wide_number words.greatest) (sum_number words.sum) words.others) (ap wide_number is_low ∙ back low ∙ l)
    ∙ ap (λ b. made (least xs) b (sum_number words.sum) words.others) (ap wide_number is_high ∙ back high ∙ h)
    ∙ ap (λ c. made (least xs) (greatest xs) c words.others) s
    ∙ ap (made (least xs) (greatest xs) (sum xs)) o

-- one more
pub one_put : (parts i : ℕ) (numbers : List ℕ) (room : List Summary) (x : Summary) → length room ≡ parts → i < parts → summary_number x ≡ summed_up (stretch parts numbers i)
    → map summary_number (take i room) ≡ take i (summaries parts numbers) → map summary_number (take (i + 1) (slice_set room i x)) ≡ take (i + 1) (summaries parts numbers)
one_put parts i numbers room x long below is done =
    let f : ℕ → SummaryNumbers = λ j. summed_up (stretch parts numbers j) in
    let all : List SummaryNumbers = summaries parts numbers in
    ap (map summary_number) (take_more_set room i x (omega (arith, long, below)))
    ∙ map-append summary_number (take i room) (x ∷ [])
    ∙ ap (λ l. l ++ summary_number x ∷ []) done
    ∙ ap (λ y. take i all ++ y ∷ []) (is ∙ sym (get_or-map-range_with_len f 0 parts i i (summary_number x) below (omega arith)))
    ∙ sym (take_more all i (summary_number x) (omega (arith, length-map-range_with_len f 0 parts, below)))

-- all of them
pub all_put : (parts i : ℕ) (numbers : List ℕ) (room : List Summary) → length room ≡ parts → parts ≤ i
    → map summary_number (take i room) ≡ take i (summaries parts numbers) → map summary_number room ≡ summaries parts numbers
all_put parts i numbers room long over done =
    let f : ℕ → SummaryNumbers = λ j. summed_up (stretch parts numbers j) in
    ap (map summary_number) (sym (take_all i room (omega (arith, long, over)))) ∙ done ∙ take_all i (summaries parts numbers) (omega (arith, length-map-range_with_len f 0 parts, over))
