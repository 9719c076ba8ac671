use Rattle.std.proofs.Common.{ap, Ok, Some, ◌≡◌, rules, ◌≤◌, length, drop, take, ◌-◌, ◌+◌, List, ℕ}
use Rattle.std.proofs.lemmas.List.{take_rest}
use Rattle.paris_text.specs.Words.{value_word}
use Rattle.paris_text.specs.Reading.{kind_at, next_word, place, Place}
use Rattle.paris_text.proofs.WordLemmas.{word_len, word_len_le}
use Rattle.paris_text.proofs.PlaceLemmas.{place_step, place_behind, word_reads}
use Rattle.paris_text.proofs.reader.short_value.Goals as goal

pub returns-clause-gives : goal.returns-clause-gives
unfolding kind_at
returns-clause-gives c =
    let line : List ℕ = c.args.line.now in
    let at : ℕ = c.args.at in
    let within : at ≤ length line = search rules in
    let rest : take (length line - at) (drop at line) ≡ drop at line = take_rest line at in
    let len : c.in_ok-value.len ≡ word_len (drop at line) = rw rest at c.in_ok-value.ensures.word in
    let n : ℕ = word_len (drop at line) in
    let later : Place = place line (at + n + 1) in
    let valued : value_word (take n (drop at line)) ≡ Some c.in_ok-value.value = rw (rest, len) at c.in_ok-value.ensures.value in
    let pair_is : (let p : Place = (at + 1 + length (take n (drop at line)) + 1, later.1) in p) ≡ later = place_behind line at n (word_len_le (drop at line)) in
    let reads : next_word Some (place line at).0 (place line at).1 ≡ Ok (take n (drop at line), later) = rw (place_step line at within) (ap (λ (l : Place). Ok (take n (drop at line), l)) pair_is) in
    rw len (word_reads value_word (place line at) (take n (drop at line)) later c.in_ok-value.value reads valued)
