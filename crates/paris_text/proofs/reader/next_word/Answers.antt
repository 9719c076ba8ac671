use Rattle.std.proofs.Common.{ap, Ok, ◌≡◌, rules, arith, ◌≤◌, ◌<◌, length, drop, refl, take, ◌-◌, ◌+◌}
use Rattle.std.proofs.lemmas.List.{take_rest}
use Rattle.paris_text.specs.Reading.{word_at, place, Place}
use Rattle.paris_text.proofs.WordLemmas.{word_len, word_len_le}
use Rattle.paris_text.proofs.PlaceLemmas.{place_step, place_over, place_behind}
use Rattle.paris_text.proofs.reader.next_word.Goals as goal

pub returns-then-at-line-clause-gives : goal.returns-then-at-line-clause-gives
unfolding word_at
returns-then-at-line-clause-gives c =
    let past : length c.args.line.now < c.args.at = search rules in
    let e : (c.args.at + 1) - 1 ≡ c.args.at = omega arith in
    rw (place_over c.args.line.now c.args.at past, e) refl

pub returns-clause-gives : goal.returns-clause-gives
unfolding word_at
returns-clause-gives c =
    let line = c.args.line.now in
    let at = c.args.at in
    let within : at ≤ length line = search rules in
    let rest : take (length line - at) (drop at line) ≡ drop at line = take_rest line at in
    let len : c.len_before-len.result ≡ word_len (drop at line) = rw rest at c.len_before-len.ensures.value in
    let n = word_len (drop at line) in
    let later = place line (at + n + 1) in
    let pair_is : (let p : Place = (at + 1 + length (take n (drop at line)) + 1, later.1) in p) ≡ later = place_behind line at n (word_len_le (drop at line)) in
    rw (rest, len, place_step line at within) (ap (λ (l : Place). Ok (take n (drop at line), l)) pair_is)
