use Rattle.std.proofs.Common.{◌≡◌, ◌∙◌, ◌+◌, ◌-◌, ◌≤◌, List, ℕ, rules, length, drop, take, nat_eq, sym, ap}
use Rattle.std.specs.List.{count_by}
use Rattle.std.proofs.lemmas.List.{take_rest}
use Rattle.paris_text.proofs.WordLemmas.{left_count, left_over}
use Rattle.paris_text.proofs.reader.count_words.Goals as goal

pub returns-then-at-line : goal.returns-then-at-line
returns-then-at-line c = sym (ap length (left_over c.args.line.now c.args.at (search rules)))

pub returns : goal.returns
returns c =
    let line : List ℕ = c.args.line.now in
    let at : ℕ = c.args.at in
    let within : at ≤ length line = search rules in
    let rest : take (length line - at) (drop at line) ≡ drop at line = take_rest line at in
    ap (λ n. n + 1) (c.count_spaces.ensures ∙ ap (count_by (λ b. nat_eq b 32)) rest) ∙ sym (left_count line at within)
