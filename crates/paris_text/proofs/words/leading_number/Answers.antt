use Rattle.std.proofs.Common.{◌≡◌, ◌<◌, ◌+◌, ◌-◌, ◌*◌, ◌∙◌, List, ℕ, rules, length, get_or, sym, ap}
use Rattle.paris_text.proofs.HeadLemmas.{head_value, kept_some}
use Rattle.paris_text.proofs.words.leading_number.Goals as goal

pub returns-in-Some-clause-value : goal.returns-in-Some-clause-value
returns-in-Some-clause-value c =
    let bytes : List ℕ = c.args.bytes.now in
    let len : ℕ = c.leading_digits-value.result.1 in
    let within : len < length bytes = search rules in
    let is : c.in-Some.more ≡ c.leading_digits-value.result.0 * 10 + (get_or bytes len 0 - 48) = kept_some _ _ _ (sym c.with_digit.ensures ∙ c.in-Some.is) in
    is ∙ ap (λ n. n * 10 + (get_or bytes len 0 - 48)) c.leading_digits-value.ensures.value ∙ sym (head_value bytes len within)
