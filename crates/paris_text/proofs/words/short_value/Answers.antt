use Rattle.std.proofs.Common.{◌≡◌, ◌<◌, List, ℕ, ◌∙◌, rules, length, take, sym}
use Rattle.std.proofs.lemmas.List.{length-take-le}
use Rattle.paris_text.proofs.HeadLemmas.{digits_are_word, digits_are_value}
use Rattle.paris_text.proofs.words.short_value.Goals as goal

pub returns-clause-word : goal.returns-clause-word
returns-clause-word c =
    let bytes : List ℕ = c.args.bytes.now in
    digits_are_word bytes c.leading_number-value.result.1 c.leading_number-value.ensures.within c.leading_number-value.ensures.digits (λ h. search rules)

pub returns-clause-value : goal.returns-clause-value
returns-clause-value c =
    let bytes : List ℕ = c.args.bytes.now in
    let len : ℕ = c.leading_number-value.result.1 in
    let long : length (take len bytes) ≡ len = length-take-le len bytes c.leading_number-value.ensures.within in
    let some : 0 < length (take len bytes) = rw long (search rules) in
    digits_are_value (take len bytes) c.leading_number-value.result.0 some c.leading_number-value.ensures.digits (sym c.is_plain.ensures ∙ c.if-not-is_plain.false) c.leading_number-value.ensures.value (search rules)
