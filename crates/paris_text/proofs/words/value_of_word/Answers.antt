use Rattle.std.proofs.Common.{◌≡◌, rules}
use Rattle.paris_text.specs.Words.{value_word}
use Rattle.paris_text.proofs.NumberLemmas.{value_spelled}
use Rattle.paris_text.proofs.words.value_of_word.Goals as goal

pub returns-clause-spelled : goal.returns-clause-spelled
returns-clause-spelled c =
    let same : c.value_of_digits.result ≡ value_word c.args.word.now = search rules in
    rw same (value_spelled c.args.word.now)
