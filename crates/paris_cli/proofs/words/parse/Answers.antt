use Rattle.std.proofs.Common.{◌≡◌, rules}
use Rattle.std.proofs.lemmas.Result.{err_from_is_err_and}
use Rattle.paris_cli.proofs.TakenWords.{flag_found, word_found, words_taken, words_untaken}
use Rattle.paris_cli.proofs.words.parse.Goals as goal

pub returns-clause-number : goal.returns-clause-number
returns-clause-number c k asks =
    let word_is : c.unwrap_or.result.now ≡ asks.0 =
    rw c.unwrap_or.ensures (word_found _ _ c.in_ok-matches.matches c.get_str.result _ asks.0 c.in_ok-command.ensures c.in_ok-matches.ensures.matches (search rules) asks.1) in
    c.number_of-workers.ensures k (rw word_is asks.2) asks.4

pub returns-clause-desk : goal.returns-clause-desk
returns-clause-desk c desk asks =
    flag_found _ _ c.in_ok-matches.matches _ desk c.in_ok-command.ensures c.in_ok-matches.ensures.matches c.get_flag.ensures.value c.get_flag.ensures.other asks

pub returns-clause-taken : goal.returns-clause-taken
returns-clause-taken c = words_taken _ _ c.in_ok-command.ensures c.in_ok-matches.ensures.kinds

pub returns-in_err-matches-clause-untaken : goal.returns-in_err-matches-clause-untaken
returns-in_err-matches-clause-untaken c =
    let p = err_from_is_err_and c.from_residual-in_err-matches.result c.from_residual-in_err-matches.ensures.1 in
    rw (p.1, p.2) (words_untaken _ _ c.in_err-matches.field-0.0 c.in_ok-command.ensures c.in_err-matches.ensures.kinds)
