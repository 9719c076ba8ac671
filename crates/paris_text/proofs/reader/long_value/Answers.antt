use Rattle.std.proofs.Common.{sym}
use Rattle.std.proofs.lemmas.Result.{err_from_is_err_and}
use Rattle.paris_text.specs.Words.{value_word}
use Rattle.paris_text.specs.Reading.{word_at, kind_at, place}
use Rattle.paris_text.proofs.PlaceLemmas.{no_next_word, word_reads, word_fails}
use Rattle.paris_text.proofs.reader.long_value.Goals as goal

pub returns-in_err-word-clause-gives : goal.returns-in_err-word-clause-gives
unfolding word_at kind_at
returns-in_err-word-clause-gives c =
    let p = err_from_is_err_and c.from_residual.result c.from_residual.ensures.1 in
    rw (p.1, p.2) (no_next_word value_word (place c.args.line.now c.args.at) _ c.in_err-word.ensures.gives)

pub returns-in-Some-clause-gives : goal.returns-in-Some-clause-gives
unfolding word_at kind_at
returns-in-Some-clause-gives c =
    word_reads value_word (place c.args.line.now c.args.at) _ _ _ c.in_ok-word.ensures.gives (sym c.in-Some.ensures.value)

pub returns-in-None-clause-gives : goal.returns-in-None-clause-gives
unfolding word_at kind_at
returns-in-None-clause-gives c =
    word_fails value_word c.args.line.now c.args.at _ _ c.in_ok-word.ensures.gives (sym c.in-None.ensures.value)
