use Rattle.std.proofs.lemmas.Result.{err_from_is_err_and}
use Rattle.paris_text.specs.Words.{name_word}
use Rattle.paris_text.specs.Reading.{word_at, kind_at, place}
use Rattle.paris_text.proofs.WordLemmas.{name_word_yes, name_word_no}
use Rattle.paris_text.proofs.PlaceLemmas.{no_next_word, word_reads, word_fails}
use Rattle.paris_text.proofs.reader.next_name.Goals as goal

pub returns-in_err-word-clause-gives : goal.returns-in_err-word-clause-gives
unfolding word_at kind_at
returns-in_err-word-clause-gives c =
    let p = err_from_is_err_and c.from_residual.result c.from_residual.ensures.1 in
    rw (p.1, p.2) (no_next_word name_word (place c.args.line.now c.args.at) _ c.in_err-word.ensures.gives)

pub returns-in-Some-clause-gives : goal.returns-in-Some-clause-gives
unfolding word_at kind_at
returns-in-Some-clause-gives c =
    rw c.in-Some.ensures.1 (word_reads name_word (place c.args.line.now c.args.at) _ _ _ c.in_ok-word.ensures.gives (name_word_yes _ c.in-Some.ensures.0))

pub returns-in-None-clause-gives : goal.returns-in-None-clause-gives
unfolding word_at kind_at
returns-in-None-clause-gives c =
    word_fails name_word c.args.line.now c.args.at _ _ c.in_ok-word.ensures.gives (name_word_no _ c.in-None.ensures)
