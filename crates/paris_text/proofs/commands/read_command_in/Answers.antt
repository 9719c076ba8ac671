use Rattle.paris_text.specs.CommandReading.{command_in, rest_at}
use Rattle.paris_text.specs.Reading.{place}
use Rattle.paris_text.proofs.RefusalLemmas.{room_ok, room_err, verb_reads, no_verb, column_given}
use Rattle.paris_text.proofs.commands.read_command_in.Goals as goal

pub returns-in_err-verb-clause-err : goal.returns-in_err-verb-clause-err
returns-in_err-verb-clause-err c =
    let line = c.args.line.now in
    room_err c.from_residual.result (command_in c.args.setting line) (column_given _ c.from_residual.result _ _ c.from_residual.ensures.1 (no_verb c.args.setting line _ c.in_err-verb.ensures.gives))

pub returns-clause-ok : goal.returns-clause-ok
returns-clause-ok c =
    let line = c.args.line.now in
    rw (verb_reads c.args.setting line c.in_ok-verb.verb (place line c.in_ok-verb.at) c.in_ok-verb.ensures.gives)
    (room_ok c.rest_of_command.result (rest_at c.in_ok-verb.verb (place line c.in_ok-verb.at)) c.rest_of_command.ensures)

pub returns-clause-err : goal.returns-clause-err
returns-clause-err c =
    let line = c.args.line.now in
    rw (verb_reads c.args.setting line c.in_ok-verb.verb (place line c.in_ok-verb.at) c.in_ok-verb.ensures.gives)
    (room_err c.rest_of_command.result (rest_at c.in_ok-verb.verb (place line c.in_ok-verb.at)) c.rest_of_command.ensures)
