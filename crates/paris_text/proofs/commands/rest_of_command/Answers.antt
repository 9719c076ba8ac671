use Rattle.paris_text.specs.Reading.{Gives, place}
use Rattle.paris_text.specs.CommandReading.{rest_at}
use Rattle.paris_text.proofs.RefusalLemmas.{column_given, given_ok, given_err}
use Rattle.paris_text.proofs.commands.rest_of_command.Goals as goal
use Rattle.paris_text.proofs.commands.rest_of_command.Goals.{in-Field, in-Insert, in-Delete, in-Replace, in-Take, in-Bring, in-Release, in-Show, in-List, in-Faults, in-Settle, in-Paris}

pub returns-in-Set : goal.returns-in-Set
returns-in-Set c = rw c.in-Set.is c.set_command.ensures

pub returns-in-Input : goal.returns-in-Input
returns-in-Input c = rw c.in-Input.is c.input_command.ensures

pub returns-in_err-command : goal.returns-in_err-command
unfolding rest_at
returns-in_err-command c =
    let gives : Gives (λ x. x) c.match-verb.command (rest_at c.args.verb (place c.args.line.now c.args.at)) = elim c.match-verb.branch [
      | in-Field w ↦ rw (w.command-is, w.in-Field.is) w.field_command-command.ensures
      | in-Insert w ↦ rw (w.command-is, w.in-Insert.is) w.insert_command-command.ensures
      | in-Delete w ↦ rw (w.command-is, w.in-Delete.is) w.delete_command-command.ensures
      | in-Replace w ↦ rw (w.command-is, w.in-Replace.is) w.replace_command-command.ensures
      | in-Take w ↦ rw (w.command-is, w.in-Take.is) w.bare_command-command.ensures
      | in-Bring w ↦ rw (w.command-is, w.in-Bring.is) w.bring_command-command.ensures
      | in-Release w ↦ rw (w.command-is, w.in-Release.is) w.bare_command-command-in-Release.ensures
      | in-Show w ↦ rw (w.command-is, w.in-Show.is) w.show_command-command.ensures
      | in-List w ↦ rw (w.command-is, w.in-List.is) w.bare_command-command-in-List.ensures
      | in-Faults w ↦ rw (w.command-is, w.in-Faults.is) w.bare_command-command-in-Faults.ensures
      | in-Settle w ↦ rw (w.command-is, w.in-Settle.is) w.bare_command-command-in-Settle.ensures
      | in-Paris w ↦ rw (w.command-is, w.in-Paris.is) w.paris_command-command.ensures
    ] in
    column_given _ c.from_residual.result _ _ c.from_residual.ensures.1 (given_err c.match-verb.command _ _ gives c.in_err-command.was)

pub returns : goal.returns
unfolding rest_at
returns c =
    let gives : Gives (λ x. x) c.match-verb.command (rest_at c.args.verb (place c.args.line.now c.args.at)) = elim c.match-verb.branch [
      | in-Field w ↦ rw (w.command-is, w.in-Field.is) w.field_command-command.ensures
      | in-Insert w ↦ rw (w.command-is, w.in-Insert.is) w.insert_command-command.ensures
      | in-Delete w ↦ rw (w.command-is, w.in-Delete.is) w.delete_command-command.ensures
      | in-Replace w ↦ rw (w.command-is, w.in-Replace.is) w.replace_command-command.ensures
      | in-Take w ↦ rw (w.command-is, w.in-Take.is) w.bare_command-command.ensures
      | in-Bring w ↦ rw (w.command-is, w.in-Bring.is) w.bring_command-command.ensures
      | in-Release w ↦ rw (w.command-is, w.in-Release.is) w.bare_command-command-in-Release.ensures
      | in-Show w ↦ rw (w.command-is, w.in-Show.is) w.show_command-command.ensures
      | in-List w ↦ rw (w.command-is, w.in-List.is) w.bare_command-command-in-List.ensures
      | in-Faults w ↦ rw (w.command-is, w.in-Faults.is) w.bare_command-command-in-Faults.ensures
      | in-Settle w ↦ rw (w.command-is, w.in-Settle.is) w.bare_command-command-in-Settle.ensures
      | in-Paris w ↦ rw (w.command-is, w.in-Paris.is) w.paris_command-command.ensures
    ] in
    given_ok c.match-verb.command _ _ gives c.in_ok-command.was
