use Rattle.std.proofs.Common.{ap, ◌∙◌}
use Rattle.paris_book.specs.Unsettled.{filled}
use Rattle.paris_c.proofs.exports.paris_script.Goals as goal

pub returns-in-Ok-clause-written : goal.returns-in-Ok-clause-written
returns-in-Ok-clause-written c = λ ok. c.fill.ensures ∙ ap (filled c.args.room.now) (c.as_slice.ensures.value ∙ c.in-Ok.ensures)
