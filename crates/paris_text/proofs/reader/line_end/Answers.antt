use Rattle.std.proofs.Common.{refl, rules, ◌≤◌, ◌<◌, length}
use Rattle.paris_text.specs.Reading.{end_at}
use Rattle.paris_text.proofs.PlaceLemmas.{place_step, place_over}
use Rattle.paris_text.proofs.reader.line_end.Goals as goal

pub returns-else-at-line : goal.returns-else-at-line
unfolding end_at
returns-else-at-line c =
    let within : c.args.at ≤ length c.args.line.now = search rules in
    rw (place_step c.args.line.now c.args.at within) refl

pub returns-then-at-line : goal.returns-then-at-line
unfolding end_at
returns-then-at-line c =
    let past : length c.args.line.now < c.args.at = search rules in
    rw (place_over c.args.line.now c.args.at past) refl
