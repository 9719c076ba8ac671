use Rattle.std.proofs.Common.{◌<◌, length, arith}
use Rattle.paris_parts.proofs.Telling.{text_next}
use Rattle.paris_parts.proofs.texts.parts_text.Goals as goal

pub loop-number-preserved : goal.loop-number-preserved
loop-number-preserved g c =
    let within : c.loop-number.number < length c.args.jobs.now = omega (arith, c.loop-number-test.true, c.requires) in
    text_next c.args.jobs.now c.loop-number.number c.index-jobs-number.result c.loop-number.text.items _ within c.index-jobs-number.is c.in_ok-add_told.ensures c.loop-number.invariant
