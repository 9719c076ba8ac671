use Rattle.std.proofs.Common.{◌<◌, arith, length}
use Rattle.paris_field.specs.Numbers.{has}
use Rattle.paris_scan.specs.Runs.{before}
use Rattle.paris_scan.proofs.RunValues.{reaches_from}
use Rattle.paris_scan.proofs.Totals.{cut_moved}
use Rattle.paris_scan.proofs.running.bits_before.Goals as goal

pub returns-clause-bits : goal.returns-clause-bits
returns-clause-bits c =
    λ v h.
    let below : v < length c.args.steps.now.begins = omega (arith, h, c.requires) in
    cut_moved (has c.args.steps.now.begins v) (has c.move_cut.new.out v) (has c.args.plane.now (before c.args.steps.now.direction c.args.steps.now.by v))
    (c.move_cut.ensures.cut v below)
    (λ none. c.move_cut.ensures.moved v below none (reaches_from c.args.steps.now.direction c.args.steps.now.by (length c.args.steps.now.begins) v (c.args.steps.now.reach v below none)))
