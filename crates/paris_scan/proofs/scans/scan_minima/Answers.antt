use Rattle.std.proofs.Common.{◌∙◌, ℕ, List}
use Rattle.paris_geometry.specs.Geometry.{processor_count}
use Rattle.paris_scan.specs.Lines.{scanned}
use Rattle.paris_scan.proofs.Own.{scanned_fit}
use Rattle.paris_scan.proofs.Units.{minimum_field}
use Rattle.paris_scan.proofs.scans.scan_minima.Goals as goal

pub returns : goal.returns
returns c =
    let axes : List ℕ = c.args.along.now.geometry in
    let values : ℕ → List ℕ = scanned axes c.args.along.now.axis c.args.along.now.direction c.args.along.now.inclusion c.args.segments.now c.args.selected.now c.args.bits c.args.x.now in
    c.in_ok-value.ensures
    ∙ minimum_field (processor_count axes) c.args.bits values (scanned_fit axes c.args.along.now.axis c.args.along.now.direction c.args.along.now.inclusion c.args.segments.now c.args.selected.now c.args.bits c.args.x.now)
