use Rattle.std.proofs.Common.{length, refl}
use Rattle.paris_scan.proofs.Carried.{without}
use Rattle.paris_scan.proofs.Masked.{all_made, complement_number}
use Rattle.paris_scan.proofs.sources.complement_planes.Goals as goal

pub returns-clause-long : goal.returns-clause-long
returns-clause-long c = all_made without (length c.args.selected.now) c.args.selected.now c.args.x.now c.in_ok-planes.planes.items refl c.requires c.in_ok-planes.ensures.count c.in_ok-planes.ensures.at

pub returns-clause-at : goal.returns-clause-at
returns-clause-at c =
    λ v h. complement_number (length c.args.selected.now) v _ c.args.selected.now c.args.x.now c.in_ok-planes.planes.items refl refl c.requires c.in_ok-planes.ensures.count c.in_ok-planes.ensures.at h
