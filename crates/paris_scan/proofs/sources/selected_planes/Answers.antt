use Rattle.std.proofs.Common.{◌&&◌, length, refl}
use Rattle.paris_scan.proofs.Masked.{all_made, masked_number}
use Rattle.paris_scan.proofs.sources.selected_planes.Goals as goal

pub returns-clause-long : goal.returns-clause-long
returns-clause-long c = all_made (λ s x. s && x) (length c.args.selected.now) c.args.selected.now c.args.x.now c.in_ok-planes.planes.items refl c.requires c.in_ok-planes.ensures.count c.in_ok-planes.ensures.at

pub returns-clause-at : goal.returns-clause-at
returns-clause-at c =
    λ v h. masked_number (length c.args.selected.now) v _ c.args.selected.now c.args.x.now c.in_ok-planes.planes.items refl refl c.requires c.in_ok-planes.ensures.count c.in_ok-planes.ensures.at h
