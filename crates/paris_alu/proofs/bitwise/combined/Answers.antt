use Rattle.std.proofs.Common.{ap, arith, length, List, Bool, subst, sym}
use Rattle.std.specs.Simd.Lanes.{zip2}
use Rattle.std.proofs.lemmas.Simd.{length-zip2}
use Rattle.paris_field.specs.Numbers.{AllOf}
use Rattle.paris_alu.proofs.Combined.{all_combined}
use Rattle.paris_alu.proofs.bitwise.combined.Goals as goal

pub from_layers-requires-clause-narrow : goal.from_layers-requires-clause-narrow
from_layers-requires-clause-narrow g c =
    omega (arith, ap length c.in_ok-planes.ensures, length-zip2 (zip2 g.O.WordOp.bit) c.args.x.now c.args.y.now c.requires.same, c.requires.narrow)

pub from_layers-requires-clause-long : goal.from_layers-requires-clause-long
from_layers-requires-clause-long g c =
    subst (λ (ps : List (List Bool)). AllOf c.args.vps ps) (sym c.in_ok-planes.ensures) (all_combined g.O.WordOp.bit c.args.vps c.args.x.now c.args.y.now c.requires.same c.requires.x_planes c.requires.y_planes)
