use Rattle.std.proofs.Common.{take, arith}
use Rattle.paris_geometry.proofs.Neighbours.{line_fits, stride_fits}
use Rattle.paris_geometry.proofs.Strides.{geometry_powers, geometry_small, all_taken, stride_positive}
use Rattle.paris_geometry.proofs.shape.Geometry.stride.Goals as goal

pub processor_count-requires-clause-powers : goal.processor_count-requires-clause-powers
processor_count-requires-clause-powers c =
    let axes = take c.self.inside.count c.self.inside.lengths in
    all_taken axes c.args.axis (geometry_powers axes c.self.invariant.2)

pub returns-clause-positive : goal.returns-clause-positive
returns-clause-positive c =
    let axes = take c.self.inside.count c.self.inside.lengths in
    rw (← c.self.view_is) (stride_positive axes c.args.axis (geometry_powers axes c.self.invariant.2))

pub overflow_cast-result : goal.overflow_cast-result
overflow_cast-result c =
    let axes = take c.self.inside.count c.self.inside.lengths in
    record { fits = rw c.processor_count.ensures (omega (arith, stride_fits axes c.args.axis c.self.invariant.2 (rw c.self.view_is c.requires), geometry_small axes c.self.invariant.2)) }

pub returns-clause-within : goal.returns-clause-within
returns-clause-within c =
    let axes = take c.self.inside.count c.self.inside.lengths in
    rw (← c.self.view_is) (line_fits axes c.args.axis c.self.invariant.2 (rw c.self.view_is c.requires))
