use Rattle.std.proofs.Common.{arith}
use Rattle.paris_geometry.proofs.Strides.{geometry_small}
use Rattle.paris_geometry.proofs.Neighbours.{at_coordinate_below, scaled_below}
use Rattle.paris_geometry.proofs.shape.Geometry.at_coordinate.Goals as goal

pub overflow_mul-result : goal.overflow_mul-result
overflow_mul-result c =
    let below = scaled_below c.args.self c.args.axis c.args.coordinate c.stride-stride.ensures.sound c.requires.axis c.requires.coordinate in
    let few = geometry_small c.args.self c.stride-stride.ensures.sound in
    rw (c.stride-stride.ensures.value) (omega (arith, below, few))

pub overflow_add-result : goal.overflow_add-result
overflow_add-result c =
    let below = at_coordinate_below c.args.self c.args.axis c.args.processor c.args.coordinate c.stride-stride.ensures.sound c.requires.axis c.requires.processor c.requires.coordinate in
    let few = geometry_small c.args.self c.stride-stride.ensures.sound in
    rw (c.from.ensures, c.from-2.ensures, c.coordinate-own.ensures.value, c.stride-stride.ensures.value) (omega (arith, below, few))

pub overflow_cast-result : goal.overflow_cast-result
overflow_cast-result c =
    let below = at_coordinate_below c.args.self c.args.axis c.args.processor c.args.coordinate c.stride-stride.ensures.sound c.requires.axis c.requires.processor c.requires.coordinate in
    let few = geometry_small c.args.self c.stride-stride.ensures.sound in
    rw (c.from.ensures, c.from-2.ensures, c.coordinate-own.ensures.value, c.stride-stride.ensures.value) (omega (arith, below, few))

pub returns-clause-small : goal.returns-clause-small
returns-clause-small c =
    rw (c.from.ensures, c.from-2.ensures, c.coordinate-own.ensures.value, c.stride-stride.ensures.value)
    (at_coordinate_below c.args.self c.args.axis c.args.processor c.args.coordinate c.stride-stride.ensures.sound c.requires.axis c.requires.processor c.requires.coordinate)
