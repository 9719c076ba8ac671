use Rattle.std.proofs.Common.{◌<◌, ◌+◌, length, slice_index, arith}
use Rattle.paris_geometry.proofs.Strides.{geometry_small}
use Rattle.paris_geometry.proofs.Neighbours.{scaled_below}
use Rattle.paris_geometry.proofs.Addresses.{address_below, address_more, address_fits, address_whole, are_length, are_below}
use Rattle.paris_geometry.proofs.shape.Geometry.address.Goals as goal

pub bounds-coordinates-axis : goal.bounds-coordinates-axis
bounds-coordinates-axis c =
    let all = are_length c.args.self c.args.coordinates.now c.requires in
    omega (arith, all)

pub overflow_mul-address : goal.overflow_mul-address
overflow_mul-address c =
    let within : c.loop-axis.axis < length c.args.self = omega arith in
    let below = are_below c.args.self c.args.coordinates.now c.loop-axis.axis c.requires within in
    let le = scaled_below c.args.self c.loop-axis.axis (slice_index c.args.coordinates.now c.loop-axis.axis) c.stride.ensures.sound within below in
    let few = geometry_small c.args.self c.stride.ensures.sound in
    rw (c.from.ensures, c.stride.ensures.value) (omega (arith, le, few))

pub overflow_add-address : goal.overflow_add-address
overflow_add-address c =
    let within : c.loop-axis.axis < length c.args.self = omega arith in
    let more = address_more c.args.self c.args.coordinates.now c.loop-axis.axis c.loop-axis.address c.requires within c.loop-axis.invariant in
    let few = address_fits c.args.self c.args.coordinates.now (c.loop-axis.axis + 1) _ c.stride.ensures.sound c.requires more in
    rw (c.from.ensures, c.stride.ensures.value) (omega (arith, few))

pub loop-axis-preserved : goal.loop-axis-preserved
loop-axis-preserved c =
    let within : c.loop-axis.axis < length c.args.self = omega arith in
    rw (c.from.ensures, c.stride.ensures.value) (address_more c.args.self c.args.coordinates.now c.loop-axis.axis c.loop-axis.address c.requires within c.loop-axis.invariant)

pub overflow_cast-result : goal.overflow_cast-result
overflow_cast-result c =
    let few = address_fits c.args.self c.args.coordinates.now c.loop-axis.axis c.loop-axis.address c.axes-axis-end.ensures.sound c.requires c.loop-axis.invariant in
    omega (arith, few)

pub returns-clause-value : goal.returns-clause-value
returns-clause-value c = address_whole c.args.self c.args.coordinates.now c.loop-axis.axis c.loop-axis.address c.requires (omega arith) c.loop-axis.invariant

pub returns-clause-small : goal.returns-clause-small
returns-clause-small c =
    rw (address_whole c.args.self c.args.coordinates.now c.loop-axis.axis c.loop-axis.address c.requires (omega arith) c.loop-axis.invariant)
    (address_below c.args.self c.args.coordinates.now c.requires)
