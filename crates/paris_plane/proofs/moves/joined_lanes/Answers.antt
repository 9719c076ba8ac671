use Rattle.std.proofs.Common.{◌-◌, ◌*◌, ◌/◌, ◌%◌, ◌^◌, bit_or}
use Rattle.paris_plane.specs.Moves.{joined_word}
use Rattle.paris_plane.proofs.Blocks.{Lanes, lanes_self, lanes_op, lanes_splat}
use Rattle.paris_plane.proofs.moves.joined_lanes.Goals as goal

pub returns : goal.returns
unfolding joined_word
returns c =
    let by = c.args.by in
    let high : Lanes 4 c.args.high _ = lanes_self c.args.high c.requires.four.0 in
    let low : Lanes 4 c.args.low _ = lanes_self c.args.low c.requires.four.1 in
    let up = lanes_op (λ x s. x * 2 ^ s % 2 ^ 64) high (lanes_splat 4 by) in
    let down = lanes_op (λ x s. x / 2 ^ s) low (lanes_splat 4 (64 - by)) in
    let r = lanes_op bit_or up down in
    (r.long, r.at)
