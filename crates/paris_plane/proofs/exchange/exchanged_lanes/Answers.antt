use Rattle.std.proofs.Common.{◌∙◌, ◌+◌, ◌*◌, ◌/◌, ◌%◌, ◌^◌, ap, get_or, bit_and, bit_or}
use Rattle.paris_plane.specs.Bits.{word_bit}
use Rattle.paris_plane.proofs.Blocks.{Lanes, lanes_self, lanes_op, lanes_splat}
use Rattle.paris_plane.proofs.Exchanged.{exchanged_low, exchanged_high}
use Rattle.paris_plane.proofs.exchange.exchanged_lanes.Goals as goal

pub returns : goal.returns
returns c =
    let words : Lanes 4 c.args.words _ = lanes_self c.args.words c.requires.four in
    let by = lanes_splat 4 c.args.distance in
    let marked = lanes_splat 4 c.args.mask in
    let down = lanes_op bit_and (lanes_op (λ x s. x / 2 ^ s) words by) marked in
    let up = lanes_op (λ x s. x * 2 ^ s % 2 ^ 64) (lanes_op bit_and words marked) by in
    let r = lanes_op bit_or down up in
    record {
      four = r.long;
      low = λ i j four e h.
          ap (λ w. word_bit w j) (r.at i four)
          ∙ exchanged_low c.args.distance c.args.mask (get_or c.args.words i 0) j c.requires.some c.requires.mask e h;
      high = λ i j four e h.
          ap (λ w. word_bit w (j + c.args.distance)) (r.at i four)
          ∙ exchanged_high c.args.distance c.args.mask (get_or c.args.words i 0) j c.requires.some c.requires.mask e h;
    }
