use Rattle.std.proofs.Common.{◌∙◌, ◌*◌, ◌/◌, ◌%◌, ◌^◌, ap, bit_and, bit_xor, get_or}
use Rattle.paris_plane.specs.Bits.{word_bit}
use Rattle.paris_plane.proofs.Blocks.{lanes_op, lanes_self, lanes_splat}
use Rattle.paris_field.proofs.Turn.{lower_word, upper_word}
use Rattle.paris_field.proofs.lanes.exchange_lanes.Goals as goal

pub returns : goal.returns
returns g c =
    let upper = lanes_self c.args.upper c.requires.upper_four in
    let lower = lanes_self c.args.lower c.requires.lower_four in
    let by = lanes_splat 4 g.row.S in
    let moved = lanes_op bit_and (lanes_op bit_xor (lanes_op (λ x s. x / 2 ^ s) upper by) lower) (lanes_splat 4 c.args.mask) in
    let first = lanes_op bit_xor upper (lanes_op (λ x s. x * 2 ^ s % 2 ^ 64) moved by) in
    let second = lanes_op bit_xor lower moved in
    record {
      upper_four = first.long;
      lower_four = second.long;
      upper = λ q i hq hi.
          ap (λ w. word_bit w i) (first.at q hq)
          ∙ upper_word (get_or c.args.upper q 0) (get_or c.args.lower q 0) g.row.S c.args.mask i c.requires.shift.0 c.requires.mask hi;
      lower = λ q i hq hi.
          ap (λ w. word_bit w i) (second.at q hq)
          ∙ lower_word (get_or c.args.upper q 0) (get_or c.args.lower q 0) g.row.S c.args.mask i c.requires.mask hi;
    }
