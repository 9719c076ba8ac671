use Rattle.std.proofs.Common.{◌≡◌, ◌∙◌, ◌-◌, ◌*◌, ◌/◌, ◌%◌, ◌^◌, ap, arith, get_or, ltb, true, false, bit_and, bit_xor}
use Rattle.std.proofs.lemmas.Bool.Decides.{nat_tests}
use Rattle.paris_plane.specs.Bits.{word_bit}
use Rattle.paris_plane.proofs.Blocks.{Lanes, lanes_self, lanes_op, lanes_splat}
use Rattle.paris_plane.proofs.Turned.{mod_least, turned_inside, turned_round}
use Rattle.paris_plane.proofs.turns.turned_lanes.Goals as goal

pub returns : goal.returns
returns c =
    let words : Lanes 4 c.args.words _ = lanes_self c.args.words c.requires.four in
    let down = lanes_op (λ x s. x / 2 ^ s) words (lanes_splat 4 c.args.by) in
    let up = lanes_op (λ x s. x * 2 ^ s % 2 ^ 64) words (lanes_splat 4 (c.args.period - c.args.by)) in
    let r = lanes_op bit_xor up (lanes_op bit_and (lanes_op bit_xor up down) (lanes_splat 4 c.args.mask)) in
    record {
      four = r.long;
      inside = λ i j four h inside.
          let t : ltb (j % c.args.period) (c.args.period - c.args.by) ≡ true = grind (arith, nat_tests) in
          ap (λ w. word_bit w j) (r.at i four)
          ∙ turned_inside c.args.by (c.args.period - c.args.by) c.args.mask (get_or c.args.words i 0) j (c.requires.mask j h ∙ t);
      round = λ i j four h round.
          let t : ltb (j % c.args.period) (c.args.period - c.args.by) ≡ false = grind (arith, nat_tests) in
          ap (λ w. word_bit w j) (r.at i four)
          ∙ turned_round c.args.by (c.args.period - c.args.by) c.args.mask (get_or c.args.words i 0) j (omega (arith, round, mod_least j c.args.period)) h (c.requires.mask j h ∙ t)
          ∙ ap (word_bit (get_or c.args.words i 0)) (omega arith);
    }
