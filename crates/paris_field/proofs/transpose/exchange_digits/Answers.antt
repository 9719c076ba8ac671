use Rattle.std.proofs.Common.{arith}
use Rattle.paris_field.proofs.Turn.{halfway_block}
use Rattle.paris_field.proofs.transpose.exchange_digits.Goals as goal

pub loop-block-preserved : goal.loop-block-preserved
loop-block-preserved g c =
    halfway_block g.row.S c.loop-block.block c.exchange_block.new.rows c.loop-block.rows c.args.rows.now c.requires.shift.0
    (record {
      upper = c.exchange_block.ensures.upper;
      lower = c.exchange_block.ensures.lower;
      others = λ j first second. c.exchange_block.ensures.others j (λ above. omega (arith, second (first above)));
    })
    c.loop-block.invariant
