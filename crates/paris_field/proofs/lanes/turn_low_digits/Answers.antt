use Rattle.std.proofs.Common.{◌+◌, ◌*◌, ◌∙◌, ap, arith, length, refl}
use Rattle.paris_field.proofs.Eights.{low_block, low_four}
use Rattle.paris_field.proofs.lanes.turn_low_digits.Goals as goal

pub loop-block-init : goal.loop-block-init
loop-block-init c =
    record {
      four = c.requires.four;
      turned = record { done = λ q j i hq below hi. absurd (omega (arith, below)); left = λ k _. refl };
    }

pub low_turned-eight-requires : goal.low_turned-eight-requires
low_turned-eight-requires c = record { four = λ j h. ap length (c.next_rows.ensures j h) ∙ c.loop-block.invariant.four (8 * c.loop-block.block + j) (omega arith) }

pub loop-block-preserved : goal.loop-block-preserved
loop-block-preserved c =
    record {
      four = low_four c.loop-block.block c.put_next_rows.new.rows c.loop-block.rows c.low_turned-eight.result c.low_turned-eight.ensures.four c.loop-block.invariant.four c.put_next_rows.ensures.put
          c.put_next_rows.ensures.others;
      turned = low_block c.loop-block.block c.put_next_rows.new.rows c.loop-block.rows c.low_turned-eight.result c.next_rows.result c.args.rows.now c.next_rows.ensures c.low_turned-eight.ensures.bits
          c.put_next_rows.ensures.put c.put_next_rows.ensures.others c.loop-block.invariant.turned;
    }

pub returns : goal.returns
returns c =
    record {
      four = c.loop-block.invariant.four;
      bits = λ q j i hq hj hi. c.loop-block.invariant.turned.done q j i hq (omega arith) hi;
    }
