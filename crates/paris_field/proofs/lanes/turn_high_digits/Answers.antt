use Rattle.std.proofs.Common.{◌+◌, ◌*◌, ◌∙◌, ap, arith, length, refl}
use Rattle.paris_field.proofs.Eights.{high_four, high_row}
use Rattle.paris_field.proofs.lanes.turn_high_digits.Goals as goal

pub loop-row-init : goal.loop-row-init
loop-row-init c =
    record {
      four = c.requires.four;
      turned = record { done = λ q j i hq hj below hi. absurd (omega (arith, below)); left = λ k _. refl };
    }

pub high_turned-eight-requires : goal.high_turned-eight-requires
high_turned-eight-requires c = record { four = λ j h. ap length (c.spaced_rows.ensures j h) ∙ c.loop-row.invariant.four (c.loop-row.row + 8 * j) (omega arith) }

pub loop-row-preserved : goal.loop-row-preserved
loop-row-preserved c =
    record {
      four = high_four c.loop-row.row c.put_spaced_rows.new.rows c.loop-row.rows c.high_turned-eight.result (omega arith) c.high_turned-eight.ensures.four c.loop-row.invariant.four c.put_spaced_rows.ensures.put
          c.put_spaced_rows.ensures.others;
      turned = high_row c.loop-row.row c.put_spaced_rows.new.rows c.loop-row.rows c.high_turned-eight.result c.spaced_rows.result c.args.rows.now (omega arith) c.spaced_rows.ensures c.high_turned-eight.ensures.bits
          c.put_spaced_rows.ensures.put c.put_spaced_rows.ensures.others c.loop-row.invariant.turned;
    }

pub returns : goal.returns
returns c =
    record {
      four = c.loop-row.invariant.four;
      bits = λ q j i hq hj hi. c.loop-row.invariant.turned.done q j i hq hj (omega arith) hi;
    }
