use Rattle.std.proofs.Common.{◌+◌, ◌∙◌, arith, set}
use Rattle.std.proofs.lemmas.List.{length-set}
use Rattle.paris_field.proofs.Turn.{exchanged_more, exchanged_none}
use Rattle.paris_field.proofs.transpose.exchange_block.Goals as goal

pub loop-row-init : goal.loop-row-init
loop-row-init g c = record { long = c.told-rows; exchanged = exchanged_none g.row.S c.args.start c.args.rows.now }

pub loop-row-preserved : goal.loop-row-preserved
loop-row-preserved g c =
    let a = c.exchange_words-upper.result.0 in
    let b = c.exchange_words-upper.result.1 in
    record {
      long = length-set (set c.loop-row.rows c.loop-row.row a) (c.loop-row.row + g.row.S) b ∙ length-set c.loop-row.rows c.loop-row.row a ∙ c.loop-row.invariant.long;
      exchanged = exchanged_more g.row.S c.args.start c.loop-row.row a b c.loop-row.rows c.args.rows.now c.loop-row.invariant.long c.requires.shift.0 (omega arith) c.loop-row.auto.row c.loop-row-test.true
          c.exchange_words-upper.ensures.upper c.exchange_words-upper.ensures.lower c.loop-row.invariant.exchanged;
    }

pub returns : goal.returns
returns g c =
    record {
      upper = λ j i from below hi. c.loop-row.invariant.exchanged.upper j i from (omega arith) hi;
      lower = λ j i from below hi. c.loop-row.invariant.exchanged.lower j i from (omega arith) hi;
      others = λ j outside.
          c.loop-row.invariant.exchanged.others j (λ above. omega (arith, outside above, c.loop-row.auto.row-end (omega arith)))
          (λ above. omega (arith, outside (omega (arith, above)), c.loop-row.auto.row-end (omega arith)));
    }
