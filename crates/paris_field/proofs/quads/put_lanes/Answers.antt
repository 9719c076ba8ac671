use Rattle.std.proofs.Common.{◌∙◌, [], get_or, arith, refl}
use Rattle.paris_field.proofs.Spread.{spread_length, spread_more}
use Rattle.paris_field.proofs.quads.put_lanes.Goals as goal

pub loop-j-preserved : goal.loop-j-preserved
loop-j-preserved c =
    let row = get_or c.args.rows.now c.loop-j.j [] in
    record {
      long = spread_length c.loop-j.words c.loop-j.j row ∙ c.loop-j.invariant.long;
      done = spread_more (λ q k. get_or (get_or c.args.rows.now k []) q 0) c.loop-j.words c.loop-j.j row c.loop-j.invariant.long (omega arith) (λ q. refl) c.loop-j.invariant.done;
    }

pub returns : goal.returns
returns c = λ q j hq hj. c.loop-j.invariant.done q j hq (omega arith)
