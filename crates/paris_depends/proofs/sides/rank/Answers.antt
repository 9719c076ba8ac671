use Rattle.std.proofs.Common.{ℕ, ◌+◌, ◌-◌, ◌/◌, arith}
use Rattle.paris_depends.specs.Lists.{list_at}
use Rattle.paris_depends.proofs.Edited.{entries_enough, ranked_by}
use Rattle.paris_depends.proofs.sides.rank.Goals as goal

pub loop-low-init : goal.loop-low-init
loop-low-init g c = record {
  up = omega arith;
  within = omega (arith, c.len-high.ensures);
  between = λ rows side key of is within. (omega arith, omega (arith, c.len-high.ensures, entries_enough side key rows c.args.place (list_at c.args.lists.now c.args.slot) is));
}

pub loop-low-preserved-then-at-place : goal.loop-low-preserved-then-at-place
loop-low-preserved-then-at-place g c = record {
  up = omega arith;
  within = c.loop-low.invariant.within;
  between = λ rows side key of is within.
      let middle : ℕ = c.loop-low.low + (c.loop-low.high - c.loop-low.low) / 2 in
      let tells = ranked_by side key rows c.args.place c.args.program.now.rows of (list_at c.args.lists.now c.args.slot) middle c.at-id.result.0 c.place_among-at.result c.place_among-at.ensures.distinct within is c.at-id.ensures c.place_among-at.ensures.place in
      let before = tells.0 (omega arith) in
      (omega (arith, before), (c.loop-low.invariant.between rows side key of is within).1);
}

pub loop-low-preserved : goal.loop-low-preserved
loop-low-preserved g c = record {
  up = omega arith;
  within = omega (arith, c.loop-low.invariant.within);
  between = λ rows side key of is within.
      let middle : ℕ = c.loop-low.low + (c.loop-low.high - c.loop-low.low) / 2 in
      let tells = ranked_by side key rows c.args.place c.args.program.now.rows of (list_at c.args.lists.now c.args.slot) middle c.at-id.result.0 c.place_among-at.result c.place_among-at.ensures.distinct within is c.at-id.ensures c.place_among-at.ensures.place in
      let after = tells.1 (omega arith) in
      ((c.loop-low.invariant.between rows side key of is within).0, omega (arith, after));
}
