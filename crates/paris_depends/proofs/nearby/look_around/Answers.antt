use Rattle.std.proofs.Common.{◌≡◌, Bool, ℕ, ◌+◌, ◌-◌, ◌/◌, ◌<◌, length, sym, ◌∙◌, refl, arith}
use Rattle.std.proofs.lemmas.Option.{slice_get_past}
use Rattle.std.specs.List.{filter}
use Rattle.paris_depends.specs.Index.{Footprint}
use Rattle.paris_depends.specs.Places.{nth_place}
use Rattle.paris_depends.specs.Sides.{test_of, entries}
use Rattle.paris_depends.proofs.Around.{entry_before-more}
use Rattle.paris_depends.proofs.Halving.{halved-more, halved-looks, halved-none, halved-some}
use Rattle.paris_depends.proofs.Places.{place_count, count_within, length-ids, same_length, entries_few, probed}
use Rattle.paris_depends.proofs.nearby.look_around.Goals as goal

pub returns-clause-looks : goal.returns-clause-looks
returns-clause-looks g c = λ b below.
    let few = entries_few c.args.program.now.rows (test_of c.args.side.now c.args.key.now) c.args.index.now.rows c.requires.of in
    halved-looks _ _ _ _ b c.loop-low.invariant.halved (omega (arith, few))

pub loop-low-init : goal.loop-low-init
loop-low-init g c =
    let p : ℕ × Footprint → Bool = test_of c.args.side.now c.args.key.now in
    record {
      below = omega arith;
      above = omega (arith, count_within p c.args.index.now.rows c.args.place, length-ids (filter p c.args.index.now.rows), c.len-high.ensures);
      within = omega (arith, c.len-high.ensures);
      last = refl;
      first = sym (slice_get_past (entries c.args.side.now c.args.index.now.rows c.args.key.now) c.len-high.result (omega (arith, c.len-high.ensures)));
      halved = halved-none _ _ _ (omega (arith, c.len-high.ensures));
    }

pub entry-id-requires-clause-few : goal.entry-id-requires-clause-few
entry-id-requires-clause-few g c =
    let fits : length (entries c.args.side.now c.args.index.now.rows c.args.key.now) < 18446744073709551616 = omega (arith, c.len-high.ensures) in
    let fewer = halved-some _ _ _ _ 64 c.loop-low.invariant.halved fits (omega arith) in
    omega (arith, fewer)

pub unwrap-at-requires : goal.unwrap-at-requires
unwrap-at-requires g c =
    let found = probed c.args.program.now.rows (test_of c.args.side.now c.args.key.now) c.args.index.now.rows _ c.entry-id.result.0 c.requires.of c.place_of.ensures.sound.distinct c.entry-id.ensures.value in
    rw (c.place_of.ensures.value ∙ found) refl

pub loop-low-preserved-then-at-place : goal.loop-low-preserved-then-at-place
loop-low-preserved-then-at-place g c =
    let rows = c.args.index.now.rows in
    let middle : ℕ = c.loop-low.low + (c.loop-low.high - c.loop-low.low) / 2 in
    let found = probed c.args.program.now.rows (test_of c.args.side.now c.args.key.now) rows middle c.entry-id.result.0 c.requires.of c.place_of.ensures.sound.distinct c.entry-id.ensures.value in
    let at : c.unwrap-at.result ≡ nth_place (test_of c.args.side.now c.args.key.now) rows middle = cc (found, c.place_of.ensures.value, c.unwrap-at.ensures) in
    let long = same_length c.args.program.now.rows rows c.requires.of in
    let before = (place_count (test_of c.args.side.now c.args.key.now) rows middle c.args.place (omega (arith, long))).0 (omega (arith, at)) in
    record {
      below = omega (arith, before);
      above = c.loop-low.invariant.above;
      within = c.loop-low.invariant.within;
      last = sym c.entry-id.ensures.value ∙ sym (entry_before-more (entries c.args.side.now rows c.args.key.now) middle);
      first = c.loop-low.invariant.first;
      halved = rw c.entry-id.ensures.looks (halved-more _ _ _ _ _ c.loop-low.invariant.halved (omega arith) (omega arith));
    }

pub loop-low-preserved : goal.loop-low-preserved
loop-low-preserved g c =
    let rows = c.args.index.now.rows in
    let middle : ℕ = c.loop-low.low + (c.loop-low.high - c.loop-low.low) / 2 in
    let found = probed c.args.program.now.rows (test_of c.args.side.now c.args.key.now) rows middle c.entry-id.result.0 c.requires.of c.place_of.ensures.sound.distinct c.entry-id.ensures.value in
    let at : c.unwrap-at.result ≡ nth_place (test_of c.args.side.now c.args.key.now) rows middle = cc (found, c.place_of.ensures.value, c.unwrap-at.ensures) in
    let long = same_length c.args.program.now.rows rows c.requires.of in
    let after = (place_count (test_of c.args.side.now c.args.key.now) rows middle c.args.place (omega (arith, long))).1 (omega (arith, at)) in
    record {
      below = c.loop-low.invariant.below;
      above = omega (arith, after);
      within = omega (arith, c.loop-low.invariant.within);
      last = c.loop-low.invariant.last;
      first = sym c.entry-id.ensures.value;
      halved = rw c.entry-id.ensures.looks (halved-more _ _ _ _ _ c.loop-low.invariant.halved (omega arith) (omega arith));
    }
