use Rattle.std.proofs.Common.{◌≡◌, ℕ, ◌+◌, ◌-◌, ◌^◌, ◌<◌, ◌≤◌, ◌∙◌, List, arith, drop, get_or, length}
use Rattle.std.specs.List.{slice_range}
use Rattle.std.proofs.lemmas.List.{length-drop, length-take}
use Rattle.paris_stretches.proofs.Least.{first_below, least_from}
use Rattle.paris_stretches.proofs.Spans.{length-part}
use Rattle.paris_stretches.proofs.summaries.numbers_between.Goals as goal

pub of-requires : goal.of-requires
of-requires c =
    let xs : List ℕ = c.args.value.now.numbers in
    let sums = c.tally_of-tally.ensures in
    let short : length (slice_range xs c.args.start c.args.stop) ≤ c.args.stop = omega (arith, length-part xs c.args.start c.args.stop) in
    omega (arith, sums.low, sums.high, short, c.ranges.stop.fits)

pub returns-clause-least : goal.returns-clause-least
returns-clause-least c =
    let xs : List ℕ = c.args.value.now.numbers in
    let start : ℕ = c.args.start in
    let stop : ℕ = c.args.stop in
    let long : 0 < length (slice_range xs start stop) = omega (arith, length-take (stop - start) (drop start xs), length-drop start xs, c.requires.some, c.requires.within) in
    let fits : get_or (slice_range xs start stop) 0 0 ≤ 2 ^ 128 - 1 = omega (arith, first_below (slice_range xs start stop), c.tally_of-tally.ensures.greatest, c.tally_of-tally.type_inv) in
    c.tally_of-tally.ensures.least ∙ least_from (2 ^ 128 - 1) (slice_range xs start stop) long fits
