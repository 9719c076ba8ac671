use Rattle.paris_scan.proofs.Spans.{whole_start}
use Rattle.paris_scan.proofs.adjacent.line_sums.Goals as goal

pub sum_of-requires-clause-start : goal.sum_of-requires-clause-start
sum_of-requires-clause-start c = whole_start c.loop-line.line c.args.count c.requires.whole
