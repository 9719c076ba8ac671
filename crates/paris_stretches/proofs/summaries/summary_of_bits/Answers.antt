use Rattle.std.proofs.Common.{◌≡◌, ◌+◌, ◌*◌, ◌^◌, ◌≤◌, ◌∙◌, sym, ap, arith, length, min}
use Rattle.std.proofs.lemmas.List.Sums.{count_by-le-length}
use Rattle.paris_stretches.specs.Stretches.{count_others, is_other}
use Rattle.paris_stretches.proofs.Bits.{greatest_of_bits, least_of_bits, sum_of_bits, whether_all, whether_some}
use Rattle.paris_stretches.proofs.summaries.summary_of_bits.Goals as goal

pub returns-clause-least : goal.returns-clause-least
returns-clause-least c = λ xs fit some long ones.
    let room : c.args.ones ≤ c.args.count = omega (arith, ones, long, count_by-le-length is_other xs) in
    omega (arith, c.from.ensures, whether_all c.args.ones c.args.count room, least_of_bits xs fit some, ones, long)

pub returns-clause-greatest : goal.returns-clause-greatest
returns-clause-greatest c = λ xs fit ones. omega (arith, c.from-2.ensures, whether_some c.args.ones, greatest_of_bits xs fit, ones)

pub returns-clause-sum : goal.returns-clause-sum
returns-clause-sum c = λ xs fit ones. omega (arith, sum_of_bits xs fit, ones)
