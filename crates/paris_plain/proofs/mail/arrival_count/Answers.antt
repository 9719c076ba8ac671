use Rattle.std.proofs.Common.{rules}
use Rattle.std.proofs.lemmas.List.Sums.{length-filter}
use Rattle.paris_plain.proofs.Post.{length-arrivals}
use Rattle.paris_plain.proofs.mail.arrival_count.Goals as goal

pub returns : goal.returns
returns c = rw (length-arrivals, length-filter) (search rules)
