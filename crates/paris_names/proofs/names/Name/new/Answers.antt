use Rattle.std.proofs.Common.{◌≡◌, rules}
use Rattle.paris_names.proofs.NameLemmas.{name_made}
use Rattle.paris_names.proofs.names.Name.new.Goals as goal

pub invariant_of-result : goal.invariant_of-result
invariant_of-result c = rw c.copy_from_slice.ensures.after (name_made c.args.bytes.now (search rules) (search rules))
