use Rattle.paris_plain.proofs.Flags.{flag_below}
use Rattle.paris_plain.proofs.inputs.Inputs.flag_at.Goals as goal

pub returns-clause-small : goal.returns-clause-small
returns-clause-small c = rw (c.at.ensures, ← c.self.view_is) (flag_below c.self.inside.names.items c.self.inside.lists.items c.self.inside.owner c.args.flag c.args.v c.self.invariant)
