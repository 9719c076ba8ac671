use Rattle.paris_field.proofs.Values.{eq_is}
use Rattle.paris_field.proofs.field.FieldValue.equals.Goals as goal

pub returns-clause-value : goal.returns-clause-value
returns-clause-value c = eq_is c.agrees.result c.args.self.now c.args.other.now c.agrees.ensures
