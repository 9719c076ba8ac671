use Rattle.std.proofs.Common.{Result, Ok, Err}
use Rattle.std.specs.Prelude.{IfOk}
use Rattle.paris_field.proofs.Values.{all_fit}
use Rattle.paris_field.proofs.field.FieldValue.words.Goals as goal

always : {T E P : Type 0} (r : Result T E) → P → IfOk r (λ _. P)
always (Ok x) p = p
always (Err e) p = tt

pub returns-clause-fit : goal.returns-clause-fit
returns-clause-fit c = always c.words_in.result (all_fit c.self.inside.vps c.self.inside.planes.items c.self.view_is)
