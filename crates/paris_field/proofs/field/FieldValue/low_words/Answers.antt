use Rattle.std.proofs.Common.{◌∙◌, Result, Ok, Err, length, sym}
use Rattle.std.specs.Prelude.{IfOk}
use Rattle.paris_field.specs.Fields.{operand}
use Rattle.paris_field.proofs.Lists.{numbers_everywhere}
use Rattle.paris_field.proofs.Values.{planes_fit, vps_is}
use Rattle.paris_field.proofs.field.FieldValue.low_words.Goals as goal

also : {T E : Type 0} {P Q : T → Type 0} (r : Result T E) → IfOk r P → ((x : T) → P x → Q x) → IfOk r Q
also (Ok x) p more = more x p
also (Err e) p more = tt

pub words_in-requires-clause-long : goal.words_in-requires-clause-long
words_in-requires-clause-long c = λ k h. c.low.ensures.long k h ∙ vps_is c.self.inside.vps c.self.inside.planes.items c.self.view_is

pub returns-clause-value : goal.returns-clause-value
returns-clause-value c =
    let many = vps_is c.self.inside.vps c.self.inside.planes.items c.self.view_is in
    also c.words_in.result c.words_in.ensures (λ words is.
    is ∙ numbers_everywhere c.self.inside.vps (length c.args.self.now.numbers) c.low.result.now (operand c.args.bits c.args.self.now) many c.low.ensures.at)

pub returns-clause-fit : goal.returns-clause-fit
returns-clause-fit c =
    also c.words_in.result c.words_in.ensures (λ words is.
    planes_fit c.self.inside.vps c.args.bits c.low.result.now c.low.ensures.count (sym is))
