use Rattle.std.proofs.Common.{◌∙◌, ap, sym}
use Rattle.paris_layer.specs.Forms.{form_bits}
use Rattle.paris_layer.proofs.AllSame.{by_bits, zip2_right}
use Rattle.paris_layer.proofs.layer.Layer.put.Goals as goal

pub returns-in-Same-clause-ok : goal.returns-in-Same-clause-ok
returns-in-Same-clause-ok g c =
    let s = c.in-Same in
    c.apply.ensures ∙ by_bits (λ u. g.O.WordOp.bit u s.b) _ _ _ c.bit_of_two.ensures c.bit_of_two-in-Same.ensures
    ∙ sym (zip2_right g.O.WordOp.bit s.field-0 s.b c.args.self.now c.args.other.now (sym (ap form_bits s.is) ∙ c.other.view_is) c.requires)
