use Rattle.std.proofs.Common.{◌∙◌, ap, sym}
use Rattle.paris_layer.specs.Forms.{form_bits}
use Rattle.paris_layer.proofs.AllSame.{by_bits, zip2_right, zip3_right}
use Rattle.paris_layer.proofs.layer.Layer.put_triple.Goals as goal

pub returns-in-Same-Same-clause-ok : goal.returns-in-Same-Same-clause-ok
returns-in-Same-Same-clause-ok g c =
    let s = c.in-Same-Same in
    c.apply.ensures ∙ by_bits (λ u. g.O.TripleOp.bit u s.b s.c) _ _ _ c.bit_of_three.ensures c.bit_of_three-in-Same-Same.ensures
    ∙ sym (zip2_right (λ u v. g.O.TripleOp.bit u v s.c) s.field-0-0 s.b c.args.self.now c.args.y.now (sym (ap form_bits s.is-0) ∙ c.y.view_is) c.requires.second)
    ∙ sym (zip3_right g.O.TripleOp.bit s.field-0-1 s.c c.args.self.now c.args.y.now c.args.z.now (sym (ap form_bits s.is-1) ∙ c.z.view_is) c.requires.second c.requires.third)
