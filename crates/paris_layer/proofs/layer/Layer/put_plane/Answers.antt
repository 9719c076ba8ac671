use Rattle.std.proofs.Common.{◌∙◌, ap, sym}
use Rattle.paris_layer.specs.Forms.{form_bits}
use Rattle.paris_layer.proofs.AllSame.{by_bits, zip2_left}
use Rattle.paris_layer.proofs.layer.Layer.put_plane.Goals as goal

pub returns-in_ok-self-inside-in-Same-clause-ok : goal.returns-in_ok-self-inside-in-Same-clause-ok
returns-in_ok-self-inside-in-Same-clause-ok g c =
    let s = c.in-Same in
    c.branch.view_is ∙ c.in_ok-self-inside-in-Same.ensures ∙ by_bits (g.O.WordOp.bit s.a) _ _ _ c.bit_of_two-zero.ensures c.bit_of_two-one.ensures
    ∙ sym (zip2_left g.O.WordOp.bit s.field-0 s.a c.args.self.now c.args.y.now (sym (ap form_bits s.is) ∙ c.self.view_is) c.requires)
