use Rattle.std.proofs.Common.{◌∙◌, ap, sym, Bool, map, replicate}
use Rattle.std.proofs.lemmas.Result.{IfOk-weaker}
use Rattle.paris_layer.specs.Forms.{form_bits}
use Rattle.paris_layer.proofs.AllSame.{by_bits, zip2_left, zip3_left, zip3_same}
use Rattle.paris_layer.proofs.layer.Layer.combined_three_forms.Goals as goal

pub returns-in-Same-Same-Same : goal.returns-in-Same-Same-Same
returns-in-Same-Same-Same g c =
    let s = c.in-Same-Same-Same in
    c.filled.ensures ∙ ap (λ b. replicate s.len b) c.bit_of_three.ensures
    ∙ zip3_same g.O.TripleOp.bit s.len s.field-0-1 s.field-0-2 s.a s.b s.c c.args.x.now c.args.y.now c.args.z.now
    (sym (ap form_bits s.is-0) ∙ c.x.view_is) (sym (ap form_bits s.is-1) ∙ c.y.view_is) (sym (ap form_bits s.is-2) ∙ c.z.view_is) c.requires.second c.requires.third

pub returns-in-Same-Same-Words : goal.returns-in-Same-Same-Words
returns-in-Same-Same-Words g c =
    let s = c.in-Same-Same-Words in
    let f : Bool → Bool = λ u. g.O.TripleOp.bit s.a s.b u in
    IfOk-weaker c.applied.result _ _
    (λ l e. e ∙ by_bits f _ _ _ c.bit_of_three-in-Same-Same-Words.ensures c.bit_of_three-in-Same-Same-Words-2.ensures ∙ ap (map f) (sym (ap form_bits s.is-2) ∙ c.z.view_is)
    ∙ sym (zip2_left (g.O.TripleOp.bit s.a) s.field-0-1 s.b c.args.y.now c.args.z.now (sym (ap form_bits s.is-1) ∙ c.y.view_is) (sym c.requires.second ∙ c.requires.third))
    ∙ sym (zip3_left g.O.TripleOp.bit s.field-0-0 s.a c.args.x.now c.args.y.now c.args.z.now (sym (ap form_bits s.is-0) ∙ c.x.view_is) c.requires.second))
    c.applied.ensures
