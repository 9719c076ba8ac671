use Rattle.std.proofs.Common.{◌∙◌, ap, sym, Bool, map, replicate}
use Rattle.std.proofs.lemmas.Result.{IfOk-weaker}
use Rattle.paris_layer.specs.Forms.{form_bits}
use Rattle.paris_layer.proofs.AllSame.{by_bits, zip2_left, zip2_right, zip2_same}
use Rattle.paris_layer.proofs.layer.Layer.combined_forms.Goals as goal

pub returns-in-Words-Same : goal.returns-in-Words-Same
returns-in-Words-Same g c =
    let s = c.in-Words-Same in
    let f : Bool → Bool = λ u. g.O.WordOp.bit u s.b in
    IfOk-weaker c.applied.result _ _
    (λ l e. e ∙ by_bits f _ _ _ c.bit_of_two.ensures c.bit_of_two-in-Words-Same.ensures ∙ ap (map f) (sym (ap form_bits s.is-0) ∙ c.x.view_is)
    ∙ sym (zip2_right g.O.WordOp.bit s.field-0-1 s.b c.args.x.now c.args.y.now (sym (ap form_bits s.is-1) ∙ c.y.view_is) c.requires))
    c.applied.ensures

pub returns-in-Same-Words : goal.returns-in-Same-Words
returns-in-Same-Words g c =
    let s = c.in-Same-Words in
    let f : Bool → Bool = λ u. g.O.WordOp.bit s.a u in
    IfOk-weaker c.applied-in-Same-Words.result _ _
    (λ l e. e ∙ by_bits f _ _ _ c.bit_of_two-in-Same-Words.ensures c.bit_of_two-in-Same-Words-2.ensures ∙ ap (map f) (sym (ap form_bits s.is-1) ∙ c.y.view_is)
    ∙ sym (zip2_left g.O.WordOp.bit s.field-0-0 s.a c.args.x.now c.args.y.now (sym (ap form_bits s.is-0) ∙ c.x.view_is) c.requires))
    c.applied-in-Same-Words.ensures

pub returns-in-Same-Same : goal.returns-in-Same-Same
returns-in-Same-Same g c =
    let s = c.in-Same-Same in
    c.filled.ensures ∙ ap (λ b. replicate s.len b) c.bit_of_two-in-Same-Same.ensures
    ∙ zip2_same g.O.WordOp.bit s.len s.field-0-1 s.a s.b c.args.x.now c.args.y.now (sym (ap form_bits s.is-0) ∙ c.x.view_is) (sym (ap form_bits s.is-1) ∙ c.y.view_is) c.requires
