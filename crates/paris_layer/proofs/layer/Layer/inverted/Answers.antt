use Rattle.std.proofs.Common.{◌∙◌, ap, sym, not, map}
use Rattle.paris_layer.specs.Forms.{form_bits}
use Rattle.paris_layer.proofs.AllSame.{not_filled}
use Rattle.paris_layer.proofs.layer.Layer.inverted.Goals as goal
use Rattle.paris_layer.proofs.layer.Layer.inverted.Goals.{in-Same, in-Words+in_ok-inverted-in-Words}

pub returns : goal.returns
returns c =
    elim c.match-x.branch [
      | in-Same w ↦ ap form_bits w.form-is ∙ not_filled w.in-Same.len w.in-Same.bit ∙ ap (map not) (sym (ap form_bits w.in-Same.is) ∙ c.x.view_is)
      | in-Words+in_ok-inverted-in-Words w ↦ ap form_bits w.form-is ∙ w.in_ok-inverted-in-Words.ensures ∙ ap (map not) (sym (ap form_bits w.in-Words.is) ∙ c.x.view_is)
    ]
