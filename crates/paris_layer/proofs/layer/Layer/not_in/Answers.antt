use Rattle.std.proofs.Common.{◌∙◌, ap, sym, not, map}
use Rattle.paris_layer.specs.Forms.{form_bits}
use Rattle.paris_layer.proofs.AllSame.{not_filled}
use Rattle.paris_layer.proofs.layer.Layer.not_in.Goals as goal
use Rattle.paris_layer.proofs.layer.Layer.not_in.Goals.{in-Same, in-Words}

pub returns : goal.returns
returns c =
    elim c.match-self.branch [
      | in-Same w ↦ ap (λ i. form_bits i.form) w.self-inside-is ∙ not_filled w.in-Same.field-0 w.in-Same.bit ∙ ap (map not) (sym (ap form_bits w.in-Same.is) ∙ c.self.view_is)
      | in-Words w ↦ ap (λ i. form_bits i.form) w.self-inside-is ∙ w.not_in.ensures ∙ ap (map not) (sym (ap form_bits w.in-Words.is) ∙ c.self.view_is)
    ]
