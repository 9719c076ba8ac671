use Rattle.std.proofs.Common.{◌∙◌, ap, sym}
use Rattle.std.proofs.lemmas.Result.{IfOk-weaker}
use Rattle.paris_layer.specs.Forms.{form_bits}
use Rattle.paris_layer.proofs.AllSame.{all_chosen, none_chosen}
use Rattle.paris_layer.proofs.layer.Layer.selected.Goals as goal

pub returns-then-bit : goal.returns-then-bit
returns-then-bit c =
    IfOk-weaker c.copy.result _ _
    (λ p e. e ∙ all_chosen c.args.others.now c.args.chosen.now c.args.mask.now c.in-Same.bit c.in-Same.field-0 (sym (ap form_bits c.in-Same.is) ∙ c.mask.view_is) c.if-bit.true c.requires.chosen c.requires.mask)
    c.copy.ensures

pub returns-else-bit : goal.returns-else-bit
returns-else-bit c =
    IfOk-weaker c.copy-else-bit.result _ _
    (λ p e. e ∙ none_chosen c.args.others.now c.args.chosen.now c.args.mask.now c.in-Same.bit c.in-Same.field-0 (sym (ap form_bits c.in-Same.is) ∙ c.mask.view_is) c.if-bit.false c.requires.chosen c.requires.mask)
    c.copy-else-bit.ensures
