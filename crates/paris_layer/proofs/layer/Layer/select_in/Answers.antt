use Rattle.std.proofs.Common.{◌∙◌, ap, sym}
use Rattle.paris_layer.specs.Forms.{form_bits}
use Rattle.paris_layer.proofs.AllSame.{all_chosen, none_chosen}
use Rattle.paris_layer.proofs.layer.Layer.select_in.Goals as goal

pub returns-in_ok-self-clause-ok : goal.returns-in_ok-self-clause-ok
returns-in_ok-self-clause-ok c =
    c.in_ok-self.ensures ∙ all_chosen c.args.self.now c.args.chosen.now c.args.mask.now c.in-Same.bit c.in-Same.field-0 (sym (ap form_bits c.in-Same.is) ∙ c.mask.view_is) c.if-bit.true c.requires.chosen c.requires.mask

pub returns-else-bit-clause-ok : goal.returns-else-bit-clause-ok
returns-else-bit-clause-ok c =
    none_chosen c.args.self.now c.args.chosen.now c.args.mask.now c.in-Same.bit c.in-Same.field-0 (sym (ap form_bits c.in-Same.is) ∙ c.mask.view_is) c.if-bit.false c.requires.chosen c.requires.mask
