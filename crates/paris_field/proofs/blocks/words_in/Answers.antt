use Rattle.std.proofs.Common.{◌∙◌, ap, arith}
use Rattle.paris_field.specs.Numbers.{numbers}
use Rattle.paris_field.proofs.blocks.words_in.Goals as goal

pub loop-block-init : goal.loop-block-init
loop-block-init c = c.in_ok-push_quads.ensures ∙ ap (λ n. numbers n c.args.layers.now) (omega arith)
