use Rattle.std.proofs.Common.{◌≡◌, ◌∙◌, [], refl}
use Rattle.paris_field.specs.Numbers.{numbers}
use Rattle.paris_field.proofs.blocks.push_quads.Goals as goal

pub loop-quad-init : goal.loop-quad-init
unfolding numbers
loop-quad-init c =
    let none : [] ≡ numbers 0 c.args.layers.now = refl in
    c.requires.empty ∙ none
