use Rattle.std.proofs.Common.{◌+◌, ◌*◌, ◌∙◌, ap, sym, [], get_or, false}
use Rattle.paris_plane.specs.Words.{zero_bit}
use Rattle.paris_field.proofs.Halves.{get_or-past}
use Rattle.paris_field.proofs.blocks.word_of.Goals as goal

pub returns-else-k-layers : goal.returns-else-k-layers
returns-else-k-layers c =
    λ i h within.
    zero_bit i h ∙ sym (ap (λ p. get_or p (64 * c.args.block + i) false) (get_or-past c.args.layers.now c.args.k [] c.if-k-layers.false))
