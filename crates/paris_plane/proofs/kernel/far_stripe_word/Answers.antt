use Rattle.paris_plane.proofs.Stripes.{far_on, far_off}
use Rattle.paris_plane.proofs.kernel.far_stripe_word.Goals as goal

pub returns-then-block-k-eq1 : goal.returns-then-block-k-eq1
returns-then-block-k-eq1 c = λ i h. far_on c.args.block c.args.k i c.requires.far h c.if-block-k-eq1.true

pub returns-else-block-k-eq1 : goal.returns-else-block-k-eq1
returns-else-block-k-eq1 c = λ i h. far_off c.args.block c.args.k i c.requires.far h c.if-block-k-eq1.false
