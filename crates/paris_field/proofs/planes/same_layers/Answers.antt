use Rattle.std.proofs.Common.{◌≡◌, arith, []}
use Rattle.paris_field.proofs.Numbers.{same_lists}
use Rattle.paris_field.proofs.planes.same_layers.Goals as goal

pub returns : goal.returns
returns c =
    let same : c.args.x.now ≡ c.args.y.now = same_lists [] c.args.x.now c.args.y.now c.requires (λ k h. c.loop-k.invariant k (omega arith)) in
    (λ _. same, λ _. cc)
