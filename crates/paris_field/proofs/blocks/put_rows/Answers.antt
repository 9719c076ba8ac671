use Rattle.std.proofs.Common.{◌<◌, ◌∙◌, arith}
use Rattle.paris_field.proofs.blocks.put_rows.Goals as goal

pub returns-clause-bits : goal.returns-clause-bits
returns-clause-bits c =
    λ k hk inside i hi within.
    let put : k < c.loop-k.k = omega arith in
    c.loop-k.invariant.bits k put i hi within ∙ c.turned-rows.ensures k i (omega arith) hi
