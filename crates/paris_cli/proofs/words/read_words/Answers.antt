use Rattle.std.proofs.Common.{◌≡◌, ◌≤◌, arith}
use Rattle.std.proofs.lemmas.Grind.{common_steps}
use Rattle.paris_cli.proofs.words.read_words.Goals as goal
use Rattle.paris_names.specs.declared.limits.TheConstants.{MAX_WORKERS}

pub returns-in-Ok-clause-number : goal.returns-in-Ok-clause-number
returns-in-Ok-clause-number c k asks =
    let is : c.in-Ok.workers ≡ k = c.in-Ok.ensures.number k asks in
    let low : 1 ≤ k = asks.3 in
    let high : k ≤ MAX_WORKERS = asks.4 in
    grind (arith, common_steps)
