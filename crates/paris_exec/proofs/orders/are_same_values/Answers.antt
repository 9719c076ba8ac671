use Rattle.std.proofs.Common.{arith}
use Rattle.std.proofs.lemmas.List.{same_lists}
use Rattle.paris_exec.proofs.orders.are_same_values.Goals as goal

pub returns : goal.returns
returns c =
    let same = same_lists c.args.values.now c.args.others.now (omega arith) (λ k d lt. c.loop-i.invariant k d (omega arith)) in
    (λ _. same, λ _. cc)
