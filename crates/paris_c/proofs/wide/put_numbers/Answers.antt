use Rattle.std.proofs.Common.{◌∙◌, ◌≤◌, length, rules}
use Rattle.std.proofs.lemmas.List.{length-set}
use Rattle.paris_c.proofs.WideLemmas.{one_more, all_put}
use Rattle.paris_c.proofs.wide.put_numbers.Goals as goal

pub returns : goal.returns
returns c =
    let h = c.loop-i.invariant in
    let over : length c.args.numbers.now ≤ c.loop-i.i = search rules in
    all_put c.args.numbers.now c.loop-i.room c.loop-i.i over h.0 h.1

pub loop-i-preserved : goal.loop-i-preserved
loop-i-preserved c =
    let h = c.loop-i.invariant in
    (length-set _ _ _ ∙ h.0, rw c.of.ensures (one_more c.args.numbers.now c.loop-i.room c.loop-i.i c.loop-i-test.true h.0 h.1))
