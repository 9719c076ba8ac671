use Rattle.std.proofs.Common.{ap, ◌∙◌, arith, drop, length}
use Rattle.paris_model.specs.Instructions.{Plan}
use Rattle.paris_program.specs.Program.{row_of}
use Rattle.paris_depends.specs.Sweeps.{touched}
use Rattle.paris_depends.proofs.FewKeys.{writes-few}
use Rattle.paris_book.specs.Marks.{data_plan, writes_either}
use Rattle.paris_book.proofs.Unsettling.{if_ok_more, either_is}
use Rattle.paris_book.proofs.marks.unsettled_by_replace.Goals as goal

pub returns-clause-ids : goal.returns-clause-ids
returns-clause-ids c =
    if_ok_more _ _ c.affected.result
    (λ ids is row here. is ∙ ap (λ d. touched data_plan d (drop c.args.below c.args.rows.now.rows)) (either_is c.as_slice.result.now c.in_ok-keys-in-Some.keys.items c.in-Some.row.now (row_of c.args.rows.now.rows c.args.id.0) c.args.plan.now row c.as_slice.ensures.value (λ k. c.in_ok-keys-in-Some.ensures.keys k ∙ ap (λ (p : Plan). writes_either p c.args.plan.now k) c.plan.ensures) c.in-Some.ensures.value here))
    c.affected.ensures.ids

pub affected-requires-clause-few : goal.affected-requires-clause-few
affected-requires-clause-few c =
    let same = ap length c.as_slice.ensures.value in
    let both = c.in_ok-keys-in-Some.ensures.few in
    omega (arith, same, both, writes-few c.plan.result.now, writes-few c.args.plan.now)
