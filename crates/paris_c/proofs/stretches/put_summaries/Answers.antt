use Rattle.std.proofs.Common.{ℕ, List, arith, ap, ◌∙◌, length}
use Rattle.std.proofs.lemmas.List.{length-set}
use Rattle.paris_stretches.specs.Stretches.{stretch, sum_number}
use Rattle.paris_c.proofs.Summaries.{all_put, one_put, summed}
use Rattle.paris_c.proofs.stretches.put_summaries.Goals as goal

pub loop-i-preserved : goal.loop-i-preserved
loop-i-preserved c =
    let h = c.loop-i.invariant in
    let numbers : List ℕ = c.args.value.now.numbers in
    let parts : ℕ = length c.args.room.now in
    let of = c.of.ensures in
    let told = c.summary_of.ensures in (
      length-set _ _ _ ∙ h.0,
      one_put parts c.loop-i.i numbers c.loop-i.room c.of.result h.0 c.loop-i-test.true
          (summed c.of.result (stretch parts numbers c.loop-i.i) c.summary_of.result.least c.summary_of.result.greatest of.least of.greatest told.least told.greatest (ap sum_number of.sum ∙ told.sum) (of.others ∙ told.others))
          h.1,
    )

pub returns-clause-summaries : goal.returns-clause-summaries
returns-clause-summaries c =
    let h = c.loop-i.invariant in
    λ ok. all_put (length c.args.room.now) c.loop-i.i c.args.value.now.numbers c.loop-i.room h.0 (omega (arith, c.loop-i-test.false)) h.1
