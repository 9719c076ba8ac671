use Rattle.std.proofs.Common.{◌≡◌, ap, ◌∙◌, arith, length, subst, take}
use Rattle.std.proofs.Math.Seq.{take-length}
use Rattle.paris_book.specs.Laws.{ActionsFit}
use Rattle.paris_book.specs.Entries.{Entry}
use Rattle.paris_book.proofs.Directly.{actions_more}
use Rattle.paris_book.proofs.laws.actions_fit.Goals as goal

pub loop-place-preserved : goal.loop-place-preserved
loop-place-preserved c =
    let r : Entry = (c.at.result.0.0, c.at.result.1.now) in
    actions_more c.args.rows.now.rows c.loop-place.place r c.at.ensures.value c.loop-place.invariant c.action_fits.ensures

pub returns : goal.returns
returns c =
    let rows = c.args.rows.now.rows in
    let last : c.loop-place.place ≡ length rows = omega arith in
    subst ActionsFit (ap (λ k. take k rows) last ∙ take-length rows) c.loop-place.invariant
