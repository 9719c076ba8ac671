use Rattle.std.proofs.Common.{sym, ◌∙◌}
use Rattle.paris_book.proofs.Finds.{entry_at}
use Rattle.paris_book.proofs.Recalling.{recalled_more, recalled_all}
use Rattle.paris_book.proofs.settlement.recall_all.Goals as goal

pub loop-place-preserved : goal.loop-place-preserved
loop-place-preserved c =
    let e = entry_at c.loop-place.rows.rows c.in-Some.place c.in-Some.ensures.within.1 in record {
      recalled = recalled_more c.args.rows.now.rows c.loop-place.from c.loop-place.rows.rows c.loop-place.invariant.recalled c.in-Some.place e.0 c.recall.new.self.rows (sym c.in-Some.ensures.value) e.1 c.recall.ensures.rows;
      next_id = c.recall.ensures.next_id ∙ c.loop-place.invariant.next_id;
    }

pub returns-clause-rows : goal.returns-clause-rows
returns-clause-rows c = recalled_all c.args.rows.now.rows c.loop-place.from c.loop-place.rows.rows c.loop-place.invariant.recalled (sym c.in_default.ensures.value)
