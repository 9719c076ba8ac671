use Rattle.paris_book.proofs.TouchedEdits.{listed_none, listed_step}
use Rattle.paris_book.proofs.loose.Loose.cut_listed.Goals as goal

pub loop-id-init : goal.loop-id-init
loop-id-init c = listed_none c.args.ids.now c.args.self.now

pub loop-id-preserved : goal.loop-id-preserved
loop-id-preserved c = listed_step c.args.ids.now c.loop-id.id-index _ c.args.self.now c.loop-id.self c.cut_row.new.self c.loop-id-test.true c.loop-id.invariant c.cut_row.ensures
