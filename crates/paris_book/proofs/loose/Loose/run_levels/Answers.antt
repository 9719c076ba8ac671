use Rattle.paris_book.proofs.Advancing.{advances_more}
use Rattle.paris_book.proofs.loose.Loose.run_levels.Goals as goal

pub returns-in-Err : goal.returns-in-Err
returns-in-Err g c = advances_more c.loop-start.ran c.in-Err.fault.ran c.args.self.now c.loop-start.self c.run_level.new.self c.loop-start.invariant c.in-Err.ensures

pub loop-start-preserved : goal.loop-start-preserved
loop-start-preserved g c = advances_more c.loop-start.ran c.in-Ok-run_level.more c.args.self.now c.loop-start.self c.run_level.new.self c.loop-start.invariant c.in-Ok-run_level.ensures
