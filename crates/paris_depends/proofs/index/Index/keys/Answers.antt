use Rattle.std.proofs.Common.{length, arith, ap, sym}
use Rattle.paris_depends.specs.IndexInside.{IsRow}
use Rattle.paris_depends.proofs.Found.{holds_of_found}
use Rattle.paris_depends.proofs.index.Index.keys.Goals as goal

pub returns-clause-few : goal.returns-clause-few
returns-clause-few g c =
    let sound = holds_of_found IsRow c.self.inside.table.rows c.args.id.0 c.in-Some.row.now.1 c.self.invariant.sound (sym c.in-Some.ensures) in
    let same = ap length c.written.ensures in
    omega (arith, same, sound.few)
