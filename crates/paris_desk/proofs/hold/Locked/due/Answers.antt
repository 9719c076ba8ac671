use Rattle.std.proofs.Common.{◌≡◌, ◌≤◌, List, ap, arith, length, subst}
use Rattle.paris_records.specs.declared.records.Entry.{Entry}
use Rattle.paris_desk.proofs.Histories.{strange_due}
use Rattle.paris_desk.proofs.hold.Locked.due.Goals as goal

pub returns-then-front-length : goal.returns-then-front-length
returns-then-front-length g c =
    let long : c.len-length.result ≡ length c.args.self.now = omega (arith, c.len-length.ensures, ap length c.self.view_is) in
    record {
      value = strange_due g.L.Office.limit (length c.args.self.now) c.len-length.result c.args.front long c.if-front-length.true;
      few = subst (λ (h : List Entry). length h ≤ g.L.Office.limit) c.self.view_is c.self.invariant.3;
    }
