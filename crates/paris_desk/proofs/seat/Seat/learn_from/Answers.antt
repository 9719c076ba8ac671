use Rattle.std.proofs.Common.{◌≡◌, sym, arith, length, ◌≤◌, subst, List}
use Rattle.paris_records.specs.declared.records.Entry.{Entry}
use Rattle.paris_records.specs.Receipts.{IsPart}
use Rattle.paris_records.proofs.Counting.{part_grows}
use Rattle.paris_desk.proofs.seat.Seat.learn_from.Goals as goal
use Rattle.paris_desk.proofs.seat.Seat.learn_from.Goals.{then-len, else-len}

pub invariant_of-self : goal.invariant_of-self
invariant_of-self g c =
    let v = c.self.invariant in
    let si = c.if-len.self-inside in
    let front : length si.known ≤ c.max-self-inside.result = omega arith in
    let share : (si.share.parts ≡ 1) × (si.share.amount ≡ length si.receipts.items) = elim c.if-len.branch [ then-len w ↦ rw w.self-inside-is (v.0, v.1) | else-len w ↦ rw w.self-inside-is (v.0, v.1) ] in
    let part : IsPart si.number 0 si.receipts.items si.known =
    elim c.if-len.branch [
      | then-len w ↦ rw w.self-inside-is (subst (λ (z : List Entry). IsPart c.self.inside.number 0 c.self.inside.receipts.items z) (sym w.again.ensures) (part_grows _ _ _ c.self.inside.known _ (c.compare.ensures (omega arith)) v.3))
      | else-len w ↦ rw w.self-inside-is v.3
    ] in
    (share.0, share.1, front, part)
