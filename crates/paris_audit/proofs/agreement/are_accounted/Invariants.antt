use Rattle.std.proofs.Common.{ℕ, ◌<◌, map}
use Rattle.paris_records.specs.Agreement.{Accounted, receipts_of_seat}
use Rattle.paris_audit.proofs.agreement.are_accounted.Given as goal

abbrev pub invariant-loop-seat : goal.invariant-loop-seat
invariant-loop-seat l = (n : ℕ) → n < l.seat → Accounted l.entries n (receipts_of_seat (map (λ r. r.items) l.receipts) n)
