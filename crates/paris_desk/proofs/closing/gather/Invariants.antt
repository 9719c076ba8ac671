use Rattle.std.proofs.Common.{◌≡◌, ◌+◌, ◌<◌, ◌≤◌, ℕ, length, map, vec_len, vec_capacity, sum_by}
use mathlib.Core.List.{IsPrefix}
use Rattle.paris_records.specs.Receipts.{IsPart}
use Rattle.paris_desk.specs.Closing.{by_number, has_seat, past_of, receipts_of}
use Rattle.paris_desk.proofs.closing.gather.Given as goal

abbrev pub invariant-loop-number : goal.invariant-loop-number
invariant-loop-number g l =
    (l.whole.parts ≡ l.number)
    × (l.whole.amount ≡ sum_by length (by_number l.number l.fn.seats.items))
    × (map (λ r. r.items) l.receipts.items ≡ by_number l.number l.fn.seats.items)
    × (l.count ≤ vec_capacity l.receipts)
    × (vec_len l.receipts ≡ l.number)
    × (length l.left.items + l.number ≡ length l.fn.seats.items)
    × ((n : ℕ) → l.number ≤ n → (has_seat n l.left.items ≡ has_seat n l.fn.seats.items) × (receipts_of n l.left.items ≡ receipts_of n l.fn.seats.items) × (past_of n l.left.items ≡ past_of n l.fn.seats.items))
    × ((n : ℕ) → n < l.number → IsPrefix (past_of n l.fn.seats.items) l.known)
    × ((n : ℕ) → n < l.number → IsPart n 0 (receipts_of n l.fn.seats.items) l.known)
