use Rattle.std.proofs.Common.{◌≡◌, ◌<◌, ◌∙◌, ℕ, List, sym, ap, arith, subst, length, sum_by}
use mathlib.Core.List.{IsPrefix}
use Rattle.paris_records.specs.declared.records.Entry.{Entry}
use Rattle.paris_records.specs.declared.records.Receipt.{Receipt}
use Rattle.paris_records.specs.Agreement.{Accounted, receipts_of_seat}
use Rattle.paris_records.specs.Receipts.{IsPart, receipts_in}
use Rattle.paris_records.proofs.Sums.{accounted}
use Rattle.paris_desk.specs.Closing.{by_number, past_of, receipts_of}
use Rattle.paris_desk.proofs.Lists.{each_list}
use Rattle.paris_desk.proofs.closing.close.Goals as goal

pub returns-clause-begins : goal.returns-clause-begins
returns-clause-begins g c n lt =
    let below : n < c.args.desk.seats.seats = omega (arith, lt, c.args.desk.seats.counted.0) in
    subst (λ (h : List Entry). IsPrefix (past_of n c.args.seats.items) h) c.locked.invariant.7 (c.gather.ensures.pasts n below)

pub returns-clause-each : goal.returns-clause-each
returns-clause-each g c n =
    let i = c.locked.invariant in
    let count = c.args.desk.seats.seats in
    let ss = c.args.seats.items in
    let h = c.locked.inside.history.items in
    let parts = c.gather.ensures.parts ∙ c.args.desk.seats.counted.0 ∙ c.args.desk.seats.counted.1 in
    let standing : (k : ℕ) → k < count → IsPart k 0 (receipts_of k ss) h = λ k below. subst (λ (z : List Entry). IsPart k 0 (receipts_of k ss) z) i.7 (c.gather.ensures.standing k below) in
    let all : sum_by length (by_number count ss) ≡ length h = omega (arith, c.audit.ensures.whole parts, c.audit.ensures.total, c.gather.ensures.amount, i.2) in
    subst (λ (rss : List (List Receipt)). receipts_of_seat rss n ≡ receipts_in n 0 h) (sym c.gather.ensures.receipts) (each_list count ss h standing all n)

pub returns-clause-agree : goal.returns-clause-agree
returns-clause-agree g c =
    let i = c.locked.invariant in
    let count = c.args.desk.seats.seats in
    let ss = c.args.seats.items in
    let h = c.locked.inside.history.items in
    let parts = c.gather.ensures.parts ∙ c.args.desk.seats.counted.0 ∙ c.args.desk.seats.counted.1 in
    let standing : (k : ℕ) → k < count → IsPart k 0 (receipts_of k ss) h = λ k below. subst (λ (z : List Entry). IsPart k 0 (receipts_of k ss) z) i.7 (c.gather.ensures.standing k below) in
    let all : sum_by length (by_number count ss) ≡ length h = omega (arith, c.audit.ensures.whole parts, c.audit.ensures.total, c.gather.ensures.amount, i.2) in
    let agreed : (seat : ℕ) → Accounted h seat (receipts_of_seat (by_number count ss) seat) = λ seat. accounted seat h (receipts_of_seat (by_number count ss) seat) (each_list count ss h standing all seat) in
    (i.0, subst (λ (rss : List (List Receipt)). (seat : ℕ) → Accounted h seat (receipts_of_seat rss seat)) (sym c.gather.ensures.receipts) agreed)

pub returns-clause-receipts : goal.returns-clause-receipts
returns-clause-receipts g c = c.gather.ensures.receipts ∙ ap (λ n. by_number n c.args.seats.items) c.args.desk.seats.counted.0
