use Rattle.std.proofs.Common.{◌≡◌, ◌∙◌, refl, arith, map, List, ◌++◌, Vec, Global}
use Rattle.paris_records.specs.declared.records.Receipt.{Receipt}
use Rattle.paris_parts.proofs.Ends.{concludes}
use Rattle.paris_parts.proofs.closing.conclude.Goals as goal

pub overflow_add-summary : goal.overflow_add-summary
overflow_add-summary g c = omega (arith, c.requires.few, c.in_ok-rest.ensures.few)

pub overflow_add-summary-2 : goal.overflow_add-summary-2
overflow_add-summary-2 g c = omega (arith, c.requires.few, c.in_ok-rest.ensures.few)

pub returns-clause-concluded : goal.returns-clause-concluded
returns-clause-concluded g c =
    let left = c.in_ok-left.left in
    let receipts : List (List Receipt) = map (λ (r : Vec Receipt Global). r.items) left.receipts.items in
    let texts : (c.args.ended.text.items ++ c.as_slice.result.now) ++ c.as_slice-2.result.now ≡ (c.args.ended.text.items ++ c.in_ok-book.closing.items) ++ c.in_ok-rest.rest.text.items =
    λ i. (c.args.ended.text.items ++ c.as_slice.ensures.value i) ++ c.as_slice-2.ensures.value i in
    let all = c.in_ok-all.ensures ∙ texts in
    concludes g.L.Office.profile g.L.Office.seats c.args.ended.seats.items c.args.last.now c.args.ended.text.items _ c.in_ok-book.closing.items c.in_ok-rest.rest.text.items
    left.history.items c.in_ok-book.book left.book receipts c.args.ended.summary _ c.in_ok-rest.rest.summary
    c.in_ok-left.ensures.state c.in_ok-left.ensures.receipts c.in_ok-left.ensures.agree c.in_ok-left.ensures.begins c.in_ok-left.ensures.each
    c.in_ok-book.ensures.book c.in_ok-book.ensures.text c.in_ok-rest.ensures.text all c.in_ok-rest.ensures.count refl refl
