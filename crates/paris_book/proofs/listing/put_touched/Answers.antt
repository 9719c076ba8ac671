use Rattle.std.proofs.Common.{◌≡◌, ◌<◌, ◌≤◌, Some, ap, ◌∙◌, arith, length, map, slice_get}
use Rattle.paris_book.specs.Entries.{Entry, machine_row}
use Rattle.paris_book.specs.Unsettled.{filled}
use Rattle.paris_book.proofs.Finds.{row_at}
use Rattle.paris_book.proofs.TouchedIds.{touched_none, touched_one}
use Rattle.paris_book.proofs.listing.put_touched.Goals.{then-edition-since, else-edition-since}
use Rattle.paris_book.proofs.listing.put_touched.Goals as goal

pub loop-place-preserved : goal.loop-place-preserved
loop-place-preserved c =
    let rs = map machine_row c.args.rows.now.rows in
    let i = c.loop-place.place in
    let e : Entry = (c.at.result.0.0, c.at.result.1.now) in
    let at : slice_get rs i ≡ Some (machine_row e) = row_at c.args.rows.now.rows i e c.at.ensures.value in
    elim c.if-edition-since.branch [
      | then-edition-since w ↦
          let later : c.args.since < e.1.edition.0 = let same = c.edition.ensures in omega (arith, w.if-edition-since.true, ap (λ x. x.0) same) in
          let one = touched_one c.args.since c.args.room.now c.loop-place.room c.if-edition-since.room rs i c.loop-place.count (machine_row e) at later c.loop-place.invariant.count c.loop-place.invariant.filled (w.room-is ∙ w.put_id.ensures) in
          record { count = w.count-is ∙ one.0; few = let n = w.count-is in let k = c.loop-place.invariant.few in omega (arith, n, k); filled = one.1 }
      | else-edition-since w ↦
          let before : e.1.edition.0 ≤ c.args.since = let same = c.edition.ensures in omega (arith, w.if-edition-since.false, ap (λ x. x.0) same) in
          let none = touched_none c.args.since rs i (machine_row e) at before in
          record { count = w.count-is ∙ c.loop-place.invariant.count ∙ ap length none; few = let n = w.count-is in let k = c.loop-place.invariant.few in omega (arith, n, k); filled = w.room-is ∙ c.loop-place.invariant.filled ∙ ap (filled c.args.room.now) none }
    ]
