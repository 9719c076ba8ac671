use Rattle.std.proofs.Common.{◌≡◌, ◌+◌, ◌<◌, ◌++◌, ◌∙◌, ap, sym, refl, arith, map, length, take, drop, set, slice_get}
use Rattle.std.specs.Prelude.{ℕ, Some, Option}
use Rattle.std.proofs.lemmas.List.{length-set}
use Rattle.paris_events.specs.State.{Row}
use Rattle.paris_book.specs.Entries.{machine_row}
use Rattle.paris_book.specs.Unsettled.{filled, unsettled_ids}
use Rattle.paris_book.proofs.Finds.{row_at}
use Rattle.paris_book.proofs.UnsettledIds.{filled_more, filled_whole}
use Rattle.paris_book.proofs.listing.put_unsettled.Goals as goal

same_row : (id : ℕ) (r x : Row) (o : Option Row) → o ≡ Some r → o ≡ Some x → x.id.0 ≡ id → r.id.0 ≡ id
same_row id r x o a b e = let same : Some r ≡ Some x = sym a ∙ b in let rows : r ≡ x = cc in ap (λ (z : Row). z.id.0) rows ∙ e

pub returns-in_default : goal.returns-in_default
returns-in_default c = filled_whole c.args.room.now c.loop-i.room (map machine_row c.args.rows.now.rows) c.loop-i.i c.loop-i.from (sym c.in_default.ensures.value) c.loop-i.invariant.filled

pub loop-i-preserved : goal.loop-i-preserved
loop-i-preserved c =
    let rs = map machine_row c.args.rows.now.rows in
    let within : c.loop-i.i < length c.loop-i.room = let same = c.loop-i.invariant.len in omega (arith, c.loop-i-test.true, same) in
    let more = filled_more c.args.room.now c.loop-i.room rs c.loop-i.i c.loop-i.from c.in-Some.place (sym c.in-Some.ensures.value) within c.loop-i.invariant.filled in
    let id = same_row c.at.result.0.0 more.0 (machine_row (c.at.result.0.0, c.at.result.1.now)) (slice_get rs c.in-Some.place) more.1 (row_at c.args.rows.now.rows c.in-Some.place (c.at.result.0.0, c.at.result.1.now) c.at.ensures.value) refl in
    record {
      len = length-set c.loop-i.room c.loop-i.i c.at.result.0.0 ∙ c.loop-i.invariant.len;
      filled = more.2 ∙ ap (λ n. take (c.loop-i.i + 1) (set c.loop-i.room c.loop-i.i n) ++ filled (drop (c.loop-i.i + 1) (set c.loop-i.room c.loop-i.i n)) (unsettled_ids (drop (c.in-Some.place + 1) rs))) id;
    }
