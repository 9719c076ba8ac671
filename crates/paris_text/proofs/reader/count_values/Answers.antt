use Rattle.std.proofs.Common.{◌≡◌, ◌+◌, ◌<◌, ◌≤◌, length, rules, arith, refl, ap, ◌∙◌, Ok, Err}
use Rattle.paris_text.specs.Reading.{place}
use Rattle.paris_text.specs.Room.{values_room}
use Rattle.paris_text.proofs.PlaceLemmas.{place_over, place_step}
use Rattle.paris_text.proofs.RoomLemmas.{plus, plus_more, room_fails, room_last, room_more}
use Rattle.std.proofs.lemmas.Result.{err_from_is_err_and}
use Rattle.paris_text.proofs.reader.count_values.Goals as goal

pub returns-in_err-after : goal.returns-in_err-after
returns-in_err-after c =
    let here = place c.args.line.now c.loop-after.next in
    let e = c.in_err-after.field-0.0.0 in
    let stops : values_room here ≡ Err e = room_fails here e c.in_err-after.ensures.gives in
    let p = err_from_is_err_and c.from_residual.result c.from_residual.ensures.1 in
    rw (p.1, p.2) (c.loop-after.invariant.same ∙ rw stops refl)

pub returns-then-line-after : goal.returns-then-line-after
returns-then-line-after c =
    let line = c.args.line.now in
    let here = place line c.loop-after.next in
    let after = c.in_ok-after.after in
    let past : length line < after = search rules in
    let last : values_room here ≡ Ok 1 = room_last here _ (after + 1) (rw (place_over line after past) at c.in_ok-after.ensures.gives) in
    c.loop-after.invariant.same ∙ ap (plus c.loop-after.count) last

pub loop-after-preserved : goal.loop-after-preserved
loop-after-preserved c =
    let line = c.args.line.now in
    let here = place line c.loop-after.next in
    let after = c.in_ok-after.after in
    let within : after ≤ length line = search rules in
    let step = place_step line after within in
    let more : values_room here ≡ plus 1 (values_room (place line after)) = rw step (room_more here _ _ _ _ (rw step at c.in_ok-after.ensures.gives)) in
    record {
      within = c.in_ok-after.ensures.within.0;
      small = omega (arith, c.loop-after.invariant.small, c.in_ok-after.ensures.within.1);
      same = c.loop-after.invariant.same ∙ ap (plus c.loop-after.count) more ∙ plus_more c.loop-after.count (values_room (place line after));
    }
