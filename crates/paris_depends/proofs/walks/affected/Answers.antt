use Rattle.std.proofs.Common.{◌≡◌, ℕ, ◌+◌, ◌*◌, ◌++◌, List, [], map, length, arith, sym, ap, ◌∙◌, refl, unwrap_or, subst, drop, Option}
use Rattle.std.specs.List.{AllByRecursion, filter}
use Rattle.paris_names.specs.declared.keys.Key.{Key}
use Rattle.paris_names.specs.declared.ids.RowId.{RowId}
use Rattle.paris_names.specs.Keys.{has_key}
use Rattle.paris_depends.specs.Index.{keys_written, Footprint}
use Rattle.paris_depends.specs.Reaches.{goes_on, reach_at, moved_past, first_hit, open_at, touched_rows, IsReach}
use Rattle.paris_depends.specs.declared.reaches.Reach.{Reach}
use Rattle.paris_depends.proofs.Places.{same_length}
use Rattle.paris_depends.proofs.Reaching.{all_kept}
use Rattle.paris_depends.proofs.Affect.{from_start, from_hit, row_known, listed-step, listed-end, listed-touched, looks-more, looks-fit, looks-all, length-made, length-kept, length-mapped, length-push, looks-same, looks-start}
use Rattle.paris_depends.proofs.Recipes.{changed_touched}
use Rattle.paris_depends.proofs.walks.affected.Goals as goal

pub loop-at-init : goal.loop-at-init
loop-at-init g c =
    let rows : List (ℕ × Footprint) = c.args.index.now.rows in
    let reaches : List Reach = c.in_ok-reaches.reaches.items in
    let long = same_length c.args.program.now.rows rows c.requires.of in
    let start = from_start rows c.args.place c.args.keys.now reaches (omega (arith, long)) (omega (arith, long, c.len-len.ensures.value)) c.in_ok-reaches.ensures.reaches in
    let at : c.first_hit-at.result ≡ first_hit reaches = c.first_hit-at.ensures ∙ ap first_hit c.as_slice.ensures.value in
    let count = ap length c.in_ok-reaches.ensures.reaches ∙ length-mapped _ c.args.keys.now in
    let none = ap length c.new-ids.ensures.items in
    let K : ℕ → Type 0 = λ n. AllByRecursion (IsReach rows n) reaches in
    record {
      first = at;
      known = subst K (sym at) start.2;
      listed = ap (λ (ids : List RowId). map (λ (id : RowId). id.0) ids ++ touched_rows (open_at reaches c.first_hit-at.result) (drop c.first_hit-at.result rows)) c.new-ids.ensures.items
          ∙ ap (λ n. touched_rows (open_at reaches n) (drop n rows)) at ∙ sym start.1;
      few = omega (arith, none);
      rows = omega (arith, none);
      opened = omega (arith, count);
      looks = λ b below. looks-start c.args.looks.now c.reaches_from.new.looks (length c.args.keys.now) (length c.new-ids.result.items) (2 * b + 1) (c.in_ok-reaches.ensures.looks b below) none;
      more = c.reaches_from.ensures.more;
    }

pub move_past-requires-clause-known : goal.move_past-requires-clause-known
move_past-requires-clause-known g c =
    let K : List Reach → Type 0 = AllByRecursion (IsReach c.args.index.now.rows c.loop-at.at) in
    subst K (sym c.drop_ended.ensures) (all_kept (goes_on c.loop-at.at) (IsReach c.args.index.now.rows c.loop-at.at) c.loop-at.reaches.items c.loop-at.invariant.known)

pub move_past-requires-clause-few : goal.move_past-requires-clause-few
move_past-requires-clause-few g c =
    let looks = c.loop-at.invariant.looks 64 (omega (arith, c.len-len.ensures.value)) in
    let fit = looks-fit c.args.looks.now c.loop-at.looks (length c.loop-at.reaches.items) (length c.loop-at.ids.items) (length c.args.keys.now) (length c.args.program.now.rows) looks c.loop-at.invariant.opened (omega (arith, c.loop-at.invariant.few, c.len-len.ensures.value)) c.requires.few in
    let fewer = length-kept (goes_on c.loop-at.at) c.loop-at.reaches.items in
    let count = ap length c.drop_ended.ensures in
    omega (arith, fit, fewer, count)

pub add_writes-requires-clause-there : goal.add_writes-requires-clause-there
add_writes-requires-clause-there g c =
    let known = row_known c.args.program.now.rows c.args.index.now.rows c.loop-at.at c.at.result.0.0 c.at.result.1.now c.requires.of c.at.ensures.sound.distinct c.at.ensures.value in
    rw known.2 refl

pub add_writes-requires-clause-few : goal.add_writes-requires-clause-few
add_writes-requires-clause-few g c =
    let looks = c.loop-at.invariant.looks 64 (omega (arith, c.len-len.ensures.value)) in
    let fit = looks-fit c.args.looks.now c.loop-at.looks (length c.loop-at.reaches.items) (length c.loop-at.ids.items) (length c.args.keys.now) (length c.args.program.now.rows) looks c.loop-at.invariant.opened (omega (arith, c.loop-at.invariant.few, c.len-len.ensures.value)) c.requires.few in
    let fewer = length-kept (goes_on c.loop-at.at) c.loop-at.reaches.items in
    let count = ap length c.drop_ended.ensures in
    omega (arith, fit, fewer, count, c.move_past.ensures.looks)

pub loop-at-preserved : goal.loop-at-preserved
loop-at-preserved g c =
    let rows : List (ℕ × Footprint) = c.args.index.now.rows in
    let at : ℕ = c.loop-at.at in
    let long = same_length c.args.program.now.rows rows c.requires.of in
    let known = row_known c.args.program.now.rows rows at c.at.result.0.0 c.at.result.1.now c.requires.of c.at.ensures.sound.distinct c.at.ensures.value in
    let left : List Reach = filter (goes_on at) c.loop-at.reaches.items in
    let made : c.add_writes.new.reaches.items ≡ map (moved_past rows at) left ++ map (λ (j : Key). reach_at rows j (at + 1)) known.0.written =
    c.in_ok-add_writes.ensures.reaches
    ∙ ap (λ (l : List Reach). l ++ map (λ (j : Key). reach_at rows j (at + 1)) (unwrap_or (keys_written rows c.at.result.0.0) [])) (c.move_past.ensures.reaches ∙ ap (map (moved_past rows at)) c.drop_ended.ensures)
    ∙ ap (λ (o : Option (List Key)). map (moved_past rows at) left ++ map (λ (j : Key). reach_at rows j (at + 1)) (unwrap_or o [])) known.2
    in
    let on = from_hit rows at c.at.result.0.0 known.0 c.loop-at.reaches.items c.add_writes.new.reaches.items known.1 (sym c.loop-at.invariant.first) (omega (arith, c.len-len.ensures.value, long)) (omega (arith, c.len-len.ensures.value, long)) c.loop-at.invariant.known made in
    let next : c.first_hit-at-in-loop-at.result ≡ first_hit c.add_writes.new.reaches.items = c.first_hit-at-in-loop-at.ensures ∙ ap first_hit c.as_slice-in-loop-at.ensures.value in
    let one = ap length c.in_ok-push.ensures.items ∙ length-push c.loop-at.ids.items c.at.result.0 in
    let count = ap length made ∙ length-made (moved_past rows at) (λ (j : Key). reach_at rows j (at + 1)) left known.0.written in
    let fewer = length-kept (goes_on at) c.loop-at.reaches.items in
    let dropped = ap length c.drop_ended.ensures in
    let keys = ap (λ (o : Option (List Key)). length (unwrap_or o [])) known.2 in
    let K : ℕ → Type 0 = λ n. AllByRecursion (IsReach rows n) c.add_writes.new.reaches.items in
    record {
      first = next;
      known = subst K (sym next) on.2;
      listed = ap (λ n. map (λ (id : RowId). id.0) c.push.new.self.items ++ touched_rows (open_at c.add_writes.new.reaches.items n) (drop n rows)) next
          ∙ listed-step c.loop-at.ids.items c.push.new.self.items c.at.result.0 _ _ _ c.in_ok-push.ensures.items c.loop-at.invariant.listed on.1;
      few = omega (arith, one, next, on.0, c.loop-at.invariant.few);
      rows = omega (arith, one, c.loop-at.invariant.few, c.len-len.ensures.value);
      opened = omega (arith, one, count, keys, fewer, c.add_writes.ensures.few, c.loop-at.invariant.opened);
      looks = λ b below.
          let more = looks-more c.args.looks.now c.loop-at.looks c.move_past.new.looks c.add_writes.new.looks (length c.loop-at.reaches.items) (length c.drop_ended.new.reaches.items) (length known.0.written) (length c.loop-at.ids.items) (length c.args.keys.now) (2 * b + 1)
          (c.loop-at.invariant.looks b below) c.loop-at.invariant.opened (omega (arith, fewer, dropped)) c.move_past.ensures.looks (omega (arith, keys, c.add_writes.ensures.few)) (let l = c.in_ok-add_writes.ensures.looks b below in rw (← keys) l)
          in
          looks-same c.args.looks.now c.add_writes.new.looks (length c.args.keys.now) _ (length c.push.new.self.items) (2 * b + 1) more one;
      more = omega (arith, c.loop-at.invariant.more, c.move_past.ensures.more, c.add_writes.ensures.more);
    }

pub loop-at-smaller : goal.loop-at-smaller
loop-at-smaller g c =
    let rows : List (ℕ × Footprint) = c.args.index.now.rows in
    let at : ℕ = c.loop-at.at in
    let long = same_length c.args.program.now.rows rows c.requires.of in
    let known = row_known c.args.program.now.rows rows at c.at.result.0.0 c.at.result.1.now c.requires.of c.at.ensures.sound.distinct c.at.ensures.value in
    let left : List Reach = filter (goes_on at) c.loop-at.reaches.items in
    let made : c.add_writes.new.reaches.items ≡ map (moved_past rows at) left ++ map (λ (j : Key). reach_at rows j (at + 1)) known.0.written =
    c.in_ok-add_writes.ensures.reaches
    ∙ ap (λ (l : List Reach). l ++ map (λ (j : Key). reach_at rows j (at + 1)) (unwrap_or (keys_written rows c.at.result.0.0) [])) (c.move_past.ensures.reaches ∙ ap (map (moved_past rows at)) c.drop_ended.ensures)
    ∙ ap (λ (o : Option (List Key)). map (moved_past rows at) left ++ map (λ (j : Key). reach_at rows j (at + 1)) (unwrap_or o [])) known.2
    in
    let on = from_hit rows at c.at.result.0.0 known.0 c.loop-at.reaches.items c.add_writes.new.reaches.items known.1 (sym c.loop-at.invariant.first) (omega (arith, c.len-len.ensures.value, long)) (omega (arith, c.len-len.ensures.value, long)) c.loop-at.invariant.known made in
    let next : c.first_hit-at-in-loop-at.result ≡ first_hit c.add_writes.new.reaches.items = c.first_hit-at-in-loop-at.ensures ∙ ap first_hit c.as_slice-in-loop-at.ensures.value in
    omega (arith, next, on.0, c.len-len.ensures.value)

pub returns-clause-touched : goal.returns-clause-touched
returns-clause-touched g c = λ plan same.
    let long = same_length c.args.program.now.rows c.args.index.now.rows c.requires.of in
    listed-end _ c.args.index.now.rows c.loop-at.at _ _ (omega (arith, c.len-len.ensures.value, long)) c.loop-at.invariant.listed
    ∙ listed-touched plan (has_key c.args.keys.now) c.args.place c.args.program.now.rows c.args.index.now.rows same

pub returns-clause-changed : goal.returns-clause-changed
returns-clause-changed g c = λ plan number q q' same differ.
    let long = same_length c.args.program.now.rows c.args.index.now.rows c.requires.of in
    listed-end _ c.args.index.now.rows c.loop-at.at _ _ (omega (arith, c.len-len.ensures.value, long)) c.loop-at.invariant.listed
    ∙ listed-touched plan (has_key c.args.keys.now) c.args.place c.args.program.now.rows c.args.index.now.rows same
    ∙ sym (changed_touched plan number (has_key c.args.keys.now) q q' differ (drop c.args.place c.args.program.now.rows))

pub returns-clause-looks : goal.returns-clause-looks
returns-clause-looks g c = λ few. looks-all c.args.looks.now c.loop-at.looks (length c.loop-at.ids.items) (length c.args.keys.now) (c.loop-at.invariant.looks 13 (omega arith))
