use Rattle.std.proofs.Common.{◌≡◌, ◌∷◌, [], ap, ◌∙◌, sym, arith, map, suc, ◌-◌, refl}
use Rattle.std.specs.Prelude.{Bool, true, false, if◌then◌else◌}
use Rattle.std.specs.Option.{unwrap_or}
use Rattle.paris_names.specs.Keys.{has_key, key_slot}
use Rattle.paris_depends.specs.Sweeps.{marked}
use Rattle.paris_book.specs.Entries.{Entry, machine_row}
use Rattle.paris_book.proofs.OrdersFor.{first_begins, first_past, first_ends}
use Rattle.paris_book.proofs.Pending.{none_marked}
use Rattle.paris_book.proofs.Wanting.{back_begins, back_marks}
use Rattle.paris_book.proofs.orders_for.first_ready_for.Goals as goal

pub loop-at-init : goal.loop-at-init
loop-at-init c =
    let begins = back_begins (has_key (c.args.key ∷ [])) c.args.place (map machine_row c.args.rows.now.rows) in
    record {
      within = omega arith;
      marks = λ k. c.mark.ensures k ∙ ap (λ b. if has_key (c.args.key ∷ []) k then true else b) (none_marked 128 (key_slot k)) ∙ by_test (has_key (c.args.key ∷ []) k) ∙ ap (λ h. h k) (sym begins.0);
      first = first_begins c.args.rows.now.rows c.args.place c.args.key c.requires;
    }
  where
    by_test : (b : Bool) → (if b then true else false) ≡ b
    by_test true = refl
    by_test false = refl

pub loop-at-preserved : goal.loop-at-preserved
loop-at-preserved c =
    let want = has_key (c.args.key ∷ []) in
    let rows = c.args.rows.now.rows in
    let next : c.loop-at.at ≡ suc (c.loop-at.at - 1) = omega (arith, c.loop-at-test.true) in
    let e : Entry = (c.at.result.0.0, c.at.result.1.now) in
    record {
      within = let was = c.loop-at.invariant.within in omega (arith, was);
      marks = back_marks want rows c.args.place c.loop-at.at (c.loop-at.at - 1) e c.at.ensures.value c.loop-at.invariant.within next (marked c.loop-at.wanted) c.loop-at.invariant.marks (marked c.carry_back-turn.new.wanted) c.carry_back-turn.ensures.marks;
      first = c.nearest-first.ensures
          ∙ first_past rows c.args.place c.loop-at.at (c.loop-at.at - 1) c.args.key e c.at.ensures.value c.loop-at.invariant.within next (marked c.loop-at.wanted) c.loop-at.invariant.marks
          c.carry_back-turn.result c.carry_back-turn.ensures.turn c.loop-at.first c.loop-at.invariant.first;
    }

pub returns : goal.returns
returns c =
    c.loop-at.invariant.first
    ∙ first_ends c.args.rows.now.rows c.args.place c.unwrap_or-start.result c.loop-at.at c.args.key
    (c.unwrap_or-start.ensures ∙ ap (λ o. unwrap_or o c.args.place) c.next_unsettled.ensures.value) (omega (arith, c.loop-at-test.false))
