use Rattle.std.proofs.Common.{◌≡◌, ◌∷◌, [], ap, ◌∙◌, sym, arith, append-nil, map, take, suc, ◌-◌, refl}
use Rattle.std.specs.Prelude.{Bool, true, false, if◌then◌else◌, Result, Ok, Err, OnErr}
use Rattle.std.specs.Option.{unwrap_or}
use Rattle.paris_names.specs.Keys.{has_key, key_slot}
use Rattle.paris_depends.specs.Sweeps.{marked}
use Rattle.paris_book.specs.Entries.{Entry, machine_row}
use Rattle.paris_book.proofs.Pending.{none_marked}
use Rattle.paris_book.proofs.Stopping.{some_from}
use Rattle.paris_book.proofs.Wanting.{settled_start, back_begins, back_marks, back_places}
use Rattle.paris_book.proofs.wanted.places_for.Goals as goal

pub loop-at-init : goal.loop-at-init
loop-at-init c =
    let begins = back_begins (has_key (c.args.key ∷ [])) c.args.place (map machine_row c.args.rows.now.rows) in
    record {
      within = omega arith;
      marks = λ k. c.mark.ensures k ∙ ap (λ b. if has_key (c.args.key ∷ []) k then true else b) (none_marked 128 (key_slot k)) ∙ by_test (has_key (c.args.key ∷ []) k) ∙ ap (λ h. h k) (sym begins.0);
      places = c.new-places.ensures.items ∙ begins.1;
    }
  where
    by_test : (b : Bool) → (if b then true else false) ≡ b
    by_test true = refl
    by_test false = refl

pub loop-at-preserved-in-Continue-1 : goal.loop-at-preserved-in-Continue-1
loop-at-preserved-in-Continue-1 c =
    let want = has_key (c.args.key ∷ []) in
    let next : c.loop-at.at ≡ suc (c.loop-at.at - 1) = omega (arith, c.loop-at-test.true) in
    let e : Entry = (c.at.result.0.0, c.at.result.1.now) in
    record {
      within = let was = c.loop-at.invariant.within in omega (arith, was);
      marks = back_marks want c.args.rows.now.rows c.args.place c.loop-at.at (c.loop-at.at - 1) e c.at.ensures.value c.loop-at.invariant.within next (marked c.loop-at.wanted) c.loop-at.invariant.marks (marked c.carry_back.new.wanted) c.carry_back.ensures.marks;
      places = c.in_ok-push.ensures.items
          ∙ back_places want c.args.rows.now.rows c.args.place c.loop-at.at (c.loop-at.at - 1) e c.at.ensures.value c.loop-at.invariant.within next (marked c.loop-at.wanted) c.loop-at.invariant.marks c.loop-at.places.items c.loop-at.invariant.places true (sym c.if-carry_back.true ∙ c.carry_back.ensures.turn);
    }

pub loop-at-preserved : goal.loop-at-preserved
loop-at-preserved c =
    let want = has_key (c.args.key ∷ []) in
    let next : c.loop-at.at ≡ suc (c.loop-at.at - 1) = omega (arith, c.loop-at-test.true) in
    let e : Entry = (c.at.result.0.0, c.at.result.1.now) in
    record {
      within = let was = c.loop-at.invariant.within in omega (arith, was);
      marks = back_marks want c.args.rows.now.rows c.args.place c.loop-at.at (c.loop-at.at - 1) e c.at.ensures.value c.loop-at.invariant.within next (marked c.loop-at.wanted) c.loop-at.invariant.marks (marked c.carry_back.new.wanted) c.carry_back.ensures.marks;
      places = sym (append-nil c.loop-at.places.items)
          ∙ back_places want c.args.rows.now.rows c.args.place c.loop-at.at (c.loop-at.at - 1) e c.at.ensures.value c.loop-at.invariant.within next (marked c.loop-at.wanted) c.loop-at.invariant.marks c.loop-at.places.items c.loop-at.invariant.places false (sym c.if-carry_back.false ∙ c.carry_back.ensures.turn);
    }

pub returns-clause-places : goal.returns-clause-places
returns-clause-places c =
    c.loop-at.invariant.places
    ∙ settled_start (has_key (c.args.key ∷ [])) (map machine_row c.args.rows.now.rows) c.args.place c.unwrap_or-start.result c.loop-at.at
    (c.unwrap_or-start.ensures ∙ ap (λ o. unwrap_or o c.args.place) c.next_unsettled.ensures.value) (omega (arith, c.loop-at-test.false))

on_err : {T E : Type 0} (r : Result T E) (P : Type 0) → P → OnErr r P
on_err (Ok x) P p = tt
on_err (Err e) P p = p

pub returns-in_err-push-clause-some : goal.returns-in_err-push-clause-some
returns-in_err-push-clause-some c =
    let want = has_key (c.args.key ∷ []) in
    let next : c.loop-at.at ≡ suc (c.loop-at.at - 1) = omega (arith, c.loop-at-test.true) in
    let e : Entry = (c.at.result.0.0, c.at.result.1.now) in
    let one_more = back_places want c.args.rows.now.rows c.args.place c.loop-at.at (c.loop-at.at - 1) e c.at.ensures.value c.loop-at.invariant.within next (marked c.loop-at.wanted) c.loop-at.invariant.marks c.loop-at.places.items c.loop-at.invariant.places true (sym c.if-carry_back.true ∙ c.carry_back.ensures.turn) in
    on_err c.from_residual.result _ (some_from want (take c.args.place (map machine_row c.args.rows.now.rows)) (c.loop-at.at - 1) c.loop-at.places.items one_more)
