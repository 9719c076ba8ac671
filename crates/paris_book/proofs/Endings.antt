-- What settling leaves of a book: orders are given up, rows are run and cut off, and a pass ends it where a row is left.
use Rattle.std.proofs.Common.{◌≡◌, ℕ, ◌+◌, ◌<◌, ◌≤◌, ◌⊎◌, inl, inr, true, refl, sym, ap, ◌∙◌, subst, arith, zero, suc, slice_get}
use Rattle.std.specs.Prelude.{IsSome}
use Rattle.std.specs.Option.{option_map}
use Rattle.paris_events.specs.State.{State, start_world}
use Rattle.paris_events.specs.Orders.{IsIdle, after_release, order_of, take_reply}
use Rattle.paris_events.specs.CutOff.{cut_off, IsAtRest}
use Rattle.paris_events.specs.Settling.{due, all_settled, ran_orders, unsettled_rows}
use Rattle.paris_events.proofs.Passes.{from_start}
use Rattle.paris_events.proofs.Counting.{due_few, none_due}
use Rattle.paris_events.proofs.Ends.{none_are}
use Rattle.paris_events.proofs.Rests.{at_rest}
use Rattle.paris_events.proofs.Runs.{SomeFirst, are_settled, first_of, next_first}
use Rattle.paris_book.specs.Rounds.{StaySettled, RunsTo, Advances}
use Rattle.paris_book.specs.Stopped.{IsStopped, StayUnsettled}
use Rattle.paris_book.proofs.Settled.{Released, released, Cut, cut_leaves, AllSettled, none_left}

module _ (first loose last : State) (ran : ℕ) (rests : IsAtRest first) (release : loose ≡ after_release first) (advances : Advances ran loose last) where
  given_up : Released first loose
  given_up = subst (Released first) (sym release) (released first rests)

  pub starts_idle : IsIdle loose.rows
  starts_idle = given_up.idle

  -- where no row is left
  module _ (none : unsettled_rows last.rows ≡ 0) where
    done : AllSettled last
    done = none_left last none

    pub all_rest : IsAtRest last
    all_rest = done.rests

    pub all_count : ran ≡ due first
    all_count =
        let left = advances.due in
        let no_more = done.due in
        let before = given_up.due in
        omega (arith, left, no_more, before)

    pub all_are_settled : last ≡ all_settled first
    all_are_settled = done.ends ∙ advances.same ∙ given_up.same

    pub all_ran : cut_off last ≡ ran_orders ran (cut_off loose) → last ≡ ran_orders ran (after_release first)
    all_ran state = sym done.rests ∙ state ∙ ap (ran_orders ran) (given_up.rests ∙ release)

  -- where a pass ends it
  module _ (end : State) (pass : end ≡ cut_off last) where
    cut : Cut last end
    cut = subst (Cut last) (sym pass) (cut_leaves last)

    idle : IsIdle end.rows
    idle = cut.idle (advances.idle given_up.idle)

    pub end_rests : IsAtRest end
    end_rests = cut.rests

    end_due : due end + ran ≡ due first
    end_due =
        let here = cut.due in
        let left = advances.due in
        let before = given_up.due in
        omega (arith, here, left, before)

    end_rows : unsettled_rows end.rows + ran ≤ unsettled_rows first.rows
    end_rows =
        let here = cut.rows in
        let left = advances.rows in
        let before = given_up.rows in
        omega (arith, here, left, before)

    end_same : all_settled end ≡ all_settled first
    end_same = cut.same ∙ advances.same ∙ given_up.same

    end_stay : StaySettled first.rows end.rows
    end_stay place r at settled = cut.stay place r (advances.stay place r (given_up.stay place r at settled) settled) settled

    pub end_ran : cut_off last ≡ ran_orders ran (cut_off loose) → end ≡ ran_orders ran (after_release first)
    end_ran state = pass ∙ state ∙ ap (ran_orders ran) (given_up.rests ∙ release)

    end_runs : RunsTo ran (after_release first) end
    end_runs =
        subst (λ (s : State). RunsTo ran s end) (given_up.rests ∙ release)
        (subst (RunsTo ran (cut_off loose)) (sym pass) (advances.runs given_up.idle))

    end_unsettled : StayUnsettled (after_release first).rows end.rows
    end_unsettled place r at u = sym (ap (λ (z : State). slice_get z.rows place) release) ∙ advances.left place r (cut.unsettled place r at u) u

    -- as long as fewer were run than were due, the first unsettled row is ready
    end_ready : ran < due first → IsSome (take_reply end)
    end_ready fewer = by_first (first_of end.rows)
      where
        by_first : (are_settled end.rows ≡ true) ⊎ SomeFirst end.rows → IsSome (take_reply end)
        by_first (inl e) =
            let none = none_are end.rows e in
            let few = due_few (start_world end.inputs) end.rows in
            let left = end_due in
            absurd (omega (arith, none, few, left, fewer))
        by_first (inr (k, r, f)) = subst (λ o. IsSome (option_map (order_of end) o)) (sym (next_first end k r idle f)) refl

    pub end_stopped : ran < due first → IsStopped ran first end
    end_stopped fewer = record {
      runs = end_runs;
      fewer = fewer;
      left = end_due;
      rows = end_rows;
      ready = end_ready fewer;
      idle = idle;
      stay = end_stay;
      unsettled = end_unsettled;
      same = end_same;
    }

    pub end_due_none : unsettled_rows end.rows ≡ 0 → (ran ≡ due first) × (end ≡ all_settled first)
    end_due_none none =
        let here = none_left end none in
        let no_more = here.due in
        let all = end_due in
        (omega (arith, no_more, all), here.ends ∙ end_same)

    -- fewer were run than were due, as long as a row is left
    pub end_fewer : (unsettled_rows end.rows ≡ 0 → ⊥) → ran < due first
    end_fewer some = by_due (due end) refl
      where
        by_due : (n : ℕ) → due end ≡ n → ran < due first
        by_due zero e = absurd (some (none_due (start_world end.inputs) from_start (λ k. refl) end.rows (at_rest end end_rests) e))
        by_due (suc n) e = let all = end_due in omega (arith, e, all)
