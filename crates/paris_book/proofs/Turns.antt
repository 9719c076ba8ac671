-- The turn of a row, by what is seen of it: whether it is settled, whether it is cut off, and whether it gives an order.
use Rattle.std.proofs.Common.{◌≡◌, ℕ, ◌<◌, Bool, true, false, cond, Option, Some, None, refl, sym, ap, ◌∙◌, length, slice_get}
use Rattle.std.proofs.Math.Path.{ap₂}
use Rattle.std.specs.Prelude.{◌&&◌, ◌||◌, not}
use Rattle.std.specs.Cmp.Lexicographic.{pointwise}
use Rattle.paris_instr.specs.PlanEq.{plan_eq}
use Rattle.paris_field.specs.Fields.{field_eq}
use Rattle.paris_exec.specs.Tasks.{Task}
use Rattle.paris_edits.specs.Rows.{is_settled}
use Rattle.paris_events.specs.State.{Row, State, Work}
use Rattle.paris_events.specs.Orders.{inputs_now, order_of}
use Rattle.paris_events.specs.CutOff.{is_cut, is_last_present, cut_found, cut_at}
use Rattle.paris_events.specs.Settling.{settled_row}
use Rattle.paris_book.specs.Steps.{is_free, order_on, own_order, run_on, run_at, settled_on, cuts_on, cuts_at, is_left, left_on, left_at, is_run, runs_on, runs_at, turn_order, turned_on, turned_at}
use Rattle.paris_book.specs.Rounds.{HoldsTask}
use Rattle.paris_book.proofs.Finds.{entry_at}
use Rattle.paris_book.proofs.Advancing.{put_in, left_differs}

none_of : (b : Bool) → (b && false) ≡ false
none_of true = refl
none_of false = refl

module _ (s : State) (place : ℕ) where
  -- a place where nothing is cut off
  pub uncut : cuts_at s place ≡ false → cut_at s place ≡ s
  uncut h = by_row (slice_get s.rows place) h
    where
      by_row : (o : Option Row) → cuts_on s place o ≡ false → cut_found s place o ≡ s
      by_row None t = refl
      by_row (Some r) t = ap (λ c. cond c (put_in s place (settled_row r)) s) t

  -- a settled row
  pub turn_settled : settled_on (slice_get s.rows place) ≡ true → (false ≡ runs_at s place) × (s ≡ turned_at s place)
  turn_settled h = by_row (slice_get s.rows place) h
    where
      by_row : (o : Option Row) → settled_on o ≡ true → (false ≡ runs_on s place o) × (s ≡ turned_on s place o)
      by_row None t = absurd (let x : false ≡ true = t in cc)
      by_row (Some r) t =
          let cut : is_cut s place r ≡ false = ap (λ b. not b && is_last_present s place r r.last) t in
          let run : is_run s place r ≡ false = ap (λ b. not (b || is_cut s place r) && is_free s place r) t in
          (sym run, sym (ap₂ (λ b c. cond b (run_on s place (Some r)) (cond c (put_in s place (settled_row r)) s)) run cut))

  -- isn't cut off
  pub settled_uncut : settled_on (slice_get s.rows place) ≡ true → cuts_at s place ≡ false
  settled_uncut h = by_row (slice_get s.rows place) h
    where
      by_row : (o : Option Row) → settled_on o ≡ true → cuts_on s place o ≡ false
      by_row None t = refl
      by_row (Some r) t = ap (λ b. not b && is_last_present s place r r.last) t

  -- nor is one that gives no order
  pub waiting_uncut : own_order s place ≡ None → cuts_at s place ≡ false
  waiting_uncut h = by_row (slice_get s.rows place) h
    where
      by_free : (t : Task) (b : Bool) → cond b (Some t) None ≡ None → b ≡ false
      by_free t true x = absurd (cc)
      by_free t false x = refl

      by_last : (r : Row) (o : Option Work) → is_free s place r ≡ false → is_last_present s place r o ≡ false
      by_last r None f = refl
      by_last r (Some w) f = ap (λ b. plan_eq r.plan w.plan && (b && pointwise field_eq (inputs_now s place r.plan) w.inputs)) f ∙ none_of (plan_eq r.plan w.plan)

      by_row : (o : Option Row) → order_on s place o ≡ None → cuts_on s place o ≡ false
      by_row None e = refl
      by_row (Some r) e = ap (λ b. not (is_settled r.status) && b) (by_last r r.last (by_free (order_of s (place, r)) (is_free s place r) e)) ∙ none_of (not (is_settled r.status))

  -- a row that is cut off
  pub turn_cut : cuts_at s place ≡ true → (false ≡ runs_at s place) × (cut_at s place ≡ turned_at s place)
  turn_cut h = by_row (slice_get s.rows place) h
    where
      or_true : (a b : Bool) → b ≡ true → (a || b) ≡ true
      or_true true b t = refl
      or_true false b t = t

      by_row : (o : Option Row) → cuts_on s place o ≡ true → (false ≡ runs_on s place o) × (cut_found s place o ≡ turned_on s place o)
      by_row None t = absurd (let x : false ≡ true = t in cc)
      by_row (Some r) t =
          let run : is_run s place r ≡ false = ap (λ b. not b && is_free s place r) (or_true (is_settled r.status) (is_cut s place r) t) in
          (sym run, sym (ap (λ b. cond b (run_on s place (Some r)) (cut_found s place (Some r))) run))

  module _ (unsettled : settled_on (slice_get s.rows place) ≡ false) (uncut_here : cuts_at s place ≡ false) where
    -- any other row is left
    pub turn_left : place < length s.rows → left_at s place ≡ true
    turn_left within = let r = entry_at s.rows place within in ap (left_on s place) r.1 ∙ left r.0 r.1
      where
        left : (r : Row) → slice_get s.rows place ≡ Some r → is_left s place r ≡ true
        left r at = ap₂ (λ a b. not (a || b)) (sym (ap settled_on at) ∙ unsettled) (sym (ap (cuts_on s place) at) ∙ uncut_here)

    -- its turn's order is the one that it gives
    pub turn_own : own_order s place ≡ turn_order s place
    turn_own = by_row (slice_get s.rows place) unsettled uncut_here
      where
        by_free : (r : Row) (l b : Bool) → l ≡ true → cond b (Some (order_of s (place, r))) None ≡ cond (l && b) (cond b (Some (order_of s (place, r))) None) None
        by_free r true true h = refl
        by_free r true false h = refl
        by_free r false b h = absurd (let x : false ≡ true = h in cc)

        by_row : (o : Option Row) → settled_on o ≡ false → cuts_on s place o ≡ false → order_on s place o ≡ cond (runs_on s place o) (order_on s place o) None
        by_row None u c = refl
        by_row (Some r) u c = by_free r (is_left s place r) (is_free s place r) (ap₂ (λ a b. not (a || b)) u c)

    -- it waits, where it gives no order
    pub turn_waits : own_order s place ≡ None → (false ≡ runs_at s place) × (s ≡ turned_at s place)
    turn_waits none = by_row (slice_get s.rows place) none unsettled uncut_here
      where
        by_row : (o : Option Row) → order_on s place o ≡ None → settled_on o ≡ false → cuts_on s place o ≡ false → (false ≡ runs_on s place o) × (s ≡ turned_on s place o)
        by_row None e u c = (refl, refl)
        by_row (Some r) e u c =
            let free : is_free s place r ≡ false = by_free (is_free s place r) e in
            let run : is_run s place r ≡ false = ap (λ b. is_left s place r && b) free ∙ none_of (is_left s place r) in
            (sym run, sym (ap₂ (λ a b. cond a (run_on s place (Some r)) (cond b (put_in s place (settled_row r)) s)) run c))
          where
            by_free : (b : Bool) → cond b (Some (order_of s (place, r))) None ≡ None → b ≡ false
            by_free true x = absurd (cc)
            by_free false x = refl

    -- and is run by the order that it gives
    pub turn_runs : (t : Task) → own_order s place ≡ Some t → (true ≡ runs_at s place) × (run_at s place ≡ turned_at s place)
    turn_runs t own = by_row (slice_get s.rows place) own unsettled uncut_here
      where
        by_row : (o : Option Row) → order_on s place o ≡ Some t → settled_on o ≡ false → cuts_on s place o ≡ false → (true ≡ runs_on s place o) × (run_on s place o ≡ turned_on s place o)
        by_row None e u c = absurd (cc)
        by_row (Some r) e u c =
            let free : is_free s place r ≡ true = by_free (is_free s place r) e in
            let run : is_run s place r ≡ true = ap₂ (λ a b. not (a || b) && is_free s place r) u c ∙ free in
            (sym run, sym (ap (λ b. cond b (run_on s place (Some r)) (cut_found s place (Some r))) run))
          where
            by_free : (b : Bool) → cond b (Some (order_of s (place, r))) None ≡ Some t → b ≡ true
            by_free true x = refl
            by_free false x = absurd (cc)

  -- a row that isn't cut off gives an order of another work than its last kept result's, where it is unsettled
  pub task_holds : (t : Task) → cuts_at s place ≡ false → own_order s place ≡ Some t → HoldsTask s place t
  task_holds t c own = record {
    own = own;
    differs = λ r at unsettled. left_differs s place r unsettled (sym (ap (cuts_on s place) at) ∙ c) (by_free r (is_free s place r) refl (sym (ap (order_on s place) at) ∙ own));
  }
    where
      by_free : (r : Row) (b : Bool) → is_free s place r ≡ b → cond b (Some (order_of s (place, r))) None ≡ Some t → is_free s place r ≡ true
      by_free r true e x = e
      by_free r false e x = absurd (cc)

  -- ---- by the order that it is run by

  -- a row that isn't run has none
  pub not_run : false ≡ runs_at s place → turn_order s place ≡ None
  not_run h = ap (λ b. cond b (own_order s place) None) (sym h)

  -- one that waits has none
  pub order_waits : own_order s place ≡ None → turn_order s place ≡ None
  order_waits h = ap (λ o. cond (runs_at s place) o None) h ∙ either (runs_at s place)
    where
      nothing : Option Task
      nothing = None

      either : (b : Bool) → cond b nothing nothing ≡ nothing
      either true = refl
      either false = refl

  module _ (none : turn_order s place ≡ None) where
    -- a row that has none isn't run
    runs_none : runs_at s place ≡ false
    runs_none = by_row (slice_get s.rows place) none
      where
        by_free : (r : Row) (l b : Bool) → cond (l && b) (cond b (Some (order_of s (place, r))) None) None ≡ None → (l && b) ≡ false
        by_free r l false x = none_of l
        by_free r false true x = refl
        by_free r true true x = absurd (cc)

        by_row : (o : Option Row) → cond (runs_on s place o) (order_on s place o) None ≡ None → runs_on s place o ≡ false
        by_row None x = refl
        by_row (Some r) x = by_free r (is_left s place r) (is_free s place r) x

    pub turn_none : (false ≡ runs_at s place) × (cut_at s place ≡ turned_at s place)
    turn_none = (sym runs_none, by_row (slice_get s.rows place) runs_none)
      where
        by_row : (o : Option Row) → runs_on s place o ≡ false → cut_found s place o ≡ turned_on s place o
        by_row None x = refl
        by_row (Some r) x = sym (ap (λ b. cond b (run_on s place (Some r)) (cut_found s place (Some r))) x)

  module _ (t : Task) (some : turn_order s place ≡ Some t) where
    -- a row that has one is run, by the order that it gives
    runs_some : (runs_at s place ≡ true) × (own_order s place ≡ Some t)
    runs_some = by_run (runs_at s place) (own_order s place) some
      where
        by_run : (b : Bool) (o : Option Task) → cond b o None ≡ Some t → (b ≡ true) × (o ≡ Some t)
        by_run true o x = (refl, x)
        by_run false o x = absurd (cc)

    left_some : left_at s place ≡ true
    left_some = by_row (slice_get s.rows place) runs_some.0
      where
        by_and : (a b : Bool) → (a && b) ≡ true → a ≡ true
        by_and true b x = refl
        by_and false b x = absurd (cc)

        by_row : (o : Option Row) → runs_on s place o ≡ true → left_on s place o ≡ true
        by_row None x = absurd (cc)
        by_row (Some r) x = by_and (is_left s place r) (is_free s place r) x

    uncut_some : cuts_at s place ≡ false
    uncut_some = by_row (slice_get s.rows place) left_some
      where
        by_or : (a b : Bool) → not (a || b) ≡ true → b ≡ false
        by_or true b x = absurd (cc)
        by_or false true x = absurd (cc)
        by_or false false x = refl

        by_row : (o : Option Row) → left_on s place o ≡ true → cuts_on s place o ≡ false
        by_row None x = refl
        by_row (Some r) x = by_or (is_settled r.status) (is_cut s place r) x

    -- nothing is cut off then
    pub turn_some : (true ≡ runs_at s place) × (own_order s place ≡ Some t) × (cut_at s place ≡ s) × (cuts_at s place ≡ false)
    turn_some = (sym runs_some.0, runs_some.1, uncut uncut_some, uncut_some)

    pub turned_some : run_at s place ≡ turned_at s place
    turned_some = by_row (slice_get s.rows place) runs_some.0
      where
        by_row : (o : Option Row) → runs_on s place o ≡ true → run_on s place o ≡ turned_on s place o
        by_row None x = absurd (cc)
        by_row (Some r) x = sym (ap (λ b. cond b (run_on s place (Some r)) (cut_found s place (Some r))) x)

    pub left_there : true ≡ left_at s place
    left_there = sym left_some

-- a row that gives an order stands there
pub task_there : (s : State) (place : ℕ) (t : Task) → own_order s place ≡ Some t → (r : Row) × (slice_get s.rows place ≡ Some r)
task_there s place t own = by_row (slice_get s.rows place) refl own
  where
    by_row : (o : Option Row) → slice_get s.rows place ≡ o → order_on s place o ≡ Some t → (r : Row) × (slice_get s.rows place ≡ Some r)
    by_row None at e = absurd (cc)
    by_row (Some r) at e = (r, at)
