-- The rows that each edit touched are enough.
use Rattle.std.proofs.Common.{◌≡◌, ℕ, ◌+◌, ◌<◌, length, List, [], ◌∷◌, ◌++◌, Bool, true, false, cond, Option, Some, None, refl, sym, ap, ◌∙◌, subst, map, take, drop, get_or, append_assoc}
use Rattle.std.proofs.lemmas.List.{take-map, drop-map, map-append}
use Rattle.std.specs.Prelude.{◌&&◌}
use Rattle.std.specs.Option.{option_map}
use Rattle.std.specs.List.{list_all}
use Rattle.paris_names.specs.declared.keys.Key.{Key}
use Rattle.paris_names.specs.declared.ids.RowId.{RowId}
use Rattle.paris_names.specs.Keys.{has_key}
use Rattle.paris_board.specs.Board.{Board}
use Rattle.paris_model.specs.Frame.{World}
use Rattle.paris_model.specs.Instructions.{Plan, reads, writes, one}
use Rattle.paris_model.specs.Run.{run}
use Rattle.paris_edits.specs.Rows.{is_settled}
use Rattle.paris_depends.specs.Sweeps.{touched}
use Rattle.paris_program.specs.Program.{ids_of, place_of}
use Rattle.paris_events.specs.State.{Row, State, Inputs, IdsApart, row_plan, row_ids, find_id, find_row, start_world}
use Rattle.paris_events.specs.CutOff.{IsAtRest, cut_at}
use Rattle.paris_events.proofs.Passes.{cut_row, firm_after, from_start, Rests}
use Rattle.paris_events.proofs.Passing.{firm_behind, firm_more, run_more}
use Rattle.paris_events.proofs.AtRests.{plan_stays}
use Rattle.paris_events.proofs.Rests.{at_rest}
use Rattle.paris_events.proofs.Tests.{or_first, or_second}
use Rattle.paris_book.specs.Entries.{Entry, machine_row}
use Rattle.paris_book.specs.Marks.{data_plan, ids_in, fresh_data, replaced_data, writes_either}
use Rattle.paris_book.specs.Touched.{cut_one, cut_listed, AreEnough}
use Rattle.paris_book.proofs.Entering.{find_is}
use Rattle.paris_book.proofs.Inserts.{inserted_rows, state_of, agree_one, agree_one_back}
use Rattle.paris_book.proofs.Swept.{swept, swept_entries}
use Rattle.paris_book.proofs.Touched.{touched_is, enough_behind, enough_with, rests_take, rests_drop, rests_more}
use Rattle.paris_book.proofs.Unsettling.{ids_more}
use Rattle.paris_book.proofs.Values.{Agree, swept_rows}

-- ---- looking at rows, one id after another

-- the place of an id's row, as the machine finds it
pub found_is : (b : Board) (n m : ℕ) (inputs : Inputs) (es : List Entry) (s : State) (i : ℕ) → state_of b n m inputs es ≡ s → option_map (λ e. e.0) (find_id i s.rows) ≡ place_of es i
found_is b n m inputs es s i view = ap (λ (z : State). option_map (λ e. e.0) (find_id i z.rows)) (sym view) ∙ find_is i es

pub one_found : (s : State) (o : Option (ℕ × Row)) (place : ℕ) → option_map (λ e. e.0) o ≡ Some place → cut_one s o ≡ cut_at s place
one_found s None place h = absurd (cc)
one_found s (Some e) place h = let same : e.0 ≡ place = cc in ap (cut_at s) same

pub one_none : (s : State) (o : Option (ℕ × Row)) → option_map (λ e. e.0) o ≡ None → s ≡ cut_one s o
one_none s None h = refl
one_none s (Some e) h = absurd (cc)

pub listed_none : (ids : List RowId) (s : State) → s ≡ cut_listed (ids_in (take 0 ids)) s
listed_none [] s = refl
listed_none (i ∷ is) s = refl

listed_more : (ids : List ℕ) (i : ℕ) (s : State) → cut_listed (ids ++ i ∷ []) s ≡ cut_one (cut_listed ids s) (find_id i (cut_listed ids s).rows)
listed_more [] i s = refl
listed_more (j ∷ ids) i s = listed_more ids i (cut_one s (find_id j s.rows))

pub listed_step : (ids : List RowId) (i : ℕ) (d : RowId) (s now new : State) → i < length ids → now ≡ cut_listed (ids_in (take i ids)) s → new ≡ cut_one now (find_row now (get_or ids i d)) → new ≡ cut_listed (ids_in (take (i + 1) ids)) s
listed_step ids i d s now new within so_far is =
    is
    ∙ ap (λ (z : State). cut_one z (find_row z (get_or ids i d))) so_far
    ∙ sym (ap (λ js. cut_listed js s) (ids_more ids i d within) ∙ listed_more (ids_in (take i ids)) (get_or ids i d).0 s)

-- ---- what each edit leaves

-- a row changes which keys are firm in what it writes alone
firm_past : (h : Key → Bool) (r : Row) → Agree (has_key (writes r.plan)) h (firm_after h r)
unfolding firm_after
firm_past h r f u = rw u refl

firm_back : (h : Key → Bool) (r : Row) → Agree (has_key (writes r.plan)) (firm_after h r) h
unfolding firm_after
firm_back h r f u = rw u refl

firm_either : (p : Plan) (h : Key → Bool) (r x : Row) → x.plan ≡ p → Agree (writes_either r.plan p) (firm_after h r) (firm_after h x)
unfolding firm_after
firm_either p h r x same f u =
    ap (λ b. cond b (is_settled r.status) (h f)) (or_first (has_key (writes r.plan) f) (has_key (writes p) f) u)
    ∙ sym (ap (λ (z : Plan). cond (has_key (writes z) f) (is_settled x.status) (h f)) same ∙ ap (λ b. cond b (is_settled x.status) (h f)) (or_second (has_key (writes r.plan) f) (has_key (writes p) f) u))

ids_same : (es : List Entry) → row_ids (map machine_row es) ≡ ids_of es
ids_same [] = refl
ids_same (e ∷ es) = ap (λ is. e.0 ∷ is) (ids_same es)

module _ (s t : State) (es zs : List Entry) (rests : IsAtRest s) (old : s.rows ≡ map machine_row es) (new : t.rows ≡ map machine_row zs) (apart : IdsApart (ids_of zs)) where
  apart_now : IdsApart (row_ids t.rows)
  apart_now = subst IdsApart (sym (ap row_ids new ∙ ids_same zs)) apart

  rests_then : Rests (start_world s.inputs) from_start (map machine_row es)
  rests_then = subst (Rests (start_world s.inputs) from_start) old (at_rest s rests)

  -- input data is given
  pub input_enough : (n : ℕ) (d : Key → Bool) (ids : List ℕ) → zs ≡ swept_entries n d es → Agree d (start_world s.inputs) (start_world t.inputs) → ids ≡ touched data_plan d es → AreEnough ids t
  input_enough n d ids z a which =
      subst (λ is. AreEnough is t) (sym (which ∙ touched_is d es))
      (enough_behind t n [] (map machine_row es) d (start_world s.inputs) from_start (new ∙ ap (map machine_row) z ∙ swept_rows n d es) tt a (λ f u. refl) rests_then apart_now)

  module _ (p : ℕ) (same : t.inputs ≡ s.inputs) where
    abbrev front : List Row
    front = take p (map machine_row es)

    abbrev world : World
    world = run (start_world t.inputs) (map row_plan front)

    abbrev firm : Key → Bool
    firm = firm_behind from_start front

    rests_now : Rests (start_world t.inputs) from_start (map machine_row es)
    rests_now = subst (λ (i : Inputs). Rests (start_world i) from_start (map machine_row es)) (sym same) rests_then

    rests_front : Rests (start_world t.inputs) from_start front
    rests_front = rests_take (start_world t.inputs) from_start (map machine_row es) p rests_now

    rests_back : (rs : List Row) → drop p (map machine_row es) ≡ rs → Rests world firm rs
    rests_back rs is = subst (Rests world firm) is (rests_drop (start_world t.inputs) from_start (map machine_row es) p rests_now)

    fronts : map machine_row (take p es) ≡ front
    fronts = sym (take-map machine_row p es)

    -- a row is put in
    pub insert_enough : (n m : ℕ) (x : Plan) (ids : List ℕ) → zs ≡ inserted_rows n m es p x → ids ≡ touched data_plan (has_key (writes x)) (drop p es) → AreEnough ids t
    insert_enough n m x ids z which =
        subst (λ is. AreEnough is t) (sym (which ∙ touched_is d (drop p es)))
        (enough_behind t (n + 1) (front ++ y ∷ []) back d world firm rows
        (rests_more (start_world t.inputs) from_start front y rests_front (never (list_all firm (reads x))))
        (subst (λ (v : World). Agree d world v) (sym (run_more (start_world t.inputs) front y)) (agree_one x world))
        (subst (λ (h : Key → Bool). Agree d firm h) (sym (firm_more from_start front y)) (firm_past firm y))
        (rests_back back (drop-map machine_row p es)) apart_now)
      where
        d : Key → Bool
        d = has_key (writes x)

        y : Row
        y = machine_row (m, fresh_data x (n + 1))

        back : List Row
        back = map machine_row (drop p es)

        never : (b : Bool) → (b && false) ≡ false
        never true = refl
        never false = refl

        rows : t.rows ≡ (front ++ y ∷ []) ++ swept (n + 1) d back
        rows =
            new
            ∙ ap (map machine_row) z
            ∙ map-append machine_row (take p es) ((m, fresh_data x (n + 1)) ∷ swept_entries (n + 1) d (drop p es))
            ∙ ap (λ ys. map machine_row (take p es) ++ y ∷ ys) (swept_rows (n + 1) d (drop p es))
            ∙ ap (λ ys. ys ++ y ∷ swept (n + 1) d back) fronts
            ∙ sym (append_assoc front (y ∷ []) (swept (n + 1) d back))

    module _ (e : Entry) (behind : List Entry) (here : drop p es ≡ e ∷ behind) where
      rows_here : drop p (map machine_row es) ≡ machine_row e ∷ map machine_row behind
      rows_here = drop-map machine_row p es ∙ ap (map machine_row) here

      -- a row is taken out
      pub delete_enough : (n : ℕ) (ids : List ℕ) → zs ≡ take p es ++ swept_entries n (has_key (writes e.1.plan)) behind → ids ≡ touched data_plan (has_key (writes e.1.plan)) behind → AreEnough ids t
      delete_enough n ids z which =
          subst (λ is. AreEnough is t) (sym (which ∙ touched_is d behind))
          (enough_behind t n front (map machine_row behind) d (one e.1.plan world) (firm_after firm (machine_row e)) rows rests_front
          (agree_one_back e.1.plan world) (firm_back firm (machine_row e)) (rests_back (machine_row e ∷ map machine_row behind) rows_here).1 apart_now)
        where
          d : Key → Bool
          d = has_key (writes e.1.plan)

          rows : t.rows ≡ front ++ swept n d (map machine_row behind)
          rows =
              new
              ∙ ap (map machine_row) z
              ∙ map-append machine_row (take p es) (swept_entries n d behind)
              ∙ ap (λ ys. map machine_row (take p es) ++ ys) (swept_rows n d behind)
              ∙ ap (λ ys. ys ++ swept n d (map machine_row behind)) fronts

      -- a row gets another plan, and is looked at first
      pub replace_enough : (n : ℕ) (x : Plan) (ids : List ℕ) → zs ≡ take p es ++ (e.0, replaced_data x n e.1) ∷ swept_entries n (writes_either e.1.plan x) behind → ids ≡ touched data_plan (writes_either e.1.plan x) behind → AreEnough (e.0 ∷ ids) t
      replace_enough n x ids z which =
          subst (λ is. AreEnough (e.0 ∷ is) t) (sym (which ∙ touched_is d behind))
          (enough_with t n front (map machine_row behind) y d (one e.1.plan world) (firm_after firm (machine_row e)) rows rests_front
          (worlds world) (firm_either x firm (machine_row e) (cut_row world firm y) (plan_stays world firm y)) (rests_back (machine_row e ∷ map machine_row behind) rows_here).1 apart_now)
        where
          d : Key → Bool
          d = writes_either e.1.plan x

          y : Row
          y = machine_row (e.0, replaced_data x n e.1)

          worlds : (w : World) → Agree d (one e.1.plan w) (one x w)
          worlds w f u =
              agree_one_back e.1.plan w f (or_first (has_key (writes e.1.plan) f) (has_key (writes x) f) u)
              ∙ agree_one x w f (or_second (has_key (writes e.1.plan) f) (has_key (writes x) f) u)

          rows : t.rows ≡ front ++ y ∷ swept n d (map machine_row behind)
          rows =
              new
              ∙ ap (map machine_row) z
              ∙ map-append machine_row (take p es) ((e.0, replaced_data x n e.1) ∷ swept_entries n d behind)
              ∙ ap (λ ys. map machine_row (take p es) ++ y ∷ ys) (swept_rows n d behind)
              ∙ ap (λ ys. ys ++ y ∷ swept n d (map machine_row behind)) fronts
