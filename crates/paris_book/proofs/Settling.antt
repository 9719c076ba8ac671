-- More origins settle, and a row that is handed out or settled stays as right as it was.
use Rattle.std.proofs.Common.{◌≡◌, ℕ, ◌<◌, ◌≤◌, List, [], ◌∷◌, Bool, true, false, cond, Option, Some, None, refl, sym, ap, ◌∙◌, subst, eqb, map, take, zero, suc, set, slice_get}
use Rattle.std.proofs.Math.Path.{ap₂}
use Rattle.std.proofs.lemmas.Bool.{eqb-true}
use Rattle.std.specs.Prelude.{not}
use Rattle.std.specs.Option.{option_map}
use Rattle.std.specs.List.{list_all}
use Rattle.std.specs.Cmp.Lexicographic.{pointwise}
use Rattle.paris_names.specs.declared.keys.Key.{Key}
use Rattle.paris_names.specs.Keys.{has_key}
use Rattle.paris_board.specs.Board.{Board}
use Rattle.paris_model.specs.Frame.{World}
use Rattle.paris_model.specs.Instructions.{Plan, reads, writes, one}
use Rattle.paris_model.specs.Run.{run}
use Rattle.paris_instr.specs.PlanEq.{plan_eq}
use Rattle.paris_field.specs.Fields.{FieldNumbers, field_eq}
use Rattle.paris_exec.specs.Tasks.{Task, numbers_of, field_of}
use Rattle.paris_edits.specs.Rows.{is_settled}
use Rattle.paris_edits.specs.declared.rows.Status.TheVariants.{Settled}
use Rattle.paris_events.specs.State.{Inputs, start_world, work_of}
use Rattle.paris_events.specs.Orders.{is_firm}
use Rattle.paris_names.specs.declared.ids.Edition.{Edition}
use Rattle.paris_book.specs.Marks.{out_data, kept_data, again_data}
use Rattle.paris_book.specs.Sources.{AreSources, NamesResult}
use Rattle.paris_book.specs.declared.sources.Source.{Source}
use Rattle.paris_book.proofs.Naming.{sourced_settled, others_free, others_same}
use Rattle.paris_book.proofs.Sourced.{sourced_put}
use Rattle.paris_book.specs.Kept.{ripen, Sound, present}
use Rattle.paris_program.specs.Program.{ids_of}
use Rattle.paris_book.specs.Whole.{RowsBelow, Fitted, AllFitted, IsWhole}
use Rattle.paris_book.specs.Entries.{Entry, entry_plan, machine_row, with_data, seen}
use Rattle.paris_edits.specs.declared.verdicts.Verdict.TheVariants.{Stale, Repeated, Foreign, Kept}
use Rattle.paris_book.proofs.Among.{origin_among, firm_among, inputs_among, present_among}
use Rattle.std.proofs.lemmas.Slice.Eq.{bytes_eq-Decides}
use Rattle.paris_book.proofs.Origins.{ripe, ripe_is, is_firm_or}
use Rattle.paris_book.proofs.Inserts.{right_unsettled}
use Rattle.paris_events.proofs.Tests.{and_first, and_second, all_more}
use Rattle.paris_book.proofs.Shows.{fitted_at, present_seen}
use Rattle.paris_events.specs.CutOff.{is_present, is_cut, is_last_present}
use Rattle.paris_events.specs.Results.{verdict_at}

ripen_more : (h h' : Key → Bool) (e : Entry) → ((f : Key) → h f ≡ true → h' f ≡ true) → (f : Key) → ripen h e f ≡ true → ripen h' e f ≡ true
unfolding ripen
ripen_more h h' e m f t = by_has (has_key (writes e.1.plan) f) t
  where
    by_has : (b : Bool) → cond b (is_settled e.1.status) (h f) ≡ true → cond b (is_settled e.1.status) (h' f) ≡ true
    by_has true x = x
    by_has false x = m f x

pub sound_more : (w : World) (h h' : Key → Bool) → ((f : Key) → h f ≡ true → h' f ≡ true) → (es : List Entry) → Sound w h es → Sound w h' es
sound_more w h h' m [] s = tt
sound_more w h h' m (e ∷ es) s = (record { kept = s.0.kept; origins = λ t. all_more h h' m (reads e.1.plan) (s.0.origins t) }, sound_more (one e.1.plan w) (ripen h e) (ripen h' e) (ripen_more h h' e m) es s.1)

settle_more : (h : Key → Bool) (e : Entry) (t : Task) (sources : List Source) → (f : Key) → ripen h e f ≡ true → ripen h (with_data (kept_data t sources) e) f ≡ true
unfolding ripen
settle_more h e t sources f x = by_has (has_key (writes e.1.plan) f) x
  where
    by_has : (b : Bool) → cond b (is_settled e.1.status) (h f) ≡ true → cond b true (h f) ≡ true
    by_has true y = refl
    by_has false y = y

out_more : (h : Key → Bool) (e : Entry) → is_settled e.1.status ≡ false → (f : Key) → ripen h e f ≡ true → ripen h (with_data out_data e) f ≡ true
unfolding ripen
out_more h e u f x = by_has (has_key (writes e.1.plan) f) x
  where
    by_has : (b : Bool) → cond b (is_settled e.1.status) (h f) ≡ true → cond b false (h f) ≡ true
    by_has true y = absurd (let z : true ≡ false = sym y ∙ u in cc)
    by_has false y = y

pub sound_kept : (w : World) (h : Key → Bool) (es : List Entry) (k : ℕ) (e : Entry) (t : Task) (sources : List Source) → slice_get es k ≡ Some e → t.plan ≡ e.1.plan → list_all (ripe h (take k es)) (reads e.1.plan) ≡ true → numbers_of t.inputs ≡ map (run w (map entry_plan (take k es))) (reads e.1.plan) → Sound w h es → Sound w h (set es k (with_data (kept_data t sources) e))
sound_kept w h [] k e t sources x p a b s = absurd (cc)
sound_kept w h (y ∷ es) zero e t sources x p a b s =
    let same : y ≡ e = cc in
    let rest : Sound (one e.1.plan w) (ripen h e) es = subst (λ (z : Entry). Sound (one z.1.plan w) (ripen h z) es) same s.1 in
    (record { kept = λ _. ap Some (ap₂ (λ u v. (u, v)) p b); origins = λ _. a }, sound_more (one e.1.plan w) (ripen h e) (ripen h (with_data (kept_data t sources) e)) (settle_more h e t sources) es rest)
sound_kept w h (y ∷ es) (suc k) e t sources x p a b s = (s.0, sound_kept (one y.1.plan w) (ripen h y) es k e t sources x p a b s.1)

sound_out : (w : World) (h : Key → Bool) (es : List Entry) (k : ℕ) (e : Entry) → slice_get es k ≡ Some e → is_settled e.1.status ≡ false → Sound w h es → Sound w h (set es k (with_data out_data e))
sound_out w h [] k e x u s = absurd (cc)
sound_out w h (y ∷ es) zero e x u s =
    let same : y ≡ e = cc in
    let rest : Sound (one e.1.plan w) (ripen h e) es = subst (λ (z : Entry). Sound (one z.1.plan w) (ripen h z) es) same s.1 in
    (right_unsettled w h (with_data out_data e) refl, sound_more (one e.1.plan w) (ripen h e) (ripen h (with_data out_data e)) (out_more h e u) es rest)
sound_out w h (y ∷ es) (suc k) e x u s = (s.0, sound_out (one y.1.plan w) (ripen h y) es k e x u s.1)

-- an entry with the same id, plan and number in the place of another
module _ (x e : Entry) (same_id : x.0 ≡ e.0) (same_plan : x.1.plan ≡ e.1.plan) (same_set : x.1.set_by ≡ e.1.set_by) where
  pub rows_put : (n m : ℕ) (es : List Entry) (k : ℕ) → slice_get es k ≡ Some e → RowsBelow n m es → RowsBelow n m (set es k x)
  rows_put n m [] k at r = tt
  rows_put n m (y ∷ es) zero at r =
      let same : y ≡ e = cc in
      let number : x.1.set_by ≡ y.1.set_by = same_set ∙ sym (ap (λ (z : Entry). z.1.set_by) same) in
      let id : x.0 ≡ y.0 = same_id ∙ sym (ap (λ (z : Entry). z.0) same) in
      let a : y.1.set_by ≤ n = r.0 in
      let b : y.0 < m = r.1 in
      (rw number a, rw id b, r.2)
  rows_put n m (y ∷ es) (suc k) at r = (r.0, r.1, rows_put n m es k at r.2)

  pub ids_put : (es : List Entry) (k : ℕ) → slice_get es k ≡ Some e → ids_of (set es k x) ≡ ids_of es
  ids_put [] k at = refl
  ids_put (y ∷ es) zero at = let same : y ≡ e = cc in ap (λ i. i ∷ ids_of es) (same_id ∙ sym (ap (λ (z : Entry). z.0) same))
  ids_put (y ∷ es) (suc k) at = ap (λ is. y.0 ∷ is) (ids_put es k at)

  pub fitted_put : (inputs : Inputs) (es : List Entry) (k : ℕ) → slice_get es k ≡ Some e → AllFitted inputs es → AllFitted inputs (set es k x)
  fitted_put inputs [] k at f = tt
  fitted_put inputs (y ∷ es) zero at f =
      let same : y ≡ e = cc in
      (subst (Fitted inputs) (ap (λ (z : Entry). z.1.plan) same ∙ sym same_plan) f.0, f.1)
  fitted_put inputs (y ∷ es) (suc k) at f = (f.0, fitted_put inputs es k at f.1)

pub take_whole : (b : Board) (n m : ℕ) (inputs : Inputs) (es : List Entry) (k : ℕ) (e : Entry) → slice_get es k ≡ Some e → is_settled e.1.status ≡ false → IsWhole b n m inputs es → IsWhole b n m inputs (set es k (with_data out_data e))
take_whole b n m inputs es k e x u w = record {
  next_few = w.next_few;
  edits_few = w.edits_few;
  as_many_fields = w.as_many_fields;
  as_many_flags = w.as_many_flags;
  shaped = w.shaped;
  inputs_below = w.inputs_below;
  rows_below = rows_put (with_data out_data e) e refl refl refl n m es k x w.rows_below;
  ids_apart = rw (ids_put (with_data out_data e) e refl refl refl es k x) w.ids_apart;
  fitted = fitted_put (with_data out_data e) e refl refl refl inputs es k x w.fitted;
  sound = sound_out (start_world inputs) (λ _. true) es k e x u w.sound;
  sourced = sourced_put n inputs es k e (with_data out_data e) x refl refl refl refl (λ _. u) w.sourced;
}

-- the values that are brought are the present ones
field_eq-true : (x y : FieldNumbers) → field_eq x y ≡ true → x ≡ y
field_eq-true x y h =
    let width : x.width ≡ y.width = eqb-true x.width y.width (and_first _ _ h) in
    let numbers : x.numbers ≡ y.numbers = (bytes_eq-Decides x.numbers y.numbers).0 (and_second (eqb x.width y.width) (pointwise eqb x.numbers y.numbers) h) in
    λ i. record { width = width i; numbers = numbers i }

same_values : (xs ys : List FieldNumbers) → pointwise field_eq xs ys ≡ true → xs ≡ ys
same_values [] [] h = refl
same_values [] (y ∷ ys) h = absurd (let z : false ≡ true = h in cc)
same_values (x ∷ xs) [] h = absurd (let z : false ≡ true = h in cc)
same_values (x ∷ xs) (y ∷ ys) h = ap₂ (λ a b. a ∷ b) (field_eq-true x y (and_first _ _ h)) (same_values xs ys (and_second (field_eq x y) (pointwise field_eq xs ys) h))

numbers_among : (inputs : Inputs) (es : List Entry) (place : ℕ) (p : Plan) (ks : List Key) → numbers_of (map (λ k. field_of p k (present inputs es place k)) ks) ≡ map (present inputs es place) ks
numbers_among inputs es place p [] = refl
numbers_among inputs es place p (k ∷ ks) = ap (λ xs. present inputs es place k ∷ xs) (numbers_among inputs es place p ks)

firm_ripe : (es : List Entry) (place : ℕ) (ks : List Key) → list_all (firm_among es place) ks ≡ true → list_all (ripe (λ _. true) (take place es)) ks ≡ true
firm_ripe es place [] h = refl
firm_ripe es place (k ∷ ks) h =
    let here : ripe (λ _. true) (take place es) k ≡ true = ripe_is (λ _. true) k (take place es) ∙ by_origin (origin_among es place k) (and_first _ _ h) in
    rw here (firm_ripe es place ks (and_second (firm_among es place k) (list_all (firm_among es place) ks) h))
  where
    by_origin : (o : Option Entry) → is_firm (option_map machine_row o) ≡ true → is_firm_or true o ≡ true
    by_origin None t = refl
    by_origin (Some e) t = t

-- what is kept is of the row's edition, of present values, and of an unsettled row
record KeepsNow (inputs : Inputs) (es : List Entry) (place : ℕ) (e : Entry) (t : Task) : Type 0 where
  pub edition : t.edition ≡ e.1.edition
  pub unsettled : is_settled e.1.status ≡ false
  pub agrees : present_among inputs es place e t ≡ true

kept_means : (inputs : Inputs) (es : List Entry) (place : ℕ) (e : Entry) (t : Task) → verdict_at (seen inputs es) (place, machine_row e) t ≡ Kept → KeepsNow inputs es place e t
kept_means inputs es place e t h = record {
  edition = (let same : e.1.edition.0 ≡ t.edition.0 = eqb-true e.1.edition.0 t.edition.0 parts.0 in (λ i. record { 0 = sym same i }));
  unsettled = parts.1;
  agrees = sym (present_seen inputs es place e t) ∙ parts.2;
}
  where
    go : (a b c : Bool) → cond a (cond b Repeated (cond c Kept Foreign)) (Stale e.1.edition) ≡ Kept → (a ≡ true) × (b ≡ false) × (c ≡ true)
    go true false true x = (refl, refl, refl)
    go true true true x = absurd (cc)
    go false b true x = absurd (cc)
    go true true false x = absurd (cc)
    go true false false x = absurd (cc)
    go false b false x = absurd (cc)

    parts : (eqb e.1.edition.0 t.edition.0 ≡ true) × (is_settled e.1.status ≡ false) × (is_present (seen inputs es) place (machine_row e) (work_of t) ≡ true)
    parts = go (eqb e.1.edition.0 t.edition.0) (is_settled e.1.status) (is_present (seen inputs es) place (machine_row e) (work_of t)) h

-- a row that keeps the result of its own plan on the present values, with their sources
pub kept_whole : (b : Board) (n m : ℕ) (inputs : Inputs) (es : List Entry) (k : ℕ) (e : Entry) (t : Task) (sources : List Source) → slice_get es k ≡ Some e → list_all (firm_among es k) (reads e.1.plan) ≡ true → inputs_among inputs es k e.1.plan ≡ t.inputs → e.1.plan ≡ t.plan
    → AreSources inputs es k (reads e.1.plan) sources → t.edition.0 ≤ n → ((p : ℕ) (z : Entry) → slice_get es p ≡ Some z → NamesResult z (with_data (kept_data t sources) e))
    → IsWhole b n m inputs es → IsWhole b n m inputs (set es k (with_data (kept_data t sources) e))
kept_whole b n m inputs es k e t sources x firm values p from number others w = record {
  next_few = w.next_few;
  edits_few = w.edits_few;
  as_many_fields = w.as_many_fields;
  as_many_flags = w.as_many_flags;
  shaped = w.shaped;
  inputs_below = w.inputs_below;
  rows_below = rows_put (with_data (kept_data t sources) e) e refl refl refl n m es k x w.rows_below;
  ids_apart = rw (ids_put (with_data (kept_data t sources) e) e refl refl refl es k x) w.ids_apart;
  fitted = fitted_put (with_data (kept_data t sources) e) e refl refl refl inputs es k x w.fitted;
  sound = sound_kept (start_world inputs) (λ _. true) es k e t sources x (sym p) (firm_ripe es k (reads e.1.plan) firm) (ap numbers_of (sym values) ∙ numbers_among inputs es k e.1.plan (reads e.1.plan)) w.sound;
  sourced = sourced_settled n inputs es k e (with_data (kept_data t sources) e) t x refl refl refl refl number
      (subst (λ (q : Plan). AreSources inputs es k (reads q) sources) p from) (ap (inputs_among inputs es k) (sym p) ∙ values) others
      w.inputs_below w.ids_apart w.fitted (subst (Fitted inputs) p (fitted_at inputs es k e w.fitted x)) w.sound w.sourced;
}

pub bring_whole : (b : Board) (n m : ℕ) (inputs : Inputs) (es : List Entry) (k : ℕ) (e : Entry) (t : Task) (sources : List Source) → slice_get es k ≡ Some e → verdict_at (seen inputs es) (k, machine_row e) t ≡ Kept → e.1.plan ≡ t.plan → AreSources inputs es k (reads e.1.plan) sources
    → IsWhole b n m inputs es → IsWhole b n m inputs (set es k (with_data (kept_data t sources) e))
bring_whole b n m inputs es k e t sources x v p from w =
    let means = kept_means inputs es k e t v in
    let rest = and_second (plan_eq e.1.plan t.plan) _ means.agrees in
    let firm : list_all (firm_among es k) (reads e.1.plan) ≡ true = and_first (list_all (firm_among es k) (reads e.1.plan)) (pointwise field_eq (inputs_among inputs es k e.1.plan) t.inputs) rest in
    let values : inputs_among inputs es k e.1.plan ≡ t.inputs = same_values (inputs_among inputs es k e.1.plan) t.inputs (and_second (list_all (firm_among es k) (reads e.1.plan)) (pointwise field_eq (inputs_among inputs es k e.1.plan) t.inputs) rest) in
    let number : t.edition.0 ≤ n = subst (λ (c : Edition). c.0 ≤ n) (sym means.edition) (w.sourced.numbers k e x).edition in
    kept_whole b n m inputs es k e t sources x firm values p from number
    (others_free n inputs es k e (with_data (kept_data t sources) e) t x means.unsettled refl refl means.edition w.sourced) w

-- a row that is cut off is settled by the result that it keeps, which is of its own plan on the present values, with their sources
pub again_whole : (b : Board) (n m : ℕ) (inputs : Inputs) (es : List Entry) (k : ℕ) (e : Entry) (sources : List Source) → slice_get es k ≡ Some e → is_cut (seen inputs es) k (machine_row e) ≡ true → ((d : Task) → e.1.done ≡ Some d → e.1.plan ≡ d.plan) → AreSources inputs es k (reads e.1.plan) sources → IsWhole b n m inputs es
    → IsWhole b n m inputs (set es k (with_data (again_data sources) e))
again_whole b n m inputs es k e sources x cut same_plan from w = by_done e.1.done refl (and_second (not (is_settled e.1.status)) (is_last_present (seen inputs es) k (machine_row e) (option_map work_of e.1.done)) cut)
  where
    by_done : (o : Option Task) → e.1.done ≡ o → is_last_present (seen inputs es) k (machine_row e) (option_map work_of o) ≡ true → IsWhole b n m inputs (set es k (with_data (again_data sources) e))
    by_done None h t = absurd (let z : false ≡ true = t in cc)
    by_done (Some d) h t =
        let rest = and_second (plan_eq e.1.plan d.plan) _ (sym (present_seen inputs es k e d) ∙ t) in
        let firm : list_all (firm_among es k) (reads e.1.plan) ≡ true = and_first (list_all (firm_among es k) (reads e.1.plan)) (pointwise field_eq (inputs_among inputs es k e.1.plan) d.inputs) rest in
        let values : inputs_among inputs es k e.1.plan ≡ d.inputs = same_values (inputs_among inputs es k e.1.plan) d.inputs (and_second (list_all (firm_among es k) (reads e.1.plan)) (pointwise field_eq (inputs_among inputs es k e.1.plan) d.inputs) rest) in
        let plan : e.1.plan ≡ d.plan = same_plan d h in
        subst (λ (o : Option Task). IsWhole b n m inputs (set es k (e.0, record e.1 { status = Settled; done = o; sources = sources }))) (sym h)
        (kept_whole b n m inputs es k e d sources x firm values plan from ((w.sourced.numbers k e x).result d h)
        (others_same n inputs es k e (with_data (kept_data d sources) e) x refl (sym h) w.sourced) w)
