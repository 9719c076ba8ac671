-- The results that were refused are those of the rows that the run refuses.
use Rattle.std.proofs.Common.{◌≡◌, ℕ, ◌+◌, List, [], ◌∷◌, ◌++◌, Bool, true, false, cond, Option, Some, None, refl, sym, ap, ◌∙◌, map, take, slice_get}
use Rattle.std.proofs.Math.Path.{ap₂}
use Rattle.std.proofs.lemmas.List.{take_more, append-nil, append_assoc}
use Rattle.std.proofs.lemmas.Option.{slice_get_within, get_or_from_slice_get}
use Rattle.std.specs.Option.{unwrap_or}
use Rattle.paris_names.specs.declared.keys.Key.{Key}
use Rattle.paris_board.specs.Board.{Board}
use Rattle.paris_model.specs.declared.actions.Refusal.{Refusal}
use Rattle.paris_model.specs.Frame.{World}
use Rattle.paris_model.specs.Instructions.{Plan, reads, refusal, one, value_at, outcome, outcome_in}
use Rattle.paris_field.specs.Fields.{FieldNumbers}
use Rattle.paris_exec.specs.Tasks.{Task, numbers_of, result_told}
use Rattle.paris_exec.specs.declared.orders.Outcome.TheVariants.{Values, Refused}
use Rattle.paris_edits.specs.Rows.{is_settled}
use Rattle.paris_events.specs.State.{Inputs, State, start_world}
use Rattle.paris_events.specs.Lists.{cause_in, fault_by, faults_in, faults_of}
use Rattle.paris_book.specs.Kept.{last_kept, ripen, Right, Sound}
use Rattle.paris_book.specs.Whole.{IsWhole}
use Rattle.paris_book.specs.Among.{cause_told, cause_kept, faults_kept}
use Rattle.paris_book.specs.Entries.{Entry, id_of, machine_row}
use Rattle.paris_book.proofs.Inserts.{state_of}
use Rattle.paris_book.proofs.RefusalHere.{refusal_here}

-- the cause that an outcome tells
pub refused_told : (p : Plan) (inputs : List (List ℕ)) (cause : Refusal) → Refused cause ≡ result_told p (outcome p inputs) → refusal p (value_at (reads p) inputs) ≡ Some cause
unfolding outcome
refused_told p inputs cause h = by_refusal (refusal p (value_at (reads p) inputs)) h
  where
    by_refusal : (o : Option Refusal) → Refused cause ≡ result_told p (outcome_in p (value_at (reads p) inputs) o) → o ≡ Some cause
    by_refusal None x = absurd (cc)
    by_refusal (Some c) x = let same : cause ≡ c = cc in ap Some (sym same)

pub values_told : (p : Plan) (inputs : List (List ℕ)) (values : List FieldNumbers) → Values values ≡ result_told p (outcome p inputs) → refusal p (value_at (reads p) inputs) ≡ None
unfolding outcome
values_told p inputs values h = by_refusal (refusal p (value_at (reads p) inputs)) h
  where
    by_refusal : (o : Option Refusal) → Values values ≡ result_told p (outcome_in p (value_at (reads p) inputs) o) → o ≡ None
    by_refusal None x = refl
    by_refusal (Some c) x = absurd (cc)

-- the cause of a settled entry is that of the result that it keeps
pub kept_cause : (e : Entry) (t : Task) (o : Option Refusal) → is_settled e.1.status ≡ true → e.1.done ≡ Some t → refusal t.plan (value_at (reads t.plan) (numbers_of t.inputs)) ≡ o → o ≡ cause_kept e
kept_cause e t o settled done is = sym (ap₂ (λ b d. cond b (cause_told d) None) settled done ∙ is)

-- one row further
faults-push : (es : List Entry) (e : Entry) → faults_kept (es ++ e ∷ []) ≡ faults_kept es ++ fault_by (id_of e) (cause_kept e)
faults-push [] e = append-nil (fault_by (id_of e) (cause_kept e))
faults-push (x ∷ es) e = ap (λ fs. fault_by (id_of x) (cause_kept x) ++ fs) (faults-push es e) ∙ sym (append_assoc (fault_by (id_of x) (cause_kept x)) (faults_kept es) (fault_by (id_of e) (cause_kept e)))

pub faults_more : (es : List Entry) (i : ℕ) (e : Entry) (o : Option Refusal) → slice_get es i ≡ Some e → o ≡ cause_kept e → faults_kept (take (i + 1) es) ≡ faults_kept (take i es) ++ fault_by (id_of e) o
faults_more es i e o at is =
    ap faults_kept (take_more es i e (slice_get_within es i e at) ∙ ap (λ x. take i es ++ x ∷ []) (get_or_from_slice_get es i e e at))
    ∙ faults-push (take i es) e
    ∙ ap (λ c. faults_kept (take i es) ++ fault_by (id_of e) c) (sym is)

-- a settled row's result was refused exactly where the run refuses the row
pub cause_is : (w : World) (h : Key → Bool) (e : Entry) → Right w h e → cause_kept e ≡ cause_in w (machine_row e)
cause_is w h e r = by_status (is_settled e.1.status) refl
  where
    by_done : (d : Option Task) → last_kept d ≡ Some (e.1.plan, map w (reads e.1.plan)) → cause_told d ≡ refusal e.1.plan w
    by_done None x = absurd (cc)
    by_done (Some t) x =
        let pair : (t.plan, numbers_of t.inputs) ≡ (e.1.plan, map w (reads e.1.plan)) = ap (λ o. unwrap_or o (t.plan, numbers_of t.inputs)) x in
        ap (λ (p : Plan × List (List ℕ)). refusal p.0 (value_at (reads p.0) p.1)) pair ∙ refusal_here e.1.plan w

    by_status : (b : Bool) → is_settled e.1.status ≡ b → cond b (cause_told e.1.done) None ≡ cond b (refusal e.1.plan w) None
    by_status true t = by_done e.1.done (r.kept t)
    by_status false t = refl

faults_are : (w : World) (h : Key → Bool) (es : List Entry) → Sound w h es → faults_kept es ≡ faults_in w (map machine_row es)
faults_are w h [] s = refl
faults_are w h (e ∷ es) s = ap₂ (λ o fs. fault_by (id_of e) o ++ fs) (cause_is w h e s.0) (faults_are (one e.1.plan w) (ripen h e) es s.1)

-- those of a book
pub faults_seen : (b : Board) (n m : ℕ) (inputs : Inputs) (es : List Entry) (s : State) → state_of b n m inputs es ≡ s → IsWhole b n m inputs es → faults_kept es ≡ faults_of s
faults_seen b n m inputs es s y w = faults_are (start_world inputs) (λ _. true) es w.sound ∙ ap faults_of y
