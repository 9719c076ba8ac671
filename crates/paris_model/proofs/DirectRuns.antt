-- A run is the one in which each instruction sees the whole world.
use Rattle.std.proofs.Common.{◌≡◌, ℕ, Bool, true, false, cond, List, [], ◌∷◌, Option, Some, None, sym, ap, ◌∙◌, subst, refl}
use Rattle.std.specs.Prelude.{◌||◌}
use Rattle.paris_names.specs.declared.keys.Key.{Key}
use Rattle.paris_names.specs.Keys.{has_key}
use Rattle.paris_model.specs.declared.actions.Refusal.{Refusal}
use Rattle.paris_model.specs.Frame.{World}
use Rattle.paris_model.specs.Instructions.{Plan, reads, writes, refusal, after_plan, one}
use Rattle.paris_model.specs.Run.{run, direct_in, direct_one, direct_run}
use Rattle.paris_model.specs.Laws.{ReadsFit, UnreadFit, WorldFits, PlanFits, PlansFit}
use Rattle.paris_model.proofs.Worlds.{or_true_second, leaves}
use Rattle.paris_model.proofs.Widths.{HaveBits, after_fits}
use Rattle.paris_model.proofs.Direct.{refusal_depends, after_depends, one_direct, refused_leaves}

or_true_first : (a b : Bool) → a ≡ true → (a || b) ≡ true
or_true_first a b e = rw e refl

-- where a world fits, its numbers fit at each key of a plan
reads_fit : (width : Key → ℕ) (p : Plan) (w : World) → WorldFits width w → PlanFits width p → ReadsFit p w
reads_fit width p w start fit k t = subst (λ W. HaveBits W (w k)) (sym (fit.widths k (or_true_first (has_key (reads p) k) (has_key (writes p) k) t))) (start k)

unread_fit : (width : Key → ℕ) (p : Plan) (w : World) → WorldFits width w → PlanFits width p → UnreadFit p w
unread_fit width p w start fit k t e = subst (λ W. HaveBits W (w k)) (sym (fit.widths k (or_true_second (has_key (reads p) k) (has_key (writes p) k) t))) (start k)

-- what a plan leaves fits
one_fits : (width : Key → ℕ) (p : Plan) (w : World) → WorldFits width w → PlanFits width p → WorldFits width (one p w)
one_fits width p w start fit k = by_refusal (refusal p w) refl (has_key (writes p) k) refl
  where
    by_refusal : (o : Option Refusal) → refusal p w ≡ o → (b : Bool) → has_key (writes p) k ≡ b → HaveBits (width k) (one p w k)
    by_refusal (Some cause) e b t = subst (λ xs. HaveBits (width k) xs) (sym (refused_leaves p w cause e k)) (start k)
    by_refusal None e false t = subst (λ xs. HaveBits (width k) xs) (sym (leaves p w k t)) (start k)
    by_refusal None e true t =
        let unread : UnreadFit p w = unread_fit width p w start fit in
        subst (λ xs. HaveBits (width k) xs) (sym (one_direct p w fit.action unread e k t))
        (subst (λ W. HaveBits W (after_plan p w k)) (fit.widths k (or_true_second (has_key (reads p) k) (has_key (writes p) k) t))
        (after_fits p w fit.action (reads_fit width p w start fit) unread k t).0)

-- one plan, in two worlds with the same numbers
one_same : (width : Key → ℕ) (p : Plan) (w w' : World) → WorldFits width w → PlanFits width p → ((k : Key) → w k ≡ w' k) → (k : Key) → one p w k ≡ direct_one p w' k
one_same width p w w' start fit same k = by_refusal (refusal p w) refl (has_key (writes p) k) refl
  where
    refused : (o : Option Refusal) → refusal p w ≡ o → refusal p w' ≡ o
    refused o e = sym (refusal_depends p w w' (λ j h. same j)) ∙ e

    there : WorldFits width w'
    there j = subst (λ xs. HaveBits (width j) xs) (same j) (start j)

    by_refusal : (o : Option Refusal) → refusal p w ≡ o → (b : Bool) → has_key (writes p) k ≡ b → one p w k ≡ direct_one p w' k
    by_refusal (Some cause) e b t = refused_leaves p w cause e k ∙ same k ∙ sym (ap (λ o. direct_in o p w' k) (refused (Some cause) e))
    by_refusal None e false t = leaves p w k t ∙ same k ∙ sym (ap (λ o. direct_in o p w' k) (refused None e) ∙ ap (λ b. cond b (after_plan p w' k) (w' k)) t)
    by_refusal None e true t =
        one_direct p w fit.action (unread_fit width p w start fit) e k t
        ∙ after_depends p w w' fit.action (λ j h. same j) (unread_fit width p w start fit) (unread_fit width p w' there fit) k t
        ∙ sym (ap (λ o. direct_in o p w' k) (refused None e) ∙ ap (λ b. cond b (after_plan p w' k) (w' k)) t)

runs_same : (width : Key → ℕ) (w w' : World) (plans : List Plan) → WorldFits width w → PlansFit width plans → ((k : Key) → w k ≡ w' k) → (k : Key) → run w plans k ≡ direct_run w' plans k
runs_same width w w' [] start fit same k = same k
runs_same width w w' (p ∷ ps) start fit same k = runs_same width (one p w) (direct_one p w') ps (one_fits width p w start fit.0) fit.1 (one_same width p w w' start fit.0 same) k

pub run_direct : (width : Key → ℕ) (w : World) (plans : List Plan) → WorldFits width w → PlansFit width plans → (k : Key) → run w plans k ≡ direct_run w plans k
run_direct width w plans start fit k = runs_same width w w plans start fit (λ j. refl) k
