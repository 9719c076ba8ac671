-- An executed order gives in any world what its result holds, and is refused there as its result says.
use Rattle.std.proofs.Common.{◌≡◌, ℕ, List, Option, Some, None, true, false, refl, sym, ap, ◌∙◌, map}
use Rattle.paris_names.specs.Keys.{has_key}
use Rattle.paris_model.specs.declared.actions.Refusal.{Refusal}
use Rattle.paris_model.specs.Frame.{World}
use Rattle.paris_model.specs.Fits.{IsFit}
use Rattle.paris_model.specs.Instructions.{Plan, reads, writes, value_at, one, outcome, outcome_in, refusal, given}
use Rattle.paris_model.specs.Run.{direct_in}
use Rattle.paris_model.proofs.Worlds.{one_is, value_at-map}
use Rattle.paris_model.proofs.Direct.{one_direct, refusal_depends, refused_leaves}
use Rattle.paris_exec.specs.Tasks.{Task, result_told, numbers_of}
use Rattle.paris_exec.specs.Frames.{GivesDirectly, GivesInAnyWorld, RefusedInAnyWorld, refusal_told}

pub gives : (t : Task) → GivesInAnyWorld t
gives t w same k = (
  λ written. one_is t.plan w k ∙ rw written (ap (λ xs. given t.plan xs k) same),
  λ other. one_is t.plan w k ∙ rw other refl,
)

pub gives_directly : (t : Task) → IsFit t.plan.axes t.plan.action → GivesDirectly t
gives_directly t fit w same unread k = by_refusal (refusal t.plan w) refl
  where
    held_there : has_key (writes t.plan) k ≡ true → one t.plan w k ≡ given t.plan (numbers_of t.inputs) k
    held_there written = (gives t w same k).0 written

    by_refusal : (o : Option Refusal) → refusal t.plan w ≡ o
        → (has_key (writes t.plan) k ≡ true → direct_in o t.plan w k ≡ given t.plan (numbers_of t.inputs) k) × (has_key (writes t.plan) k ≡ false → direct_in o t.plan w k ≡ w k)
    by_refusal (Some cause) e = (λ written. sym (refused_leaves t.plan w cause e k) ∙ held_there written, λ other. refl)
    by_refusal None e = (λ written. rw written (sym (one_direct t.plan w fit unread e k written) ∙ held_there written), λ other. rw other refl)

-- what is told of an outcome is the refusal that it was made of
told_refusal : (p : Plan) (w : World) (o : Option Refusal) → refusal_told (result_told p (outcome_in p w o)) ≡ o
told_refusal p w None = refl
told_refusal p w (Some cause) = refl

outcome_told : (p : Plan) (inputs : List (List ℕ)) → refusal_told (result_told p (outcome p inputs)) ≡ refusal p (value_at (reads p) inputs)
unfolding outcome
outcome_told p inputs = told_refusal p (value_at (reads p) inputs) (refusal p (value_at (reads p) inputs))

pub refused : (t : Task) → RefusedInAnyWorld t
refused t w same =
    refusal_depends t.plan w (value_at (reads t.plan) (map w (reads t.plan))) (λ k read. sym (value_at-map w (reads t.plan) k read))
    ∙ ap (λ xs. refusal t.plan (value_at (reads t.plan) xs)) same
    ∙ sym (outcome_told t.plan (numbers_of t.inputs))
