-- Each step of what is published keeps its rule.
use Rattle.std.proofs.Common.{◌≡◌, ℕ, ◌≢◌, [], ◌∷◌, refl, subst, ⊎_elim}
use mathlib.Core.List.{IsPrefix}
use mathlib.Core.Option.{some}
use lib.ListN.{get_elem?}
use Rattle.left_right.specs.Register.{Admits, TurnsAt}
use Rattle.atomic_table.proofs.Lists.{at_set, at_snoc}
use Rattle.logbook.specs.Pages.{Book}
use Rattle.paris_desk.specs.declared.published.Saw.{Saw}
use Rattle.paris_names.specs.declared.profiles.Profile.{Profile}
use Rattle.paris_desk.specs.Rules.{Posted, IsSound}
use Rattle.paris_desk.specs.Pasts.{Holds, Sees, saw}
use Rattle.paris_desk.proofs.Prefixes.{prefix_none, prefix_self, prefix_trans}

pub admits : (p : Profile) (b : Book) → Admits (Holds p b) (saw [])
admits p b x views all = (all.0, all.1, λ j u e. ⊎_elim (λ (t : get_elem? views j ≡ some u). all.2 j u t) (λ (t : saw [] ≡ u). subst (λ (z : Saw). IsPrefix z.past x.history) t (prefix_none x.history)) (at_snoc views (saw []) u j e))

-- what is published begins what is published next
pub sees : (p : Profile) (b : Book) (seat : ℕ) (v : Saw) (x y : Posted) → y.log ≡ b → IsPrefix x.history y.history → IsSound p y → TurnsAt (Holds p b) seat v x y (Sees p b)
sees p b seat v x y book up sound views all at = (
  saw y.history,
  (book, sound, λ j u e. ⊎_elim (λ (t : (j ≡ seat) × (saw y.history ≡ u)). subst (λ (z : Saw). IsPrefix z.past y.history) t.1 (prefix_self y.history)) (λ (t : (j ≢ seat) × (get_elem? views j ≡ some u)). prefix_trans u.past x.history y.history (all.2 j u t.1) up) (at_set views seat j (saw y.history) u e)),
  (book, sound, prefix_trans v.past x.history y.history (all.2 seat v at) up, refl),
)

-- a reader sees what is published, whatever it is
pub enters : (p : Profile) (b : Book) (seat : ℕ) (v : Saw) (x : Posted) → TurnsAt (Holds p b) seat v x x (Sees p b)
enters p b seat v x views all at = sees p b seat v x x all.0 (prefix_self x.history) all.1 views all at

pub starts : (p : Profile) (b : Book) (x : Posted) → x.log ≡ b → IsSound p x → Holds p b x (saw [] ∷ [])
starts p b x is sound = admits p b x [] (is, sound, λ seat v e. absurd (cc e))
