-- Running a program once, from its input data.
use Rattle.std.specs.Prelude.{ℕ, List, [], ◌∷◌, take, Option, Some, None, slice_get, if◌then◌else◌}
use Rattle.paris_names.specs.Keys.{has_key}
use Rattle.paris_model.specs.declared.actions.Refusal.{Refusal}
use Rattle.paris_model.specs.Frame.{World}
use Rattle.paris_model.specs.Instructions.{Plan, writes, after_plan, one, refusal}

-- the world after the plans
abbrev pub run : World → List Plan → World
run w [] = w
run w (p ∷ ps) = run (one p w) ps

-- why the plan at place k is refused in this run, if it is there and is
abbrev pub cause : World → List Plan → ℕ → Option Refusal
cause w plans k = refused_in (slice_get plans k)
  where
    refused_in : Option Plan → Option Refusal
    refused_in None = None
    refused_in (Some p) = refusal p (run w (take k plans))

-- the world after a plan that sees the whole world, where the reason to refuse it is known: a refused plan leaves it
abbrev pub direct_in : Option Refusal → Plan → World → World
direct_in (Some cause) p w k = w k
direct_in None p w k = if has_key (writes p) k then after_plan p w k else w k

-- the same, where nothing is said of what the plan reads
abbrev pub direct_one : Plan → World → World
direct_one p w = direct_in (refusal p w) p w

-- the world after the plans, each of which sees the whole world
abbrev pub direct_run : World → List Plan → World
direct_run w [] = w
direct_run w (p ∷ ps) = direct_run (direct_one p w) ps
