-- Whether a plan is refused hangs on what it reads alone.
use Rattle.std.proofs.Common.{◌≡◌, map}
use Rattle.paris_model.specs.Frame.{World}
use Rattle.paris_model.specs.Instructions.{Plan, reads, value_at, refusal}
use Rattle.paris_model.proofs.Worlds.{value_at-map}
use Rattle.paris_model.proofs.Direct.{refusal_depends}

pub refusal_here : (p : Plan) (w : World) → refusal p (value_at (reads p) (map w (reads p))) ≡ refusal p w
refusal_here p w = refusal_depends p (value_at (reads p) (map w (reads p))) w (λ k t. value_at-map w (reads p) k t)
