use Rattle.std.proofs.Common.{map, ap, ◌∙◌, ℕ, Vec, Global}
use Rattle.paris_parts.proofs.parts.Part.lines.Goals as goal

pub returns : goal.returns
returns c = ap (map (λ (v : Vec ℕ Global). v.items)) c.as_slice.ensures.value ∙ c.self.view_is
