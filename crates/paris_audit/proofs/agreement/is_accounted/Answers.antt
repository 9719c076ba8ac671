use Rattle.std.proofs.Common.{sym, ◌∙◌}
use Rattle.std.proofs.lemmas.Bool.{eqb-true, eq-eqb}
use Rattle.paris_audit.proofs.agreement.is_accounted.Goals as goal

pub returns-then-are_in_places : goal.returns-then-are_in_places
returns-then-are_in_places c =
    (λ t. (c.are_in_places.ensures.0 c.if-are_in_places.true, sym c.calls_of.ensures ∙ eqb-true _ _ t), λ a. eq-eqb _ _ (c.calls_of.ensures ∙ a.1))
