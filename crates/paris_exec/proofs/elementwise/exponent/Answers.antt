use Rattle.std.proofs.Common.{◌≤◌, ℕ, ◌^◌, ◌∙◌, sym, ap, subst}
use Rattle.paris_exec.proofs.Addresses.{exponent_is, exponent_small}
use Rattle.paris_exec.proofs.elementwise.exponent.Goals as goal

pub returns-clause-value : goal.returns-clause-value
returns-clause-value c = exponent_is c.args.power c.requires ∙ ap (λ (k : ℕ). 2 ^ k) (sym c.from.ensures)

pub returns-clause-small : goal.returns-clause-small
returns-clause-small c = subst (λ (k : ℕ). k ≤ 16) (sym c.from.ensures) (exponent_small c.args.power c.requires)
