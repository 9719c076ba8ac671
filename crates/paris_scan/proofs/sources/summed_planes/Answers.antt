use Rattle.std.proofs.Common.{◌∙◌, ap, false, length, replicate, ℕ}
use Rattle.paris_scan.proofs.Added.{zero_on_top}
use Rattle.paris_scan.proofs.sources.summed_planes.Goals as goal

pub returns-clause-at : goal.returns-clause-at
returns-clause-at c =
    λ v h.
    zero_on_top (length c.args.selected.now) v c.in_ok-planes.planes.items c.push.new.self.items c.in_ok-zeros.field-0 (c.in_ok-zeros.ensures ∙ ap (λ (m : ℕ). replicate m false) c.len.ensures) c.in_ok-push.ensures.items
    ∙ c.in_ok-planes.ensures.at v h
