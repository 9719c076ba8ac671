use Rattle.std.proofs.Common.{◌≡◌, List, drop, fold, ap, ◌∙◌}
use mathlib.Core.List.{IsPrefix}
use Rattle.paris_desk.specs.Rules.{IsSound, Posted}
use Rattle.paris_desk.proofs.Pasts.{sees}
use Rattle.paris_desk.proofs.publishing.publish_pending.Goals as goal

pub publish_as-next-requires : goal.publish_as-next-requires
publish_as-next-requires g c next is =
    let i = c.loop.invariant in
    let same : next ≡ fold (λ (s o : Posted). o) c.args.start.desk.shown.value (drop c.args.start.behind c.args.start.log.items) = is ∙ ap (λ (x : Posted). fold (λ (s o : Posted). o) x (drop c.loop.writer.behind c.loop.writer.log.items)) i.2 ∙ ap (λ (z : List Posted). fold (λ (s o : Posted). o) c.args.start.desk.shown.value z) i.3 in
    let up : IsPrefix c.loop.writer.desk.shown.value.history next.history = rw (i.2, same) c.requires.1 in
    let sound : IsSound g.L.Office.profile next = rw same c.requires.2 in
    sees g.L.Office.profile g.L.Office.log _ _ c.loop.writer.desk.shown.value next (ap (λ (x : Posted). x.log) same ∙ c.requires.0) up sound
