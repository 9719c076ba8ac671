use Rattle.std.proofs.Common.{◌≡◌, [], ◌∷◌, ◌++◌, List, fold, ap, ◌∙◌, subst, sym}
use mathlib.Core.List.{IsPrefix}
use Rattle.paris_desk.specs.Rules.{IsSound, Posted}
use Rattle.paris_desk.proofs.Prefixes.{prefix_self}
use Rattle.paris_desk.proofs.publishing.publish_again.Goals as goal

-- where one value is pending, it is what is shown next
next_is : (x y : Posted) (zs more : List Posted) → zs ≡ more ++ x ∷ [] → more ≡ [] → fold (λ (s o : Posted). o) y zs ≡ x
next_is x y zs more is none = ap (fold (λ (s o : Posted). o) y) (is ∙ ap (λ (l : List Posted). l ++ x ∷ []) none)

pub publish_pending-requires : goal.publish_pending-requires
publish_pending-requires g c =
    let w = c.append_again.new.writer in
    let shown : w.desk.shown.value ≡ c.args.start.desk.shown.value = ap (λ d. d.shown.value) c.append_again.ensures.shown in
    let next = next_is c.args.start.desk.shown.value w.desk.shown.value _ _ c.in-Ok.ensures.pending c.requires.writer in
    (ap (λ (z : Posted). z.log) next ∙ c.requires.shown.0, subst (λ (z : Posted). IsPrefix w.desk.shown.value.history z.history) (shown ∙ sym next) (prefix_self w.desk.shown.value.history), subst (IsSound g.L.Office.profile) (sym next) c.requires.shown.1)

pub returns-in-Ok : goal.returns-in-Ok
returns-in-Ok g c =
    let w = c.append_again.new.writer in
    let next = next_is c.args.start.desk.shown.value w.desk.shown.value _ _ c.in-Ok.ensures.pending c.requires.writer in
    (c.publish_pending.ensures.shown ∙ next, c.publish_pending.ensures.pending)
