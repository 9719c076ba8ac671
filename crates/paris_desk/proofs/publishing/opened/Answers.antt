use Rattle.std.proofs.Common.{◌≡◌, [], drop, ap, ◌∙◌, refl, subst, sym}
use Rattle.std.specs.Prelude.{IfOk}
use Rattle.paris_desk.specs.Rules.{IsSound, Posted, posted}
use Rattle.paris_desk.proofs.publishing.opened.Goals as goal

pub publish_again-requires-clause-shown : goal.publish_again-requires-clause-shown
publish_again-requires-clause-shown g c =
    let same = c.in_ok-writer.ensures.0 ∙ c.new-first.ensures.shown in
    (ap (λ (x : Posted). x.log) same, subst (IsSound g.L.Office.profile) (sym same) (c.new-first.ensures.legal, refl))

pub publish_again-requires-2-clause-shown : goal.publish_again-requires-2-clause-shown
publish_again-requires-2-clause-shown g c =
    let same = c.in_ok-writer-2.ensures.0 ∙ c.in_ok-writer.ensures.0 ∙ c.new-first.ensures.shown in
    (ap (λ (x : Posted). x.log) same, subst (IsSound g.L.Office.profile) (sym same) (c.new-first.ensures.legal, refl))

pub returns : goal.returns
returns g c =
    let same : c.in_ok-writer-2.writer.desk.shown.value ≡ posted g.L.Office.profile g.L.Office.log [] =
    c.in_ok-writer-2.ensures.0 ∙ c.in_ok-writer.ensures.0 ∙ c.new-first.ensures.shown ∙ ap (λ h. posted g.L.Office.profile g.L.Office.log h) (c.again.ensures ∙ c.requires.empty.0) in
    subst (λ (x : Posted). IfOk c.publish_again-2.result (λ w. (w.desk.shown.value ≡ x) × (drop w.behind w.log.items ≡ []))) same c.publish_again-2.ensures
