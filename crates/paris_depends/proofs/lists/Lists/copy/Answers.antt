use Rattle.std.proofs.Common.{[], List, ℕ, map, ap, ◌∙◌, get_or}
use Rattle.std.proofs.lemmas.List.{take_all}
use Rattle.paris_depends.specs.Lists.{Lists, list_at}
use Rattle.paris_depends.specs.ListsInside.{ids_held}
use Rattle.paris_depends.proofs.Slots.{copied-more}
use Rattle.paris_depends.proofs.lists.Lists.copy.Goals as goal

pub loop-list-preserved : goal.loop-list-preserved
loop-list-preserved c =
    copied-more ids_held c.as_slice-list-items.result.now c.loop-list.lists.items c.push.new.self.items c.loop-list.list-index c.list-item.result c.in_ok-copy.field-0 c.loop-list.invariant c.loop-list-test.true c.list-item.is c.in_ok-copy.ensures c.in_ok-push.ensures.items

pub returns : goal.returns
returns c = λ s.
    ap (λ (l : List (List ℕ)). get_or l s []) (c.loop-list.invariant ∙ ap (map ids_held) (take_all c.loop-list.list-index c.as_slice-list-items.result.now c.loop-list-test.false ∙ c.as_slice-list-items.ensures.value))
    ∙ ap (λ (l : Lists). list_at l s) c.self.view_is
