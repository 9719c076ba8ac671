use Rattle.std.proofs.Common.{[], List, ℕ, map, ap, ◌∙◌, get_or}
use Rattle.std.proofs.lemmas.List.{with_items_is}
use Rattle.paris_depends.specs.Lists.{Lists, list_at}
use Rattle.paris_depends.specs.ListsInside.{ids_held}
use Rattle.paris_depends.specs.declared.id_list.IdList.{IdList}
use Rattle.paris_depends.proofs.lists.Lists.share.Goals as goal

pub returns : goal.returns
returns c = λ s.
    let written = with_items_is c.self.inside.lists c.share_each.new.lists (c.share_each.auto.lists ∙ c.as_mut_slice.ensures.len) in
    ap (λ (ls : List IdList). get_or (map ids_held ls) s []) written
    ∙ ap (λ (ls : List (List ℕ)). get_or ls s []) (c.share_each.ensures ∙ ap (map ids_held) c.as_mut_slice.ensures.value)
    ∙ ap (λ (l : Lists). list_at l s) c.self.view_is
