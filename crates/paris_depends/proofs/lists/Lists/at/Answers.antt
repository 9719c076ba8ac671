use Rattle.std.proofs.Common.{◌∙◌, sym, ap, length, arith, [], List, ℕ, slice_get}
use Rattle.paris_depends.specs.Lists.{Lists, list_at}
use Rattle.paris_depends.specs.ListsInside.{ids_held}
use Rattle.paris_depends.proofs.Slots.{get_or-mapped, held_within}
use Rattle.paris_depends.proofs.lists.Lists.at.Goals as goal

pub at-requires : goal.at-requires
at-requires c =
    let seen = ap (λ (l : Lists). list_at l c.args.slot) c.self.view_is in
    let long = ap length seen in
    let within = held_within ids_held [] c.self.inside.lists.items c.args.slot (λ none. let empty = ap length none in omega (arith, long, empty, c.requires)) in
    let there = ap length (get_or-mapped ids_held c.self.inside.lists.items c.args.slot c.index.result.now [] within c.index.ensures) in
    omega (arith, there, long, c.requires)

pub returns : goal.returns
returns c =
    let seen = ap (λ (l : Lists). list_at l c.args.slot) c.self.view_is in
    let long = ap length seen in
    let within = held_within ids_held [] c.self.inside.lists.items c.args.slot (λ none. let empty = ap length none in omega (arith, long, empty, c.requires)) in
    let there = get_or-mapped ids_held c.self.inside.lists.items c.args.slot c.index.result.now [] within c.index.ensures in
    ap (λ (l : List ℕ). slice_get l c.args.i) (sym seen ∙ there) ∙ c.at.ensures
