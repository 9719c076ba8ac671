use Rattle.std.proofs.Common.{ℕ, List, [], length, arith, sym, ap, ◌∙◌, cond, nat_eq}
use Rattle.std.specs.Prelude.{remove}
use Rattle.paris_depends.specs.Lists.{Lists, room_at, list_at}
use Rattle.paris_depends.specs.ListsInside.{ids_held, room_in}
use Rattle.paris_depends.proofs.Slots.{get_or-mapped, grown, held_within, set-turned}
use Rattle.paris_depends.proofs.lists.Lists.take_out.Goals as goal

pub take_out-requires : goal.take_out-requires
take_out-requires c =
    let slot : ℕ = c.args.slot in
    let seen = ap (λ (l : Lists). room_at l slot) c.self.view_is in
    let long = ap (λ (l : Lists). length (list_at l slot)) c.self.view_is in
    let within = held_within room_in 0 c.self.inside.lists.items slot (λ none. omega (arith, none, seen, c.requires.room)) in
    let there = ap length (get_or-mapped ids_held c.self.inside.lists.items slot c.index_mut.result.now [] within c.index_mut.ensures.value) in
    let room = get_or-mapped room_in c.self.inside.lists.items slot c.index_mut.result.now 0 within c.index_mut.ensures.value in
    record { there = omega (arith, there, long, c.requires.there); room = omega (arith, room, seen, c.requires.room) }

pub returns-clause-ids : goal.returns-clause-ids
returns-clause-ids c = λ s.
    let slot : ℕ = c.args.slot in
    let seen = ap (λ (l : Lists). room_at l slot) c.self.view_is in
    let within = held_within room_in 0 c.self.inside.lists.items slot (λ none. omega (arith, none, seen, c.requires.room)) in
    let there = get_or-mapped ids_held c.self.inside.lists.items slot c.index_mut.result.now [] within c.index_mut.ensures.value in
    let made = c.take_out.ensures.ids ∙ ap (λ (l : List ℕ). remove l c.args.i) (sym there) in
    set-turned ids_held [] c.self.inside.lists.items slot c.take_out.new.self (λ l. remove l c.args.i) s within made
    ∙ ap (λ (l : Lists). cond (nat_eq s slot) (remove (list_at l s) c.args.i) (list_at l s)) c.self.view_is

pub returns-clause-more : goal.returns-clause-more
returns-clause-more c = λ s.
    let more = grown room_in c.self.inside.lists.items c.args.slot c.take_out.new.self c.index_mut.result.now s c.index_mut.ensures.value c.take_out.ensures.more in
    let now = ap (λ (l : Lists). room_at l s) c.self.view_is in
    omega (arith, more, now)
