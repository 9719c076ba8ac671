use Rattle.std.proofs.Common.{◌≡◌, ◌++◌, ◌∙◌, sym, subst, length, take, drop}
use Rattle.paris_book.specs.Rounds.{HoldOrders, HoldResults}
use Rattle.paris_book.proofs.Slots.{orders_executed, written_back}
use Rattle.paris_book.proofs.loose.Loose.run_level.Goals as goal

pub keep_slots-requires : goal.keep_slots-requires
keep_slots-requires g c =
    let s = c.orders_of.new.self in
    let ordered = c.in-Ok.slots.items in
    let ran = c.run_slots.new.slots in
    let back : take c.in-Ok.slots.len (ran ++ drop (length ran) ordered) ≡ ran = written_back c.in-Ok.slots.len ran ordered (c.run_slots.auto.slots ∙ c.as_mut_slice.ensures.len) in
    subst (HoldResults s) (sym back)
    (orders_executed s c.as_mut_slice.result.now ran c.run_slots.auto.slots c.run_slots.ensures (subst (HoldOrders s) (sym c.as_mut_slice.ensures.value) c.in-Ok.ensures.slots))
