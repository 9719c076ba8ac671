-- The list is that of the processors below v, and the least bad sender isn't below v.
use Rattle.std.proofs.Common.{◌≡◌, ◌-◌, ◌<◌, ◌≤◌, All, get_or}
use Rattle.std.specs.Prelude.{◌&&◌, find, if◌then◌else◌, nat_le}
use Rattle.std.specs.List.{range_with_len}
use Rattle.paris_model.specs.Store.{everywhere}
use Rattle.paris_field.specs.Numbers.{has}
use Rattle.paris_router.specs.Mail.{bad_sender_of}
use Rattle.paris_router.proofs.addresses.checked_addresses.Given as goal

abbrev pub invariant-loop-v : goal.invariant-loop-v
invariant-loop-v l = record {
  long : l.list.len ≡ l.v;
  room : l.count ≤ l.list.cap;
  value : l.list.items ≡ everywhere l.v (λ v. if has l.selected v then get_or l.fn.addresses.numbers v 0 else 0);
  within : All (λ r. r < l.count) l.list.items;
  least : bad_sender_of l.fn.addresses l.fn.selected ≡ find (λ v. has l.selected v && nat_le l.count (get_or l.fn.addresses.numbers v 0)) (range_with_len l.v (l.count - l.v));
}
