-- The list is that of the processors below v.
use Rattle.std.proofs.Common.{◌≡◌, ◌≤◌, get_or, length, map}
use Rattle.std.specs.Prelude.{if◌then◌else◌}
use Rattle.paris_geometry.specs.Geometry.{numbers_below}
use Rattle.paris_field.specs.Numbers.{has}
use Rattle.paris_router.proofs.gets.fetched.Given as goal

abbrev pub invariant-loop-v : goal.invariant-loop-v
invariant-loop-v g l = record {
  long : l.list.len ≡ l.v;
  room : length l.addresses ≤ l.list.cap;
  value : l.list.items ≡ map (λ v. if has l.selected v then get_or l.numbers (get_or l.addresses v 0) l.zero else l.zero) (numbers_below l.v);
}
