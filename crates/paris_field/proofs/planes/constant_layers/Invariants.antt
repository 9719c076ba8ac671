-- The planes so far hold the low bits in each processor.
use Rattle.std.proofs.Common.{◌≡◌, ℕ, ◌+◌, ◌*◌, ◌^◌, ◌<◌, length}
use Rattle.paris_field.specs.Numbers.{AllOf, number_at}
use Rattle.paris_field.proofs.planes.constant_layers.Given as goal

abbrev pub invariant-loop : goal.invariant-loop
invariant-loop l = record {
  count : length l.layers.items ≡ l.counter;
  long : AllOf l.vps l.layers.items;
  numbers : (v : ℕ) → v < l.vps → number_at l.layers.items v + 2 ^ l.counter * l.rest ≡ l.number;
}
