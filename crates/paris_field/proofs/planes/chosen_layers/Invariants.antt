use Rattle.std.proofs.Common.{◌≡◌, ℕ, ◌<◌, length, take, cond, get_or, false}
use Rattle.paris_field.specs.Numbers.{AllOf, number_at}
use Rattle.paris_field.proofs.planes.chosen_layers.Given as goal

abbrev pub invariant-loop-k : goal.invariant-loop-k
invariant-loop-k l = record {
  count : length l.layers.items ≡ l.k;
  long : AllOf (length l.mask) l.layers.items;
  numbers : (v : ℕ) → v < length l.mask → number_at l.layers.items v ≡ cond (get_or l.mask v false) (number_at (take l.k l.chosen) v) (number_at (take l.k l.others) v);
}
