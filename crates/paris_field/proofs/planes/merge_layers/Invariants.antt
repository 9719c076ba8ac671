use Rattle.std.proofs.Common.{◌≡◌, ℕ, ◌<◌, length, take, drop, cond, get_or, false}
use Rattle.paris_field.specs.Numbers.{AllOf, number_at}
use Rattle.paris_field.proofs.planes.merge_layers.Given as goal

abbrev pub invariant-loop-k : goal.invariant-loop-k
invariant-loop-k l = record {
  layers : AllOf (length l.mask) l.layers;
  low : (v : ℕ) → v < length l.mask → number_at (take l.k l.layers) v ≡ cond (get_or l.mask v false) (number_at (take l.k l.other) v) (number_at (take l.k l.fn.layers) v);
  high : drop l.k l.layers ≡ drop l.k l.fn.layers;
}
