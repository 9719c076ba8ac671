use Rattle.std.proofs.Common.{◌≡◌, ℕ, ◌+◌, ◌*◌, ◌^◌, ◌<◌, length, take, drop}
use Rattle.paris_field.specs.Numbers.{AllOf, bit_in, number_at}
use Rattle.paris_muldiv.proofs.planes.add_where.Given as goal

abbrev pub invariant-loop-j : goal.invariant-loop-j
invariant-loop-j l = record {
  sum : AllOf (length l.mask) l.sum;
  carry : length l.carry ≡ length l.mask;
  masked : length l.masked ≡ length l.mask;
  exact : (v : ℕ) → v < length l.mask → number_at (take l.j l.sum) v + 2 ^ l.j * bit_in l.carry v ≡ number_at (take l.j l.fn.sum) v + bit_in l.mask v * number_at (take l.j l.y) v + bit_in l.fn.carry v;
  left : drop l.j l.sum ≡ drop l.j l.fn.sum;
}
