-- The numbers of the quads before are there, and the least bad sender isn't in them.
use Rattle.std.proofs.Common.{◌≡◌, ℕ, ◌-◌, ◌*◌, ◌<◌, get_or, length}
use Rattle.std.specs.Prelude.{◌&&◌, find, if◌then◌else◌, nat_le}
use Rattle.std.specs.List.{range_with_len}
use Rattle.paris_model.specs.Mail.{bad_sender}
use Rattle.paris_model.specs.Store.{low}
use Rattle.paris_field.specs.Numbers.{AllOf, has, number_at}
use Rattle.paris_router.proofs.gets.fetch_all.Given as goal

abbrev pub invariant-loop-quad : goal.invariant-loop-quad
invariant-loop-quad l = record {
  long : AllOf (length l.words) l.values;
  least : bad_sender (length l.words) (has l.selected) (number_at l.addresses) ≡ find (λ v. has l.selected v && nat_le (length l.words) (number_at l.addresses v)) (range_with_len (256 * l.quad) (length l.words - 256 * l.quad));
  values : (v : ℕ) → v < length l.words → v < 256 * l.quad → number_at l.values v ≡ low (length l.fn.values) (if has l.selected v then get_or l.words (number_at l.addresses v) 0 else 0);
}
