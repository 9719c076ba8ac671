-- Values and planes are those of the senders below p.
use Rattle.std.proofs.Common.{◌≡◌, get_or, length, replicate}
use Rattle.paris_model.specs.Mail.{messages}
use Rattle.paris_field.specs.Numbers.{has}
use Rattle.paris_router.specs.Mail.{crowded_in, first_numbers, receivers_of}
use Rattle.paris_router.proofs.sends.deliver.Given as goal

abbrev pub invariant-loop-p : goal.invariant-loop-p
invariant-loop-p g l = record {
  values : (zero : _) → l.fn.values ≡ replicate (length l.fn.values) zero → l.values ≡ first_numbers (length l.fn.values) l.numbers zero (messages l.p (has l.selected) (λ v. get_or l.addresses v 0) (λ v. v));
  receivers : l.receivers ≡ receivers_of (length l.fn.values) (messages l.p (has l.selected) (λ v. get_or l.addresses v 0) (λ v. v));
  crowded : l.crowded ≡ crowded_in (length l.fn.values) (messages l.p (has l.selected) (λ v. get_or l.addresses v 0) (λ v. v));
}
