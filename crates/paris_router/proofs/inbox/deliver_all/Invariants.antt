-- What the quads before send has come, and the least bad sender isn't in them.
use Rattle.std.proofs.Common.{◌≡◌, ◌-◌, ◌*◌, [], min}
use Rattle.std.specs.Prelude.{◌&&◌, find, nat_le}
use Rattle.std.specs.List.{range_with_len}
use Rattle.paris_model.specs.Mail.{bad_sender, messages}
use Rattle.paris_field.specs.Numbers.{has, number_at}
use Rattle.paris_router.proofs.inbox.deliver_all.Given as goal

abbrev pub invariant-loop-quad : goal.invariant-loop-quad
invariant-loop-quad g l = record {
  whole : g.I.Inbox.IsWhole l.inbox;
  count : g.I.Inbox.count l.inbox ≡ g.I.Inbox.count l.fn.inbox;
  least : bad_sender (g.I.Inbox.count l.fn.inbox) (has l.selected) (number_at l.addresses) ≡ find (λ v. has l.selected v && nat_le (g.I.Inbox.count l.fn.inbox) (number_at l.addresses v)) (range_with_len (256 * l.quad) (g.I.Inbox.count l.fn.inbox - 256 * l.quad));
  come : (start : _) → g.I.Inbox.HasHad start [] l.fn.inbox → g.I.Inbox.HasHad start (messages (min (256 * l.quad) (g.I.Inbox.count l.fn.inbox)) (has l.selected) (number_at l.addresses) (number_at l.x)) l.inbox;
}
