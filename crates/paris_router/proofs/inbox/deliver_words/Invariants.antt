-- What the senders below i send has come, and the first bad one isn't below i.
use Rattle.std.proofs.Common.{◌/◌, ◌%◌, ◌≡◌, ℕ, ◌-◌, List, ◌++◌, get_or}
use Rattle.std.specs.Prelude.{◌&&◌, find, nat_le}
use Rattle.std.specs.List.{range_with_len}
use Rattle.paris_geometry.specs.Geometry.{numbers_below}
use Rattle.paris_model.specs.Mail.{messages}
use Rattle.paris_plane.specs.Bits.{word_bit}
use Rattle.paris_router.proofs.inbox.deliver_words.Given as goal

abbrev pub invariant-loop-i : goal.invariant-loop-i
invariant-loop-i g l = record {
  whole : g.I.Inbox.IsWhole l.inbox;
  count : g.I.Inbox.count l.inbox ≡ g.I.Inbox.count l.fn.inbox;
  least : find (λ i. word_bit (get_or l.chosen (i / 64) 0) (i % 64) && nat_le (g.I.Inbox.count l.fn.inbox) (get_or l.addresses i 0)) (numbers_below l.count) ≡ find (λ i. word_bit (get_or l.chosen (i / 64) 0) (i % 64) && nat_le (g.I.Inbox.count l.fn.inbox) (get_or l.addresses i 0)) (range_with_len l.i (l.count - l.i));
  come : (start : _) (mail : List (ℕ × ℕ)) → g.I.Inbox.HasHad start mail l.fn.inbox → g.I.Inbox.HasHad start (mail ++ messages l.i (λ i. word_bit (get_or l.chosen (i / 64) 0) (i % 64)) (λ j. get_or l.addresses j 0) (λ j. get_or l.words j 0)) l.inbox;
}
