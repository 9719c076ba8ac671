-- The total is that of the messages so far.
use Rattle.std.proofs.Common.{◌≡◌, ◌<◌, ◌^◌, take}
use Rattle.paris_model.specs.Combine.{combined}
use Rattle.paris_model.specs.Mail.{arrivals}
use Rattle.paris_plain.proofs.mail.combined_arrivals.Given as goal

abbrev pub invariant-loop-message : goal.invariant-loop-message
invariant-loop-message l = record {
  same : l.total ≡ combined l.combiner l.length l.fn.own (arrivals (take l.message-index l.mail) l.r);
  small : l.total < 2 ^ l.length;
}
