-- Each number is combined with the messages so far.
use Rattle.std.proofs.Common.{◌≡◌, ◌<◌, ◌^◌, All, get_or, length, take}
use Rattle.paris_model.specs.Combine.{combined}
use Rattle.paris_model.specs.Mail.{arrivals}
use Rattle.paris_model.specs.Store.{everywhere}
use Rattle.paris_combine.proofs.sends.combine_in.Given as goal

abbrev pub invariant-loop-message : goal.invariant-loop-message
invariant-loop-message l = record {
  value : l.values ≡ everywhere (length l.fn.values) (λ r. combined l.operator l.bits (get_or l.fn.values r 0) (arrivals (take l.message-index l.mail) r));
  fit : All (λ value. value < 2 ^ l.bits) l.values;
}
