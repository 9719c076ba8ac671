use Rattle.std.proofs.Common.{◌∙◌, ℕ, Bool, get_or, length, subst, sym}
use Rattle.paris_field.specs.Numbers.{has, number_at}
use Rattle.paris_router.proofs.Least.{same_bad_sender}
use Rattle.paris_router.proofs.Senders.{mail_of_planes}
use Rattle.paris_router.proofs.inbox.deliver_mail.Goals as goal

pub returns-clause-bad : goal.returns-clause-bad
returns-clause-bad g c =
    let n : ℕ = g.I.Inbox.count c.args.inbox.now in
    let selected : ℕ → Bool = has c.args.selected.now in
    let address : ℕ → ℕ = number_at c.planes.result.now in
    c.deliver_all.ensures.bad
    ∙ same_bad_sender n (length c.args.addresses.now.numbers) selected address (λ v. get_or c.args.addresses.now.numbers v 0) (c.requires.count ∙ sym c.requires.addresses) c.planes.ensures.at

pub returns-clause-come : goal.returns-clause-come
returns-clause-come g c =
    λ none start h.
    let n : ℕ = g.I.Inbox.count c.args.inbox.now in
    let address : ℕ → ℕ = number_at c.planes.result.now in
    let value : ℕ → ℕ = number_at c.low.result.now in
    let is = mail_of_planes n c.args.bits c.args.addresses.now c.args.x.now c.args.selected.now address value c.requires.count c.requires.addresses c.planes.ensures.at c.low.ensures.at in
    subst (λ mail. g.I.Inbox.HasHad start mail c.deliver_all.new.inbox) is (c.deliver_all.ensures.come none start h)
