use Rattle.std.proofs.Common.{◌≡◌, ◌∙◌, ap, arith, length}
use Rattle.std.proofs.lemmas.List.{get_or_read}
use Rattle.paris_model.specs.Combine.{combine}
use Rattle.paris_model.specs.Mail.{gets_mail}
use Rattle.paris_field.proofs.Places.{length-bits_everywhere}
use Rattle.paris_combine.proofs.Joined.{one_more_joins}
use Rattle.paris_combine.proofs.sends.JoinedInbox.accept.Goals as goal

pub returns-clause-come : goal.returns-clause-come
returns-clause-come g c =
    λ start mail h.
    let many : length c.args.self.now.receivers ≡ length start.words.items = ap length h.1.1 ∙ length-bits_everywhere (length start.words.items) (gets_mail mail) in
    let made = one_more_joins g.J.Join.operator start.mask start.words.items mail c.args.self.now.mask c.args.self.now.words.items c.args.self.now.receivers c.args.place c.args.word c.join.result
    (omega (arith, many, c.requires.whole, c.requires.within)) (λ L narrow is. c.join.ensures L narrow is ∙ ap (λ v. combine g.J.Join.operator L v c.args.word) (get_or_read c.args.self.now.words.items c.args.place c.index.result.now c.requires.within c.index.ensures 0)) h in
    (made.0, (made.1.0, c.set.ensures ∙ made.1.1))
