use Rattle.std.proofs.Common.{◌≡◌, ◌∙◌, ap, arith, get_or, length, sym}
use Rattle.paris_model.specs.Mail.{arrivals}
use Rattle.paris_router.proofs.Fetched.{length-everywhere}
use Rattle.paris_router.proofs.Posted.{first_one_comes, one_more_comes}
use Rattle.paris_router.proofs.sends.FirstsInbox.accept.Goals as goal

pub returns-then-get-clause-come : goal.returns-then-get-clause-come
returns-then-get-clause-come c =
    λ start mail h.
    let count : length c.args.self.now.words.items ≡ length start.words.items = ap length h.0 ∙ length-everywhere (length start.words.items) (λ r. get_or (arrivals mail r) 0 0) in
    let made = one_more_comes (length start.words.items) mail c.args.place c.args.word c.args.self.now.words.items c.args.self.now.receivers c.args.self.now.crowded (omega (arith, count, c.requires.within)) (sym c.get.ensures ∙ c.if-get.true) h in
    (made.0, (made.1.0, c.set.ensures ∙ made.1.1))

pub returns-else-get-clause-come : goal.returns-else-get-clause-come
returns-else-get-clause-come c =
    λ start mail h.
    let count : length c.args.self.now.words.items ≡ length start.words.items = ap length h.0 ∙ length-everywhere (length start.words.items) (λ r. get_or (arrivals mail r) 0 0) in
    let made = first_one_comes (length start.words.items) mail c.args.place c.args.word c.args.self.now.words.items c.args.self.now.receivers c.args.self.now.crowded (omega (arith, count, c.requires.within)) (sym c.get.ensures ∙ c.if-get.false) h in
    (made.0, (c.set-else-get.ensures ∙ made.1.0, made.1.1))
