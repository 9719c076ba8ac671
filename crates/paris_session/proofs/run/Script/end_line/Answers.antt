use Rattle.std.proofs.Common.{◌≡◌, ℕ, List, ap}
use Rattle.paris_session.specs.Transcript.{Sitting, answer}
use Rattle.paris_session.proofs.AnswerLemmas.{answer_count}
use Rattle.paris_session.proofs.run.Script.end_line.Goals as goal

pub returns-in-Ok-clause-count : goal.returns-in-Ok-clause-count
returns-in-Ok-clause-count g c =
    let s = c.args.self.now.session in
    let same : c.answer.new.self.hand.commands ≡ (answer s c.as_slice.result.now).0.hand.commands = ap (λ (p : Sitting × List ℕ). p.0.hand.commands) c.in-Ok.ensures.ok in
    rw same (answer_count s c.as_slice.result.now)
