use Rattle.std.proofs.Common.{rules, ◌≡◌, refl, subst}
use Rattle.paris_c.specs.DeskCalls.{IsLineAnswered}
use Rattle.paris_c.specs.DeskLines.{line_asks}
use Rattle.paris_c.specs.declared.desk_lines.LineAsks.TheVariants.{Refused}
use Rattle.paris_c.proofs.seating.DeskContents.answer.Goals as goal

pub returns-in-Ok-Refused-clause-answered : goal.returns-in-Ok-Refused-clause-answered
returns-in-Ok-Refused-clause-answered c = λ ok.
    let asks : Refused c.in-Ok-Refused.fault ≡ line_asks c.args.line.now = search rules in
    subst (λ a. IsLineAnswered c.args.self.now c.args.self.now c.args.seat.now c.refuse.new.self a c.refuse.new.entry) asks (refl, c.refuse.ensures.refused ok)
