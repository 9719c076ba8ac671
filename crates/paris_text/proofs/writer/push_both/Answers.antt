use Rattle.std.proofs.Common.{map}
use Rattle.std.specs.Fmt.{decimal}
use Rattle.std.proofs.lemmas.Result.{on_ok_weaker}
use Rattle.paris_text.proofs.WritingLemmas.{added}
use Rattle.paris_text.proofs.writer.push_both.Goals as goal

pub returns-clause-text : goal.returns-clause-text
returns-clause-text c =
    on_ok_weaker c.push_numbers.result
    (λ h. added c.args.line.now.items _ _ c.args.names.now (map decimal c.args.numbers.now) c.in_ok-push_names.ensures.text h)
    c.push_numbers.ensures.text
