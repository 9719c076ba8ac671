use Rattle.std.proofs.Common.{ℕ, List, subst, inr}
use Rattle.paris_session.specs.Texts.{WritesFront}
use Rattle.paris_parts.specs.Run.{ScriptRuns}
use Rattle.paris_parts.proofs.run.run_sessions.Goals as goal

pub returns-clause-front : goal.returns-clause-front
returns-clause-front g c =
    let made = c.in_ok-transcript.transcript in
    inr record {
      script = c.in-Ok.script.items;
      text = made.text.items;
      summary = made.summary;
      consumed = c.in-Ok.ensures.script.0;
      at_end = c.in-Ok.ensures.script.1;
      runs = subst (λ (l : List ℕ). ScriptRuns c.args.workers l made.text.items made.summary) c.as_slice.ensures.value c.in_ok-transcript.ensures.runs;
      front = subst (WritesFront (g.W.Write.contents c.args.writer.now) (g.W.Write.contents c.write_text.new.writer)) c.as_slice-2.ensures.value c.in-Err-write_text.ensures.front;
    }
