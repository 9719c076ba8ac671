use Rattle.std.proofs.Common.{ℕ, List, [], ◌++◌, map, Vec, Global, ap, ◌∙◌, arith}
use Rattle.std.proofs.lemmas.List.{length-map}
use Rattle.paris_events.specs.Settling.{all_settled}
use Rattle.paris_session.specs.Transcript.{Sitting, after_lines, replies, start, with_book}
use Rattle.paris_session.proofs.WholeLemmas.{all_said}
use Rattle.paris_parts.proofs.Lasts.{settled_first, last_next}
use Rattle.paris_parts.proofs.last.play_last.Goals as goal

pub loop-line-init : goal.loop-line-init
loop-line-init g c =
    let all : List (List ℕ) = map (λ (v : Vec ℕ Global). v.items) c.lines-lines.result.now in
    let same = settled_first c.of_book-session.result c.settle.new.self c.args.book c.of_book-session.ensures c.in-Ok.ensures.settled in
    let none = ap (λ (s : Sitting). s.hand.commands) same in
    record {
      text = ap (λ (l : List ℕ). l ++ replies c.settle.new.self all) c.new-text.ensures.items ∙ ap (λ (s : Sitting). replies s all) same;
      session = ap (λ (s : Sitting). after_lines s all) same;
      count = omega (arith, none);
    }

pub loop-line-preserved : goal.loop-line-preserved
loop-line-preserved g c =
    let longer = c.in_ok-extend_from_slice.ensures.items ∙ ap (λ (l : List ℕ). c.loop-line.text.items ++ l) c.as_slice-in-loop-line.ensures.value in
    let next = last_next c.loop-line.session c.answer.new.self c.lines-lines.result.now c.loop-line.line-index c.line-item.result c.as_slice.result.now
    c.loop-line.text.items c.in-Ok-answer.reply.items _ _ _ c.loop-line-test.true c.line-item.is c.as_slice.ensures.value c.in-Ok-answer.ensures.ok longer
    c.loop-line.invariant.text c.loop-line.invariant.session c.loop-line.invariant.count in
    record { text = next.0; session = next.1; count = next.2 }

pub returns-clause-text : goal.returns-clause-text
returns-clause-text g c =
    let all : List (List ℕ) = map (λ (v : Vec ℕ Global). v.items) c.lines-lines.result.now in
    let long = length-map c.lines-lines.result.now (λ (v : Vec ℕ Global). v.items) in
    all_said c.loop-line.session all c.loop-line.line-index c.loop-line.text.items _ (omega (arith, long, c.loop-line-test.false)) c.loop-line.invariant.text
    ∙ ap (λ (ls : List (List ℕ)). replies (with_book start (all_settled c.args.book) []) ls) c.lines-lines.ensures
