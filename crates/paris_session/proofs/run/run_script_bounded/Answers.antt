use Rattle.std.proofs.Common.{◌≡◌, ◌+◌, rules, arith, ap, ◌∙◌, refl, length, take, ◌≤◌}
use Rattle.std.proofs.lemmas.Grind.{common_steps}
use Rattle.std.proofs.lemmas.Result.{err_from_is_err_and, IfOk-weaker, IfErr-weaker, on_ok_weaker}
use Rattle.paris_session.specs.Calls.{Marks}
use Rattle.paris_session.specs.Transcript.{Sitting}
use Rattle.paris_session.proofs.LineLemmas.{ended_said}
use Rattle.paris_session.proofs.Reading.{reading_nothing, reading_kept, reading_more, stops_reading, stops_answering, stops_at_last, ends_well, answers_nothing, all_reads, asked, asked_again, few_reads, kept_reads, read_cause, long_cause, answer_cause, none_failed, ended_is, ended_still}
use Rattle.paris_session.proofs.run.run_script_bounded.Goals as goal
use Rattle.paris_session.proofs.run.run_script_bounded.Goals.{in-Bytes+in_ok-take_bytes-in-Bytes, in-Interrupted}

pub loop-init : goal.loop-init
loop-init g c =
    let none : c.new-script.result.session.hand.commands ≡ 0 = ap (λ (s : Sitting). s.hand.commands) c.new-script.ensures.session in
    record {
      reading = reading_nothing _ _ c.new-script.result.session c.new-script.result.line.items c.new-script.ensures.session c.new-script.ensures.line;
      marks = c.requires.fresh;
      count = omega (arith, none);
      room = refl;
    }

pub returns-in_err-take_bytes-in-Bytes-clause-short : goal.returns-in_err-take_bytes-in-Bytes-clause-short
returns-in_err-take_bytes-in-Bytes-clause-short g c =
    let p = err_from_is_err_and c.from_residual.result c.from_residual.ensures.1 in
    let e = c.in_err-take_bytes-in-Bytes.ensures.err in
    let f = c.in_err-take_bytes-in-Bytes.ensures.fault in
    let b = c.in-Bytes.ensures.bytes in
    rw (p.1, p.2) (stops_answering _ _ _ _ _ _ c.loop.script.session c.loop.script.line.items _ _ (answers_nothing _ _ _ f) c.loop.invariant.reading b.2 e)

pub returns-in-End-clause-ok : goal.returns-in-End-clause-ok
returns-in-End-clause-ok g c =
    IfOk-weaker c.finish.result _ _
    (λ summary done. ends_well _ _ _ _ _ _ _ _ summary c.loop.invariant.reading c.in-End.ensures.bytes.0 c.in-End.ensures.bytes.1 done.0 done.1)
    c.finish.ensures.ok

pub returns-in-End-clause-short : goal.returns-in-End-clause-short
returns-in-End-clause-short g c =
    IfErr-weaker c.finish.result _ _
    (λ fault short. stops_at_last _ _ _ _ _ _ _ _ fault (answers_nothing fault _ _ short.0) c.loop.invariant.reading c.in-End.ensures.bytes.0 short.1)
    c.finish.ensures.err

pub returns-in-Failed-clause-short : goal.returns-in-Failed-clause-short
returns-in-Failed-clause-short g c =
    let old = reading_kept _ _ _ _ _ _ _ c.in-Failed.ensures.bytes c.loop.invariant.reading in
    stops_reading _ _ _ _ _ _ _ ended_said old

pub returns-clause-short : goal.returns-clause-short
returns-clause-short g c = stops_reading _ _ _ _ _ _ _ ended_said c.loop.invariant.reading

pub loop-preserved : goal.loop-preserved
loop-preserved g c =
    let kept = c.loop.invariant in
    let same : length c.read_once.new.room ≡ length c.loop.room = search rules in
    elim c.match-read_once.branch [
      | in-Bytes+in_ok-take_bytes-in-Bytes w ↦
          let given = w.in-Bytes.ensures in
          let taken = w.in_ok-take_bytes-in-Bytes.ensures in
          let again : c.read_once.new.tally ≡ asked (c.loop.counter + 1) = asked_again _ _ _ kept.marks given.marks in
          let bytes = take w.in-Bytes.n c.read_once.new.room in
          let few : length bytes ≤ 4096 = grind (arith, common_steps) in
          record {
            reading = rw (w.script-is, w.writer-is) (reading_more _ _ _ _ _ _ c.loop.script.session _ c.loop.script.line.items _ bytes
                kept.reading given.bytes.2 taken.written taken.session taken.line);
            marks = rw w.tally-is (taken.kept ∙ again);
            count = rw w.script-is (omega (arith, taken.count, kept.count, few));
            room = same ∙ kept.room;
          }
      | in-Interrupted w ↦
          let given = w.in-Interrupted.ensures in
          let again : c.read_once.new.tally ≡ asked (c.loop.counter + 1) = asked_again _ _ _ kept.marks given.marks in
          record {
            reading = rw (w.script-is, w.writer-is) (reading_kept _ _ _ _ _ _ _ given.bytes kept.reading);
            marks = rw w.tally-is again;
            count = rw w.script-is (omega (arith, kept.count));
            room = same ∙ kept.room;
          }
    ]

pub returns-in-Failed-clause-fault : goal.returns-in-Failed-clause-fault
returns-in-Failed-clause-fault g c = read_cause c.loop.tally c.read_once.new.tally c.loop.counter c.args.bound c.loop.invariant.marks c.in-Failed.ensures.marks

pub returns-in_err-take_bytes-in-Bytes-clause-fault : goal.returns-in_err-take_bytes-in-Bytes-clause-fault
returns-in_err-take_bytes-in-Bytes-clause-fault g c =
    let p = err_from_is_err_and c.from_residual.result c.from_residual.ensures.1 in
    let stopped = c.in_err-take_bytes-in-Bytes.ensures in
    let again = asked_again _ _ _ c.loop.invariant.marks c.in-Bytes.ensures.marks in
    rw (p.1, p.2) (answer_cause _ _ _ _ (none_failed _ _ again) stopped.fault stopped.reads)

pub returns-in-End-clause-ended : goal.returns-in-End-clause-ended
returns-in-End-clause-ended g c =
    let ended = ended_is _ _ _ c.loop.invariant.marks c.in-End.ensures.marks in
    on_ok_weaker c.finish.result (λ same. ended_still _ _ ended same) c.finish.ensures.kept

pub returns-in-End-clause-fault : goal.returns-in-End-clause-fault
returns-in-End-clause-fault g c =
    let ended = ended_is _ _ _ c.loop.invariant.marks c.in-End.ensures.marks in
    IfErr-weaker c.finish.result _ _ (λ fault short. answer_cause fault _ _ _ ended.1 short.0 c.finish.ensures.reads) c.finish.ensures.err

pub returns-clause-fault : goal.returns-clause-fault
returns-clause-fault g c = long_cause _ _ _ c.loop.invariant.marks (search rules)

pub returns-in-Failed-clause-bounded : goal.returns-in-Failed-clause-bounded
returns-in-Failed-clause-bounded g c =
    few_reads c.loop.tally c.read_once.new.tally c.loop.counter c.args.bound c.loop.invariant.marks (search rules) (ap (λ (m : Marks). m.reads) c.in-Failed.ensures.marks)

pub returns-in_err-take_bytes-in-Bytes-clause-bounded : goal.returns-in_err-take_bytes-in-Bytes-clause-bounded
returns-in_err-take_bytes-in-Bytes-clause-bounded g c =
    let few = few_reads c.loop.tally c.read_once.new.tally c.loop.counter c.args.bound c.loop.invariant.marks (search rules) (ap (λ (m : Marks). m.reads) c.in-Bytes.ensures.marks) in
    kept_reads _ _ _ few c.in_err-take_bytes-in-Bytes.ensures.reads.0

pub returns-in-End-clause-bounded : goal.returns-in-End-clause-bounded
returns-in-End-clause-bounded g c =
    let few = few_reads c.loop.tally c.read_once.new.tally c.loop.counter c.args.bound c.loop.invariant.marks (search rules) (ap (λ (m : Marks). m.reads) c.in-End.ensures.marks) in
    kept_reads _ _ _ few c.finish.ensures.reads.0

pub returns-clause-bounded : goal.returns-clause-bounded
returns-clause-bounded g c = all_reads _ _ _ c.loop.invariant.marks (search rules)
