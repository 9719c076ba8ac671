use Rattle.std.proofs.Common.{◌≡◌, ℕ, ◌+◌, List, ◌++◌, ◌-◌, arith, sym, ap, ◌∙◌, length, take, drop, take-append-drop}
use Rattle.std.proofs.Math.Seq.{take-add}
use Rattle.std.proofs.lemmas.List.{length-drop, take_all}
use Rattle.std.proofs.lemmas.Result.{err_from_is_err_and}
use Rattle.paris_session.specs.Progress.{open_line, sitting_at}
use Rattle.paris_session.proofs.ScriptLemmas.{more_said, more_session, more_line, front_said}
use Rattle.paris_session.proofs.run.Script.take_bytes.Goals as goal

-- what is left
rest_is : (bytes : List ℕ) (i : ℕ) → take (length bytes - i) (drop i bytes) ≡ drop i bytes
rest_is bytes i = take_all (length bytes - i) (drop i bytes) (omega (arith, length-drop i bytes))

pub loop-at-preserved : goal.loop-at-preserved
loop-at-preserved g c =
    let kept = c.loop-at.invariant in
    let more = c.in_ok-at.ensures in
    let before = c.args.self.now in
    let r = before.session in
    let begun = before.line.items in
    let bytes = c.args.bytes.now in
    let i = c.loop-at.at in
    let n : ℕ = c.in_ok-at.field-0 in
    let done = take i bytes in
    let part = take n (drop i bytes) in
    let s = c.loop-at.self.session in
    let going = c.loop-at.self.line.items in
    let rest = rest_is bytes i in
    let step : take (i + n) bytes ≡ done ++ part = take-add i n bytes in
    let session : c.take_part.new.self.session ≡ sitting_at s going part = rw rest at more.session in
    let line : c.take_part.new.self.line.items ≡ open_line going part = rw rest at more.line in
    record {
      within = omega (arith, more.some.1, ap length rest, length-drop i bytes, c.loop-at-test.true);
      session = rw step (more_session r s _ begun going done part kept.session kept.line session);
      line = rw step (more_line begun going _ done part kept.line line);
      written = rw step (more_said r s begun going done part _ _ _ kept.session kept.line kept.written (rw rest at more.written));
      kept = more.kept ∙ kept.kept;
      count = omega (arith, more.count, kept.count);
    }

pub returns-in_err-at-clause-err : goal.returns-in_err-at-clause-err
returns-in_err-at-clause-err g c =
    let p = err_from_is_err_and c.from_residual.result c.from_residual.ensures.1 in
    let kept = c.loop-at.invariant in
    let i = c.loop-at.at in
    let bytes = c.args.bytes.now in
    let one = take 1 (drop i bytes) in
    let whole : (take i bytes ++ one) ++ drop (i + 1) bytes ≡ bytes =
    ap (λ (l : List ℕ). l ++ drop (i + 1) bytes) (sym (take-add i 1 bytes)) ∙ take-append-drop (i + 1) bytes in
    let before = c.args.self.now in
    rw (p.1, ← whole) (front_said before.session c.loop-at.self.session before.line.items c.loop-at.self.line.items (take i bytes) one (drop (i + 1) bytes) _ _ _ kept.session kept.line kept.written (rw (rest_is bytes i) at c.in_err-at.ensures.err))
