use Rattle.std.proofs.Common.{◌≡◌, ◌∙◌, sym, arith}
use Rattle.paris_model.specs.Lines.{begins_segment}
use Rattle.paris_plain.specs.Plain.{frame_of_seen}
use Rattle.paris_plain.proofs.Segments.{from_last-none, from_last-slice, none_before}
use Rattle.paris_plain.proofs.lines.last_segment.Goals as goal

pub returns-then-begins_segment : goal.returns-then-begins_segment
returns-then-begins_segment c =
    from_last-slice (begins_segment (frame_of_seen c.args.inputs.now) c.args.segments.now) c.args.path.now c.loop-k.k c.loop-k-test.true c.loop-k.auto.k (sym c.begins_segment.ensures ∙ c.if-begins_segment.true) c.loop-k.invariant

pub loop-k-preserved : goal.loop-k-preserved
loop-k-preserved c =
    none_before (begins_segment (frame_of_seen c.args.inputs.now) c.args.segments.now) c.args.path.now c.loop-k.k c.loop-k-test.true c.loop-k.auto.k (sym c.begins_segment.ensures ∙ c.if-begins_segment.false) c.loop-k.invariant

pub returns : goal.returns
returns c =
    let done : c.loop-k.k ≡ 0 = omega arith in
    sym (from_last-none (begins_segment (frame_of_seen c.args.inputs.now) c.args.segments.now) c.args.path.now (rw done at c.loop-k.invariant))
