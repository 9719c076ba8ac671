use Rattle.std.proofs.Common.{ℕ, cond, arith, ap, ◌∙◌, length}
use Rattle.std.proofs.lemmas.List.{length-set}
use Rattle.paris_stretches.specs.Stretches.{stretch_differs}
use Rattle.paris_stretches.proofs.Rooms.{all_put, byte_of, one_put}
use Rattle.paris_stretches.proofs.differences.put_differences.Goals as goal

pub loop-i-preserved : goal.loop-i-preserved
loop-i-preserved c =
    let parts : ℕ = length c.args.room.now in
    let f : ℕ → ℕ = λ i. cond (stretch_differs parts c.args.x.now.numbers c.args.y.now.numbers i) 1 0 in
    let h = c.loop-i.invariant in (
      length-set _ _ _ ∙ h.0,
      one_put f parts c.loop-i.i c.loop-i.room c.from.result h.0 c.loop-i-test.true (c.from.ensures ∙ byte_of c.differs.result ∙ ap (λ b. cond b 1 0) c.differs.ensures) h.1,
    )

pub returns : goal.returns
returns c =
    let parts : ℕ = length c.args.room.now in
    let f : ℕ → ℕ = λ i. cond (stretch_differs parts c.args.x.now.numbers c.args.y.now.numbers i) 1 0 in
    let h = c.loop-i.invariant in
    all_put f parts c.loop-i.i c.loop-i.room h.0 (omega (arith, c.loop-i-test.false)) h.1
