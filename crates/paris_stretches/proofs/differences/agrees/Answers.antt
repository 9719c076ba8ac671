use Rattle.std.proofs.Common.{◌≡◌, ℕ, ◌+◌, ◌-◌, ◌*◌, ◌<◌, ◌≤◌, ◌∙◌, ap, sym, arith, inl, inr}
use Rattle.std.proofs.lemmas.Bool.{cases_lt}
use Rattle.paris_field.specs.Numbers.{number_at}
use Rattle.paris_stretches.proofs.differences.agrees.Goals as goal

pub loop-block-preserved : goal.loop-block-preserved
loop-block-preserved c =
    let b : ℕ = c.loop-block.block in
    let from : ℕ = c.max-from.result in
    let place : ℕ = from - 64 * b in
    λ v l u h.
    elim (cases_lt v (64 * b)) [
      | inl below ↦ c.loop-block.invariant v l u below
      | inr above ↦
          let i : ℕ = v - from in
          let at : 64 * b + (place + i) ≡ v = omega (arith, above, l, c.max-from.ensures) in
          ap (number_at c.args.xs.now) (sym at)
          ∙ c.block_agrees.ensures.0 c.if-not-block_agrees.false i (omega (arith, above, l, u, h, c.max-from.ensures, c.min-count.ensures))
          ∙ ap (number_at c.args.ys.now) at
    ]
