use Rattle.std.proofs.Common.{◌≡◌, ℕ, ◌+◌, ◌*◌, ◌∙◌, ap, get_or, arith, refl}
use Rattle.paris_plane.specs.Bits.{word_bit}
use Rattle.paris_plane.proofs.Blocks.{lanes_load, stored_each}
use Rattle.paris_plane.proofs.exchange.exchange_within.Goals as goal

pub loop-k-preserved : goal.loop-k-preserved
loop-k-preserved c =
    let at : ℕ = 4 * c.loop-k.k in
    let s : ℕ = c.args.distance in
    let X : ℕ → ℕ = λ i. get_or c.args.xs.now i 0 in
    let loaded = lanes_load at 4 c.args.xs.now c.args.xs.now (omega arith) (λ _ _. refl) in
    let made = c.exchanged_lanes.ensures in
    record {
      low = λ i j below e h.
          ap (λ l. word_bit (get_or l i 0) j) c.put_lanes.ensures
          ∙ stored_each (λ i w. word_bit w j ≡ word_bit (X i) (j + s)) at 4 _ c.loop-k.out _ made.four (omega arith) (omega arith)
          (λ i four. made.low i j four e h ∙ ap (λ w. word_bit w (j + s)) (loaded.at i four)) (λ i b. c.loop-k.invariant.low i j b e h) i below;
      high = λ i j below e h.
          ap (λ l. word_bit (get_or l i 0) (j + s)) c.put_lanes.ensures
          ∙ stored_each (λ i w. word_bit w (j + s) ≡ word_bit (X i) j) at 4 _ c.loop-k.out _ made.four (omega arith) (omega arith)
          (λ i four. made.high i j four e h ∙ ap (λ w. word_bit w j) (loaded.at i four)) (λ i b. c.loop-k.invariant.high i j b e h) i below;
    }
