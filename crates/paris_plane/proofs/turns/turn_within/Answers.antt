use Rattle.std.proofs.Common.{◌≡◌, ℕ, ◌+◌, ◌-◌, ◌*◌, ◌∙◌, ap, get_or, arith, refl}
use Rattle.paris_plane.specs.Bits.{word_bit}
use Rattle.paris_plane.proofs.Blocks.{lanes_load, stored_each}
use Rattle.paris_plane.proofs.turns.turn_within.Goals as goal

pub loop-k-preserved : goal.loop-k-preserved
loop-k-preserved c =
    let at : ℕ = 4 * c.loop-k.k in
    let by : ℕ = c.args.by in
    let period : ℕ = c.args.period in
    let X : ℕ → ℕ = λ i. get_or c.args.xs.now i 0 in
    let loaded = lanes_load at 4 c.args.xs.now c.args.xs.now (omega arith) (λ _ _. refl) in
    let made = c.turned_lanes.ensures in
    record {
      inside = λ i j below h e.
          ap (λ l. word_bit (get_or l i 0) j) c.put_lanes.ensures
          ∙ stored_each (λ i w. word_bit w j ≡ word_bit (X i) (j + by)) at 4 _ c.loop-k.out _ made.four (omega arith) (omega arith)
          (λ i four. made.inside i j four h e ∙ ap (λ w. word_bit w (j + by)) (loaded.at i four)) (λ i b. c.loop-k.invariant.inside i j b h e) i below;
      round = λ i j below h e.
          ap (λ l. word_bit (get_or l i 0) j) c.put_lanes.ensures
          ∙ stored_each (λ i w. word_bit w j ≡ word_bit (X i) (j + by - period)) at 4 _ c.loop-k.out _ made.four (omega arith) (omega arith)
          (λ i four. made.round i j four h e ∙ ap (λ w. word_bit w (j + by - period)) (loaded.at i four)) (λ i b. c.loop-k.invariant.round i j b h e) i below;
    }
