use Rattle.std.proofs.Common.{◌≡◌, ℕ, ◌+◌, ◌*◌, ◌∙◌, ap, get_or, arith, sym}
use Rattle.paris_plane.specs.Bits.{word_bit}
use Rattle.paris_plane.proofs.Blocks.{pushed_each}
use Rattle.paris_plane.proofs.kernel.many_stripes.Goals as goal

pub loop-n-preserved : goal.loop-n-preserved
loop-n-preserved c =
    let at : ℕ = 4 * c.loop-n.n in
    record {
      long = omega (arith, c.push_lanes.ensures.len, c.loop-n.invariant.long);
      room = omega (arith, c.push_lanes.ensures.capacity, c.loop-n.invariant.room);
      done = λ i j below h. ap (λ l. word_bit (get_or l i 0) j) c.push_lanes.ensures.items
          ∙ pushed_each (λ i w. word_bit w j ≡ word_bit (64 * i + j) c.args.k) at 4 _ c.loop-n.made.items _ (omega arith) (sym c.loop-n.made.ok.0 ∙ c.loop-n.invariant.long)
          (λ i four. c.stripe_lanes.ensures.words i j four h) (λ i b. c.loop-n.invariant.done i j b h) i below;
    }
