use Rattle.std.proofs.Common.{ℕ, ◌+◌, ◌*◌, ◌∙◌, ap, arith, sym, get_or}
use Rattle.paris_plane.specs.Bits.{word_bit}
use Rattle.paris_plane.proofs.Blocks.{lanes_splat}
use Rattle.paris_plane.proofs.Stripes.{quad_6, quad_7, quad_far}
use Rattle.paris_plane.proofs.kernel.stripe_lanes.Goals.{in-6, in-7, in_default}
use Rattle.paris_plane.proofs.kernel.stripe_lanes.Goals as goal

pub returns-clause-words : goal.returns-clause-words
returns-clause-words c =
    let q : ℕ = c.args.quad in
    elim c.match-k.branch [
      | in-6 w ↦ λ i j four h.
          ap (λ l. word_bit (get_or l i 0) j) w.result-is ∙ quad_6 q i j four h ∙ sym (ap (word_bit (64 * (4 * q + i) + j)) w.in-6.is)
      | in-7 w ↦ λ i j four h.
          ap (λ l. word_bit (get_or l i 0) j) w.result-is ∙ quad_7 q i j four h ∙ sym (ap (word_bit (64 * (4 * q + i) + j)) w.in-7.is)
      | in_default w ↦ λ i j four h.
          ap (λ l. word_bit (get_or l i 0) j) w.result-is ∙ ap (λ x. word_bit x j) ((lanes_splat 4 w.far_stripe_word.result).at i four)
          ∙ quad_far w.far_stripe_word.result q i j c.args.k four h (omega arith) (w.far_stripe_word.ensures j h)
    ]
