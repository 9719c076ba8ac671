use Rattle.std.proofs.Common.{ℕ, ◌+◌, ◌*◌, ◌∙◌, ap, get_or, arith, refl}
use Rattle.std.specs.Simd.Lanes.{chunk}
use Rattle.paris_plane.specs.Moves.{joined_word}
use Rattle.paris_plane.proofs.Blocks.{Lanes, lanes_load, lanes_op2, stored}
use Rattle.paris_plane.proofs.moves.join_words.Goals as goal

pub loop-k-preserved : goal.loop-k-preserved
loop-k-preserved c =
    let i : ℕ = 4 * c.loop-k.k in
    let join : ℕ → ℕ → ℕ = joined_word c.args.by in
    let X : ℕ → ℕ = λ j. get_or c.args.xs.now j 0 in
    let above = lanes_load (i + 1) 4 c.args.xs.now c.args.xs.now (omega arith) (λ _ _. refl) in
    let high : Lanes 4 (chunk (i + 1) 4 c.args.xs.now) (λ j. X (i + j + 1)) = record { long = above.long; at = λ j h. above.at j h ∙ ap X (omega arith) } in
    let low = lanes_load i 4 c.args.xs.now c.args.xs.now (omega arith) (λ _ _. refl) in
    let r = lanes_op2 join c.joined_lanes.result c.joined_lanes.ensures.0 c.joined_lanes.ensures.1 high low in
    λ j h. ap (λ l. get_or l j 0) c.put_lanes.ensures ∙ stored (λ j. join (X (j + 1)) (X j)) i 4 _ c.loop-k.out _ r (omega arith) (omega arith) c.loop-k.invariant j h
