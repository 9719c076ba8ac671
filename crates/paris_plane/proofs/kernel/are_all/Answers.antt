use Rattle.std.proofs.Common.{◌≡◌, ℕ, ◌+◌, ◌*◌, ◌-◌, get_or, arith, bit_xor, refl, subst, inl, inr}
use Rattle.std.proofs.lemmas.Bool.{cases_lt}
use Rattle.paris_plane.specs.Equal.{words_equal, same_words, xor_none}
use Rattle.paris_plane.proofs.Blocks.{lanes_load, lanes_op, lanes_splat, lanes_none, none_lanes}
use Rattle.paris_plane.proofs.kernel.are_all.Goals as goal

pub returns-then-x-word-ne0 : goal.returns-then-x-word-ne0
returns-then-x-word-ne0 c =
    let i : ℕ = 4 * c.loop-k.k in
    let x = lanes_load i 4 c.args.xs.now c.args.xs.now (omega arith) (λ _ _. refl) in
    let turned = lanes_op bit_xor x (lanes_splat 4 c.args.word) in (
      λ h. cc,
      λ all. absurd (c.if-x-word-ne0.true (none_lanes turned (λ j h.
          xor_none _ _ (words_equal _ _ (c.type_inv.xs (i + j)).fits c.ranges.word.fits (λ k m. all (i + j) k (omega arith) m))))),
    )

pub loop-k-preserved : goal.loop-k-preserved
loop-k-preserved c =
    let i : ℕ = 4 * c.loop-k.k in
    let X : ℕ → ℕ = λ j. get_or c.args.xs.now j 0 in
    let x = lanes_load i 4 c.args.xs.now c.args.xs.now (omega arith) (λ _ _. refl) in
    let turned = lanes_op bit_xor x (lanes_splat 4 c.args.word) in
    λ j h.
    elim (cases_lt j i) [
      | inl k ↦ c.loop-k.invariant j k
      | inr k ↦
          same_words (X j) c.args.word (c.type_inv.xs j).fits c.ranges.word.fits
          (subst (λ t. bit_xor (X t) c.args.word ≡ 0) (omega arith) (lanes_none turned c.if-x-word-ne0.false (j - i) (omega arith)))
    ]

pub returns-then-xs-i : goal.returns-then-xs-i
returns-then-xs-i c =
    (λ h. cc, λ all. absurd (c.if-xs-i.true (words_equal _ _ (c.type_inv.xs c.loop-i.i).fits c.ranges.word.fits (λ j h. all c.loop-i.i j c.loop-i-test.true h))))
