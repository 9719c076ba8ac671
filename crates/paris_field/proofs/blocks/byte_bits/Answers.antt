use Rattle.std.proofs.Common.{◌≡◌, ℕ, ◌+◌, ◌*◌, ◌/◌, ◌%◌, ◌<◌, ◌∙◌, ap, arith, get_or, sym, false, [], inl, inr}
use Rattle.std.proofs.lemmas.Bool.{cases_lt}
use Rattle.paris_plane.specs.Bits.{word_bit}
use Rattle.paris_field.proofs.Halves.{get_or-past}
use Rattle.paris_field.proofs.Turn.{eighth_bit, eighth_past}
use Rattle.paris_field.proofs.blocks.byte_bits.Goals as goal

pub returns : goal.returns
returns c =
    λ i k hi hk below.
    let j : ℕ = i % 8 in
    let s : ℕ = i / 8 * 8 in
    let row : ℕ = get_or c.transpose8.new.rows j 0 in
    ap (λ w. word_bit w k) (c.eighths.ensures i hi)
    ∙ elim (cases_lt k 8) [
      | inl few ↦
          let place : ℕ = s + k in
          let there : place < 64 = omega arith in
          let plane : place % 8 ≡ k = omega arith in
          let processor : place / 8 * 8 + j ≡ i = omega arith in
          eighth_bit row s k few
          ∙ c.transpose8.ensures j place (omega arith) there
          ∙ ap (λ r. word_bit (get_or c.rows_of-rows.result r 0) (place / 8 * 8 + j)) plane
          ∙ ap (word_bit (get_or c.rows_of-rows.result k 0)) processor
          ∙ c.rows_of-rows.ensures k i (omega arith) hi below
      | inr many ↦
          eighth_past row s k many
          ∙ sym (ap (λ p. get_or p (64 * c.args.block + i) false) (get_or-past c.args.layers.now k [] (omega (arith, many, c.requires.narrow))))
    ]
