use Rattle.std.proofs.Common.{◌≡◌, ℕ, ◌+◌, ◌*◌, ◌/◌, ◌%◌, ◌^◌, ◌<◌, ◌∙◌, ap, arith, get_or}
use Rattle.paris_plane.specs.Bits.{word_bit}
use Rattle.paris_field.proofs.HalfWords.{high_part_is, low_part_is}
use Rattle.paris_field.proofs.Turn.{quarter_bit}
use Rattle.paris_field.proofs.pairs.paired_bytes.Goals as goal

pub returns-clause-low : goal.returns-clause-low
returns-clause-low c = λ i hi within.
    let number : ℕ = get_or c.quarters-numbers.result i 0 in
    let row : ℕ = get_or c.transpose16.new.rows (i % 16) 0 in
    let s : ℕ = i / 16 * 16 in
    let low : get_or c.spread.result i 0 % 2 ^ 32 ≡ number % 2 ^ 8 = omega (arith, c.spread.ensures i hi) in
    low
    ∙ low_part_is 8 number c.args.xs.now (64 * c.args.block + i) (omega arith) c.requires.x_narrow (λ k hk.
    let plane : (s + k) % 16 ≡ k = omega arith in
    let processor : (s + k) / 16 * 16 + i % 16 ≡ i = omega arith in
    ap (λ w. word_bit w k) (c.quarters-numbers.ensures i hi)
    ∙ quarter_bit row s k (omega arith)
    ∙ c.transpose16.ensures (i % 16) (s + k) (omega arith) (omega arith)
    ∙ ap (λ r. word_bit (get_or c.paired_rows-rows.result r 0) ((s + k) / 16 * 16 + i % 16)) plane
    ∙ ap (word_bit (get_or c.paired_rows-rows.result k 0)) processor
    ∙ c.paired_rows-rows.ensures.low k i hk hi within)

pub returns-clause-high : goal.returns-clause-high
returns-clause-high c = λ i hi within.
    let number : ℕ = get_or c.quarters-numbers.result i 0 in
    let row : ℕ = get_or c.transpose16.new.rows (i % 16) 0 in
    let s : ℕ = i / 16 * 16 in
    let small : number < 2 ^ 16 = omega (arith, c.quarters-numbers.ensures i hi) in
    let high : get_or c.spread.result i 0 / 2 ^ 32 ≡ number / 2 ^ 8 = omega (arith, small, c.spread.ensures i hi) in
    high
    ∙ high_part_is 8 number c.args.ys.now (64 * c.args.block + i) (omega arith) (omega (arith, small)) c.requires.y_narrow (λ k hk.
    let plane : (s + (8 + k)) % 16 ≡ 8 + k = omega arith in
    let processor : (s + (8 + k)) / 16 * 16 + i % 16 ≡ i = omega arith in
    ap (λ w. word_bit w (8 + k)) (c.quarters-numbers.ensures i hi)
    ∙ quarter_bit row s (8 + k) (omega arith)
    ∙ c.transpose16.ensures (i % 16) (s + (8 + k)) (omega arith) (omega arith)
    ∙ ap (λ r. word_bit (get_or c.paired_rows-rows.result r 0) ((s + (8 + k)) / 16 * 16 + i % 16)) plane
    ∙ ap (word_bit (get_or c.paired_rows-rows.result (8 + k) 0)) processor
    ∙ c.paired_rows-rows.ensures.high k i hk hi within)
