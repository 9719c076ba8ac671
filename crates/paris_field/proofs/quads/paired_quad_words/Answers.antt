use Rattle.std.proofs.Common.{◌≡◌, ℕ, ◌+◌, ◌*◌, ◌/◌, ◌%◌, ◌<◌, ◌∙◌, ap, arith, false, get_or}
use Rattle.paris_plane.specs.Bits.{word_bit}
use Rattle.paris_field.specs.Numbers.{plane_at}
use Rattle.paris_field.proofs.HalfWords.{low_half_is, high_half_is}
use Rattle.paris_field.proofs.quads.paired_quad_words.Goals as goal

pub returns-clause-x : goal.returns-clause-x
returns-clause-x c =
    λ i hi.
    let q : ℕ = i / 64 in
    let j : ℕ = i % 64 in
    let words = c.put_lanes.new.words in
    let lane : q < 4 = omega (arith, hi) in
    let inside : j < 64 = omega arith in
    let place : i ≡ 64 * q + j = omega arith in
    let there : 256 * c.args.quad + 64 * q + j ≡ 256 * c.args.quad + i = omega arith in
    c.halve.ensures.low i hi
    ∙ low_half_is (get_or words i 0) c.args.xs.now (256 * c.args.quad + i) c.requires.x_narrow (λ k hk.
    ap (λ x. word_bit (get_or words x 0) k) place ∙ ap (λ x. word_bit x k) (c.put_lanes.ensures q j lane inside)
    ∙ c.turn_squares.ensures.bits q j k lane inside (omega (arith, hk)) ∙ c.paired_quad_rows-rows.ensures.low q k j lane hk inside
    ∙ ap (λ x. get_or (plane_at c.args.xs.now k) x false) there)

pub returns-clause-y : goal.returns-clause-y
returns-clause-y c =
    λ i hi.
    let q : ℕ = i / 64 in
    let j : ℕ = i % 64 in
    let words = c.put_lanes.new.words in
    let lane : q < 4 = omega (arith, hi) in
    let inside : j < 64 = omega arith in
    let place : i ≡ 64 * q + j = omega arith in
    let there : 256 * c.args.quad + 64 * q + j ≡ 256 * c.args.quad + i = omega arith in
    c.halve.ensures.high i hi
    ∙ high_half_is (get_or words i 0) c.args.ys.now (256 * c.args.quad + i) (c.words_fit.ensures i) c.requires.y_narrow (λ k hk.
    ap (λ x. word_bit (get_or words x 0) (32 + k)) place ∙ ap (λ x. word_bit x (32 + k)) (c.put_lanes.ensures q j lane inside)
    ∙ c.turn_squares.ensures.bits q j (32 + k) lane inside (omega (arith, hk)) ∙ c.paired_quad_rows-rows.ensures.high q k j lane hk inside
    ∙ ap (λ x. get_or (plane_at c.args.ys.now k) x false) there)
