use Rattle.std.proofs.Common.{◌≡◌, ℕ, ◌+◌, ◌*◌, ◌/◌, ◌%◌, ◌<◌, ◌∙◌, ap, arith, false, get_or}
use Rattle.std.proofs.lemmas.List.{take_all}
use Rattle.paris_plane.specs.Bits.{word_bit}
use Rattle.paris_field.specs.Numbers.{number_at, plane_at}
use Rattle.paris_field.proofs.Halves.{word_is}
use Rattle.paris_field.proofs.quads.whole_quad_words.Goals as goal

pub returns : goal.returns
returns c =
    λ i hi.
    let q : ℕ = i / 64 in
    let j : ℕ = i % 64 in
    let v : ℕ = 256 * c.args.quad + i in
    let words = c.put_lanes.new.words in
    let lane : q < 4 = omega arith in
    let inside : j < 64 = omega arith in
    let place : i ≡ 64 * q + j = omega arith in
    let there : 256 * c.args.quad + 64 * q + j ≡ v = omega arith in
    word_is (get_or words i 0) c.args.layers.now v (c.words_fit.ensures i)
    (λ k hk.
    ap (λ x. word_bit (get_or words x 0) k) place ∙ ap (λ x. word_bit x k) (c.put_lanes.ensures q j lane inside)
    ∙ c.turn_squares.ensures.bits q j k lane inside hk ∙ c.quad_rows-rows.ensures.bits q k j lane hk inside
    ∙ ap (λ x. get_or (plane_at c.args.layers.now k) x false) there)
    ∙ ap (λ ps. number_at ps v) (take_all 64 c.args.layers.now c.requires.narrow)
