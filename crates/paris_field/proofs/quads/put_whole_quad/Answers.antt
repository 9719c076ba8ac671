use Rattle.std.proofs.Common.{◌≡◌, ℕ, ◌+◌, ◌*◌, ◌/◌, ◌%◌, ◌^◌, ◌<◌, ◌∙◌, ap, arith, false, get_or}
use Rattle.paris_plane.specs.Bits.{word_bit}
use Rattle.paris_field.specs.Numbers.{plane_at}
use Rattle.paris_field.proofs.Halves.{number_from_bits, same_number}
use Rattle.paris_field.proofs.quads.put_whole_quad.Goals as goal

pub returns-clause-numbers : goal.returns-clause-numbers
returns-clause-numbers c =
    λ i hi.
    let q : ℕ = i / 64 in
    let j : ℕ = i % 64 in
    let lane : q < 4 = omega arith in
    let inside : j < 64 = omega arith in
    let place : 256 * c.args.quad + i ≡ 256 * c.args.quad + 64 * q + j = omega arith in
    let there : 64 * q + j ≡ i = omega arith in
    number_from_bits c.put_quad_rows.new.planes (256 * c.args.quad + i) (get_or c.args.words.now i 0)
    (λ k h.
    ap (λ v. get_or (plane_at c.put_quad_rows.new.planes k) v false) place
    ∙ c.put_quad_rows.ensures.bits q k j lane (omega arith) inside
    ∙ c.turn_squares.ensures.bits q k j lane (omega arith) inside
    ∙ ap (λ w. word_bit w k) (c.side_by_side_lanes-rows.ensures.words q j lane inside ∙ ap (λ x. get_or c.args.words.now x 0) there))
    ∙ ap (λ n. get_or c.args.words.now i 0 % 2 ^ n) (omega arith)

pub returns-clause-others : goal.returns-clause-others
returns-clause-others c =
    λ v within elsewhere.
    same_number c.put_quad_rows.new.planes c.args.planes.now v (omega arith) (λ k h. c.put_quad_rows.ensures.others k h v within elsewhere)
