use Rattle.std.proofs.Common.{◌≡◌, ℕ, ◌+◌, ◌*◌, ◌∙◌, List, [], ap, arith, get_or, length, replicate, inl, inr}
use Rattle.std.proofs.lemmas.Bool.{cases_lt}
use Rattle.std.proofs.lemmas.List.{get_or-replicate, length-replicate}
use Rattle.paris_plane.specs.Bits.{word_bit}
use Rattle.paris_field.specs.Square.{lane_bit}
use Rattle.paris_field.proofs.HalfWords.{no_row}
use Rattle.paris_field.proofs.quads.paired_quad_rows.Goals as goal

pub put_layer_rows-requires-clause-four : goal.put_layer_rows-requires-clause-four
put_layer_rows-requires-clause-four c = λ j h. ap length (get_or-replicate 64 j (replicate 4 0) [] h) ∙ length-replicate {A = ℕ} 4 0

pub returns : goal.returns
returns c =
    let none : List ℕ = replicate 4 0 in
    record {
      four = c.put_layer_rows-2.ensures.four;
      low = λ q k i hq hk hi.
          ap (λ r. word_bit (get_or r q 0) i) (c.put_layer_rows-2.ensures.others k (λ above. absurd (omega (arith, hk, above))))
          ∙ elim (cases_lt k (length c.args.xs.now)) [
            | inl made ↦
                let there : k ≡ 0 + k = omega arith in
                ap (λ j. lane_bit c.put_layer_rows.new.rows q j i) there ∙ c.put_layer_rows.ensures.bits k made q i hq hi
            | inr past ↦
                ap (λ r. word_bit (get_or r q 0) i) (c.put_layer_rows.ensures.others k (λ _. omega (arith, past)) ∙ get_or-replicate 64 k none [] (omega (arith, hk)))
                ∙ no_row c.args.xs.now k i (256 * c.args.quad + 64 * q + i) (get_or none q 0) hi past (get_or-replicate 4 q 0 0 hq)
          ];
      high = λ q k i hq hk hi.
          elim (cases_lt k (length c.args.ys.now)) [
            | inl made ↦ c.put_layer_rows-2.ensures.bits k made q i hq hi
            | inr past ↦
                ap (λ r. word_bit (get_or r q 0) i)
                (c.put_layer_rows-2.ensures.others (32 + k) (λ _. omega (arith, past)) ∙ c.put_layer_rows.ensures.others (32 + k) (λ _. omega (arith, c.requires.x_narrow))
                ∙ get_or-replicate 64 (32 + k) none [] (omega (arith, hk)))
                ∙ no_row c.args.ys.now k i (256 * c.args.quad + 64 * q + i) (get_or none q 0) hi past (get_or-replicate 4 q 0 0 hq)
          ];
    }
