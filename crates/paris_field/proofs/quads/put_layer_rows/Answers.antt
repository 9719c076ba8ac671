use Rattle.std.proofs.Common.{◌≡◌, ◌≢◌, ℕ, ◌+◌, ◌*◌, ◌<◌, ◌∙◌, List, [], ap, arith, below_more, false, get_or, length, refl, inl, inr}
use Rattle.std.proofs.lemmas.Bool.{cases_eq}
use Rattle.std.proofs.lemmas.Grind.{get_or-set_at}
use Rattle.std.proofs.lemmas.List.{get_or-set_other, get_or_read, length-set}
use Rattle.paris_plane.specs.Bits.{word_bit}
use Rattle.paris_field.specs.Numbers.{plane_at}
use Rattle.paris_field.proofs.quads.put_layer_rows.Goals as goal

pub loop-k-preserved : goal.loop-k-preserved
loop-k-preserved c =
    let k : ℕ = c.loop-k.k in
    let place : ℕ = c.args.from + k in
    let row : List ℕ = c.four_words.result in
    let inside : k < length c.args.layers.now = omega arith in
    let room : place < length c.loop-k.rows = omega arith in
    let at : c.index-layers-k.result ≡ plane_at c.args.layers.now k = get_or_read c.args.layers.now k c.index-layers-k.result inside c.index-layers-k.is [] in
    record {
      long = length-set c.loop-k.rows place row ∙ c.loop-k.invariant.long;
      four = λ j h.
          elim (cases_eq j place) [
            | inl e ↦ ap length (get_or-set_at c.loop-k.rows place j row [] e room) ∙ c.four_words.ensures.four
            | inr n ↦ ap length (get_or-set_other c.loop-k.rows place j row [] n) ∙ c.loop-k.invariant.four j h
          ];
      bits = below_more _ _
          (λ j h q i hq hi. let ne : c.args.from + j ≢ place = omega (arith, h) in
          ap (λ r. word_bit (get_or r q 0) i) (get_or-set_other c.loop-k.rows place (c.args.from + j) row [] ne) ∙ c.loop-k.invariant.bits j h q i hq hi)
          (λ q i hq hi. ap (λ r. word_bit (get_or r q 0) i) (get_or-set_at c.loop-k.rows place place row [] refl room) ∙ c.four_words.ensures.bits q i hq hi
          ∙ ap (λ p. get_or p (256 * c.args.quad + 64 * q + i) false) at);
      others = λ j outside.
          let ne : j ≢ place = λ same. omega (arith, same, outside (omega (arith, same))) in
          get_or-set_other c.loop-k.rows place j row [] ne ∙ c.loop-k.invariant.others j (λ above. omega (arith, outside above));
    }

pub four_words-requires-clause-within : goal.four_words-requires-clause-within
four_words-requires-clause-within c =
    let k : ℕ = c.loop-k.k in
    let inside : k < length c.args.layers.now = omega arith in
    let at : c.index-layers-k.result ≡ plane_at c.args.layers.now k = get_or_read c.args.layers.now k c.index-layers-k.result inside c.index-layers-k.is [] in
    let long : length c.index-layers-k.result ≡ c.args.vps = ap length at ∙ c.requires.long k inside in
    omega (arith, long, c.requires.within)
