use Rattle.std.proofs.Common.{◌≡◌, ◌≢◌, ℕ, ◌+◌, ◌*◌, ◌<◌, ◌∙◌, List, [], ap, arith, below_more, false, get_or, length, refl, replicate, inl, inr}
use Rattle.std.proofs.lemmas.Bool.{cases_eq, cases_lt}
use Rattle.std.proofs.lemmas.Grind.{get_or-set_at}
use Rattle.std.proofs.lemmas.List.{get_or-replicate, get_or-set_other, get_or_read, length-replicate, length-set}
use Rattle.paris_plane.specs.Bits.{word_bit}
use Rattle.paris_field.specs.Numbers.{plane_at}
use Rattle.paris_field.proofs.HalfWords.{no_row}
use Rattle.paris_field.proofs.quads.quad_rows.Goals as goal

pub loop-k-init : goal.loop-k-init
loop-k-init c =
    let none : List ℕ = replicate 4 0 in
    record {
      long = length-replicate 64 none;
      four = λ j h. ap length (get_or-replicate 64 j none [] h) ∙ length-replicate {A = ℕ} 4 0;
      bits = λ j h. absurd (omega (arith, h));
      rest = λ j _ h. get_or-replicate 64 j none [] h;
    }

pub loop-k-preserved : goal.loop-k-preserved
loop-k-preserved c =
    let k : ℕ = c.loop-k.k in
    let row : List ℕ = c.four_words.result in
    let inside : k < length c.args.layers.now = omega arith in
    let room : k < length c.loop-k.rows = omega arith in
    let at : c.index-layers-k.result ≡ plane_at c.args.layers.now k = get_or_read c.args.layers.now k c.index-layers-k.result inside c.index-layers-k.is [] in
    record {
      long = length-set c.loop-k.rows k row ∙ c.loop-k.invariant.long;
      four = λ j h.
          elim (cases_eq j k) [
            | inl e ↦ ap length (get_or-set_at c.loop-k.rows k j row [] e room) ∙ c.four_words.ensures.four
            | inr n ↦ ap length (get_or-set_other c.loop-k.rows k j row [] n) ∙ c.loop-k.invariant.four j h
          ];
      bits = below_more _ _
          (λ j h q i hq hi. let ne : j ≢ k = omega (arith, h) in
          ap (λ r. word_bit (get_or r q 0) i) (get_or-set_other c.loop-k.rows k j row [] ne) ∙ c.loop-k.invariant.bits j h q i hq hi)
          (λ q i hq hi. ap (λ r. word_bit (get_or r q 0) i) (get_or-set_at c.loop-k.rows k k row [] refl room) ∙ c.four_words.ensures.bits q i hq hi
          ∙ ap (λ p. get_or p (256 * c.args.quad + 64 * q + i) false) at);
      rest = λ j from h.
          let ne : j ≢ k = omega (arith, from) in
          get_or-set_other c.loop-k.rows k j row [] ne ∙ c.loop-k.invariant.rest j (omega (arith, from)) h;
    }

pub four_words-requires-clause-within : goal.four_words-requires-clause-within
four_words-requires-clause-within c =
    let k : ℕ = c.loop-k.k in
    let inside : k < length c.args.layers.now = omega arith in
    let at : c.index-layers-k.result ≡ plane_at c.args.layers.now k = get_or_read c.args.layers.now k c.index-layers-k.result inside c.index-layers-k.is [] in
    let long : length c.index-layers-k.result ≡ c.args.vps = ap length at ∙ c.requires.long k inside in
    omega (arith, long, c.requires.within)

pub returns : goal.returns
returns c =
    record {
      four = c.loop-k.invariant.four;
      bits = λ q k i hq hk hi.
          elim (cases_lt k c.loop-k.k) [
            | inl made ↦ c.loop-k.invariant.bits k made q i hq hi
            | inr past ↦
                ap (λ r. word_bit (get_or r q 0) i) (c.loop-k.invariant.rest k past hk)
                ∙ no_row c.args.layers.now k i (256 * c.args.quad + 64 * q + i) (get_or (replicate 4 0) q 0) hi (omega (arith, past)) (get_or-replicate 4 q 0 0 hq)
          ];
    }
