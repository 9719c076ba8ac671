use Rattle.std.proofs.Common.{◌≡◌, ◌≢◌, ℕ, ◌+◌, ◌*◌, ◌<◌, ◌∙◌, Bool, List, [], ap, arith, below_more, false, get_or, length, refl, inl, inr}
use Rattle.std.proofs.lemmas.Bool.{cases_lt}
use Rattle.std.proofs.lemmas.Grind.{get_or-set_at}
use Rattle.std.proofs.lemmas.List.{get_or_read, get_or-set_other, length-replicate, length-set}
use Rattle.std.proofs.lemmas.Simd.{get_or-replicate}
use Rattle.paris_plane.specs.Bits.{word_bit}
use Rattle.paris_field.specs.Numbers.{plane_at}
use Rattle.paris_field.proofs.HalfWords.{no_row}
use Rattle.paris_field.proofs.blocks.rows_of.Goals as goal

pub loop-k-init : goal.loop-k-init
loop-k-init c =
    let none : ℕ = 0 in
    record {
      long = length-replicate 64 none;
      bits = λ j h. absurd (omega (arith, h));
      rest = λ j _ h. get_or-replicate 64 j 0 0 (omega (arith, h));
    }

pub loop-k-preserved : goal.loop-k-preserved
loop-k-preserved c =
    let k : ℕ = c.loop-k.k in
    let inside : k < length c.args.layers.now = omega arith in
    let x : List Bool = c.index-layers-k.result in
    let at : x ≡ plane_at c.args.layers.now k = get_or_read c.args.layers.now k x inside c.index-layers-k.is [] in
    let long : length x ≡ c.args.vps = ap length at ∙ c.requires.long k inside in
    record {
      long = length-set c.loop-k.rows k c.word.result ∙ c.loop-k.invariant.long;
      bits = below_more _ _
          (λ j h i hi below. let ne : j ≢ k = omega arith in
          ap (λ w. word_bit w i) (get_or-set_other c.loop-k.rows k j c.word.result 0 ne) ∙ c.loop-k.invariant.bits j h i hi below)
          (λ i hi below. ap (λ w. word_bit w i) (get_or-set_at c.loop-k.rows k k c.word.result 0 refl (omega arith)) ∙ c.word.ensures i hi (omega (arith, below, long)) ∙ ap (λ p. get_or p (64 * c.args.block + i) false) at);
      rest = λ j from h.
          let ne : j ≢ k = omega (arith, from) in
          get_or-set_other c.loop-k.rows k j c.word.result 0 ne ∙ c.loop-k.invariant.rest j (omega (arith, from)) h;
    }

pub returns : goal.returns
returns c =
    λ k i hk hi below.
    elim (cases_lt k c.loop-k.k) [
      | inl made ↦ c.loop-k.invariant.bits k made i hi below
      | inr past ↦ no_row c.args.layers.now k i (64 * c.args.block + i) _ hi (omega (arith, past)) (c.loop-k.invariant.rest k past hk)
    ]
