use Rattle.std.proofs.Common.{◌≡◌, ◌≢◌, ℕ, Bool, ◌+◌, ◌^◌, ◌<◌, ◌∙◌, ap, arith, below_more, get_or, refl, subst, sym}
use Rattle.std.proofs.lemmas.Grind.{get_or-set_at}
use Rattle.std.proofs.lemmas.List.{get_or-set_other, length-set}
use Rattle.paris_model.specs.Elementwise.{binary_overflow, binary_result}
use Rattle.paris_model.specs.Store.{low}
use Rattle.paris_plane.specs.Words.{zero_bit}
use Rattle.paris_muldiv.proofs.blocks.word_results.Goals as goal

pub loop-i-init : goal.loop-i-init
loop-i-init g c =
    record {
      long = omega arith;
      values = λ j h. absurd (omega (arith, h));
      marks = λ j h. absurd (omega (arith, h));
      clear = λ j _ below. zero_bit j below;
      others = λ k _. refl;
    }

pub apply_words-result-requires-clause-x_fits : goal.apply_words-result-requires-clause-x_fits
apply_words-result-requires-clause-x_fits g c =
    subst (λ t. t < 2 ^ c.args.bits) (sym (c.loop-i.invariant.others (c.args.at + c.loop-i.i) (λ _. omega arith))) (c.requires.xs_fit c.loop-i.i (omega arith))

pub loop-i-preserved : goal.loop-i-preserved
loop-i-preserved g c =
    let i : ℕ = c.loop-i.i in
    let bits : ℕ = c.args.bits in
    let place : ℕ = c.args.at + i in
    let old : get_or c.loop-i.xs place 0 ≡ get_or c.args.xs.now place 0 = c.loop-i.invariant.others place (λ _. omega arith) in
    let result : ℕ → ℕ = λ x. low bits (binary_result g.O.NumberOp.operator bits x (get_or c.args.ys.now place 0) 0 0) in
    let overflows : ℕ → Bool = λ x. binary_overflow g.O.NumberOp.operator bits x (get_or c.args.ys.now place 0) 0 in
    record {
      long = length-set c.loop-i.xs place _ ∙ c.loop-i.invariant.long;
      values = below_more _ _
          (λ j h. let ne : c.args.at + j ≢ place = omega (arith, h) in
          ap (low bits) (get_or-set_other c.loop-i.xs place (c.args.at + j) _ 0 ne) ∙ c.loop-i.invariant.values j h)
          (ap (low bits) (get_or-set_at c.loop-i.xs place place _ 0 refl (omega arith)) ∙ c.apply_words-result.ensures.value ∙ ap result old);
      marks = below_more _ _
          (λ j h. let ne : j ≢ i = omega (arith, h) in
          c.with_bit-word.ensures.others j ne ∙ c.loop-i.invariant.marks j h)
          (c.with_bit-word.ensures.here ∙ c.apply_words-result.ensures.overflow ∙ ap overflows old);
      clear = λ j h below.
          let ne : j ≢ i = omega (arith, h) in
          c.with_bit-word.ensures.others j ne ∙ c.loop-i.invariant.clear j (omega (arith, h)) below;
      others = λ k outside.
          let ne : k ≢ place = λ same. omega (arith, same, outside (omega (arith, same))) in
          get_or-set_other c.loop-i.xs place k _ 0 ne ∙ c.loop-i.invariant.others k (λ above. omega (arith, outside above));
    }
