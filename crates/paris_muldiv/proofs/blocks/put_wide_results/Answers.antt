use Rattle.std.proofs.Common.{◌≡◌, ◌≢◌, ℕ, ◌+◌, ◌-◌, ◌*◌, ◌/◌, ◌∙◌, ap, sym, arith, length, get_or, Bool, false, inl, inr}
use Rattle.std.proofs.lemmas.Bool.{cases_lt}
use Rattle.paris_model.specs.Elementwise.{binary_overflow, binary_result}
use Rattle.paris_model.specs.Store.{low}
use Rattle.paris_field.specs.Numbers.{number_at}
use Rattle.paris_muldiv.proofs.blocks.put_wide_results.Goals as goal

pub loop-block-preserved : goal.loop-block-preserved
loop-block-preserved g c =
    let b : ℕ = c.loop-block.block in
    let result : ℕ → ℕ → ℕ = λ L v. low L (binary_result g.O.NumberOp.operator L (number_at c.args.xs.now v) (number_at c.args.ys.now v) 0 0) in
    let overflows : ℕ → ℕ → Bool = λ L v. binary_overflow g.O.NumberOp.operator L (number_at c.args.xs.now v) (number_at c.args.ys.now v) 0 in
    record {
      long = c.put_number_results.ensures.long ∙ c.loop-block.invariant.long;
      planes = λ k below. c.put_number_results.ensures.planes k below ∙ c.loop-block.invariant.long;
      values = λ v within below.
          elim (cases_lt v (64 * b)) [
            | inl under ↦
                let ne : v / 64 ≢ b = omega arith in
                c.put_number_results.ensures.other_values v (omega (arith, c.loop-block.invariant.long)) ne ∙ c.loop-block.invariant.values v within under
            | inr here ↦
                let there : 64 * b + (v - 64 * b) ≡ v = omega arith in
                ap (number_at c.put_number_results.new.values) (sym there)
                ∙ c.put_number_results.ensures.values (v - 64 * b) (omega arith) (omega (arith, c.loop-block.invariant.long))
                ∙ ap (result (length c.loop-block.values)) there
                ∙ ap (λ L. result L v) c.loop-block.auto.values
          ];
      overflow = λ v within below.
          elim (cases_lt v (64 * b)) [
            | inl under ↦
                let ne : v / 64 ≢ b = omega arith in
                c.put_number_results.ensures.other_bits v (omega (arith, c.loop-block.invariant.long)) ne ∙ c.loop-block.invariant.overflow v within under
            | inr here ↦
                let there : 64 * b + (v - 64 * b) ≡ v = omega arith in
                ap (λ u. get_or c.put_number_results.new.overflow u false) (sym there)
                ∙ c.put_number_results.ensures.overflow (v - 64 * b) (omega arith) (omega (arith, c.loop-block.invariant.long))
                ∙ ap (overflows (length c.loop-block.values)) there
                ∙ ap (λ L. overflows L v) c.loop-block.auto.values
          ];
    }
