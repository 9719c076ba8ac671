use Rattle.std.proofs.Common.{◌≡◌, ◌≢◌, ℕ, ◌+◌, ◌-◌, ◌*◌, ◌/◌, ◌^◌, ◌<◌, ◌∙◌, ap, sym, arith, false, get_or, inl, inr, subst}
use Rattle.std.proofs.lemmas.Bool.{cases_lt}
use Rattle.paris_model.specs.Elementwise.{binary_overflow, binary_result}
use Rattle.paris_model.specs.Store.{low}
use Rattle.paris_muldiv.proofs.blocks.quad_results.Goals as goal

pub loop-q-preserved : goal.loop-q-preserved
loop-q-preserved g c =
    let q : ℕ = c.loop-q.q in
    let b : ℕ = 4 * c.args.quad + q in
    let bits : ℕ = c.args.bits in
    record {
      same = c.set_word.ensures.long ∙ c.loop-q.invariant.same;
      values = λ i below within.
          elim (cases_lt i (64 * q)) [
            | inl under ↦
                ap (low bits) (c.word_results-word.ensures.others i (λ above. absurd (omega (arith, under, above)))) ∙ c.loop-q.invariant.values i under within
            | inr here ↦
                let j : ℕ = i - 64 * q in
                let place : 64 * q + j ≡ i = omega (arith, here) in
                ap (λ u. low bits (get_or c.word_results-word.new.xs u 0)) (sym place)
                ∙ c.word_results-word.ensures.values j (omega (arith, here, below, within))
                ∙ ap (λ u. low bits (binary_result g.O.NumberOp.operator bits (get_or c.loop-q.xs u 0) (get_or c.args.ys.now u 0) 0 0)) place
                ∙ ap (λ x. low bits (binary_result g.O.NumberOp.operator bits x (get_or c.args.ys.now i 0) 0 0)) (c.loop-q.invariant.kept i here)
          ];
      marks = λ i below within.
          elim (cases_lt i (64 * q)) [
            | inl under ↦
                let ne : (256 * c.args.quad + i) / 64 ≢ b = omega (arith, under) in
                c.set_word.ensures.others (256 * c.args.quad + i) (omega (arith, within, c.loop-q.invariant.same)) ne ∙ c.loop-q.invariant.marks i under within
            | inr here ↦
                let j : ℕ = i - 64 * q in
                let place : 64 * q + j ≡ i = omega (arith, here) in
                let there : 64 * b + j ≡ 256 * c.args.quad + i = omega (arith, here) in
                ap (λ u. get_or c.set_word.new.self u false) (sym there)
                ∙ c.set_word.ensures.bits j (omega (arith, here, below)) (omega (arith, here, within, c.loop-q.invariant.same))
                ∙ c.word_results-word.ensures.overflow j (omega (arith, here, below, within))
                ∙ ap (λ u. binary_overflow g.O.NumberOp.operator bits (get_or c.loop-q.xs u 0) (get_or c.args.ys.now u 0) 0) place
                ∙ ap (λ x. binary_overflow g.O.NumberOp.operator bits x (get_or c.args.ys.now i 0) 0) (c.loop-q.invariant.kept i here)
          ];
      kept = λ i above. c.word_results-word.ensures.others i (λ _. omega (arith, above)) ∙ c.loop-q.invariant.kept i (omega (arith, above));
      others = λ v within elsewhere.
          let ne : v / 64 ≢ b = omega (arith, elsewhere) in
          c.set_word.ensures.others v (omega (arith, within, c.loop-q.invariant.same)) ne ∙ c.loop-q.invariant.others v within elsewhere;
    }

pub word_results-word-requires-clause-xs_fit : goal.word_results-word-requires-clause-xs_fit
word_results-word-requires-clause-xs_fit g c = λ i h.
    subst (λ t. t < 2 ^ c.args.bits) (sym (c.loop-q.invariant.kept (64 * c.loop-q.q + i) (omega arith))) (c.requires.xs_fit (64 * c.loop-q.q + i) (omega (arith, h)) (omega (arith, h)))

pub word_results-word-requires-clause-ys_fit : goal.word_results-word-requires-clause-ys_fit
word_results-word-requires-clause-ys_fit g c = λ i h. c.requires.ys_fit (64 * c.loop-q.q + i) (omega (arith, h)) (omega (arith, h))

pub returns : goal.returns
returns g c =
    record {
      long = c.loop-q.invariant.same;
      values = λ i hi within. c.loop-q.invariant.values i (omega (arith, hi, within)) within;
      overflow = λ i hi within. c.loop-q.invariant.marks i (omega (arith, hi, within)) within;
      others = c.loop-q.invariant.others;
    }
