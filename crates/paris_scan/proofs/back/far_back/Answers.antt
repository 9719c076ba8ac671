use Rattle.std.proofs.Common.{◌≡◌, ◌∙◌, ℕ, Bool, arith, get_or, length, subst}
use Rattle.std.proofs.lemmas.List.{length-set}
use Rattle.paris_geometry.specs.declared.direction.Direction.{Direction}
use Rattle.paris_field.specs.Numbers.{has}
use Rattle.paris_scan.specs.Running.{HasBefore, value_before}
use Rattle.paris_scan.proofs.OneByOne.{Walked, backward, old_before, returned, walked_all, walked_set}
use Rattle.paris_scan.proofs.back.far_back.Goals as goal

pub loop-place-preserved : goal.loop-place-preserved
loop-place-preserved c =
    let n : ℕ = length c.args.words.now in
    let d : Direction = c.args.steps.now.direction in
    let by : ℕ = c.args.steps.now.by in
    let begins : ℕ → Bool = has c.args.steps.now.begins in
    let v : ℕ = c.walked-v.result in
    let old : ℕ → ℕ = λ u. get_or c.args.words.now u 0 in
    let made : ℕ → ℕ = value_before c.args.none d by begins old in
    let at : v ≡ returned d n c.loop-place.place = c.walked-v.ensures.value in
    record {
      count = length-set c.loop-place.words v c.word_before.result ∙ c.loop-place.invariant.count;
      moved = walked_set (backward d n) c.loop-place.place made old 0 c.loop-place.words v c.word_before.result c.loop-place.invariant.moved c.loop-place.invariant.count c.loop-place-test.true at
          (c.word_before.ensures
          ∙ old_before d by n c.loop-place.place v begins made old c.args.none 0 c.loop-place.words c.loop-place-test.true at
          (λ none. subst (λ m. HasBefore d by m v) c.requires.count (c.args.steps.now.reach v (omega (arith, c.requires.count, c.walked-v.ensures.within)) none))
          c.loop-place.invariant.moved);
    }

pub returns-clause-words : goal.returns-clause-words
returns-clause-words c =
    let n : ℕ = length c.args.words.now in
    let old : ℕ → ℕ = λ u. get_or c.args.words.now u 0 in
    let made : ℕ → ℕ = value_before c.args.none c.args.steps.now.direction c.args.steps.now.by (has c.args.steps.now.begins) old in
    let all : c.loop-place.place ≡ n = omega (arith, c.loop-place-test.false, c.loop-place.auto.place-end) in
    walked_all (backward c.args.steps.now.direction n) made old 0 c.loop-place.words (subst (λ p. Walked n (returned c.args.steps.now.direction n) p made old 0 c.loop-place.words) all c.loop-place.invariant.moved)
