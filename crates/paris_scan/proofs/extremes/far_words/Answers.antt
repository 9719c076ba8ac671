use Rattle.std.proofs.Common.{◌≡◌, ◌∙◌, ℕ, Bool, false, List, ap, arith, cond, get_or, length, subst, sym}
use Rattle.std.proofs.lemmas.List.{length-set}
use Rattle.paris_geometry.specs.declared.direction.Direction.{Direction}
use Rattle.paris_model.specs.Combine.{combine}
use Rattle.paris_model.specs.declared.operators.Combiner.{Combiner}
use Rattle.paris_field.specs.Numbers.{has}
use Rattle.paris_scan.specs.Running.{HasBefore, taken, value_before, walked}
use Rattle.paris_scan.proofs.OneByOne.{Walked, forward, made_before, walked_all, walked_set}
use Rattle.paris_scan.proofs.extremes.far_words.Goals as goal

pub loop-place-preserved : goal.loop-place-preserved
loop-place-preserved g c =
    let op : Combiner = g.E.Extreme.operator in
    let n : ℕ = length c.args.words.now in
    let d : Direction = c.args.steps.now.direction in
    let by : ℕ = c.args.steps.now.by in
    let begins : ℕ → Bool = has c.args.steps.now.begins in
    let selected : ℕ → Bool = has c.args.selected.now in
    let k : ℕ = c.loop-place.place in
    let v : ℕ = c.walked-v.result in
    let old : ℕ → ℕ = λ u. get_or c.args.words.now u 0 in
    let words : List ℕ = c.loop-place.words in
    let left : ℕ = c.word_before-before.result in
    let at : v ≡ walked d n k = c.walked-v.ensures.value in
    let reach : begins v ≡ false → HasBefore d by n v = λ none. subst (λ m. HasBefore d by m v) c.requires.count (c.args.steps.now.reach v (omega (arith, c.requires.count, c.walked-v.ensures.within)) none) in
    record {
      count = length-set words v c.next_word.result ∙ c.loop-place.invariant.count;
      made = λ L values runs.
          let made = c.loop-place.invariant.made L values runs in
          let own : get_or words v 0 ≡ old v = ap (λ u. get_or words u 0) at ∙ made.rest k (omega arith) c.loop-place-test.true ∙ ap old (sym at) in
          let left_is : left ≡ value_before c.args.none d by begins values v = c.word_before-before.ensures ∙ made_before d by n k v begins values old c.args.none 0 words c.args.steps.now.some c.loop-place-test.true at reach made in
          walked_set (forward d n) k values old 0 words v c.next_word.result made c.loop-place.invariant.count c.loop-place-test.true at
          (c.next_word.ensures L
          ∙ ap (λ y. cond (selected v) (combine op L left y) left) own
          ∙ ap (taken op L selected c.args.words.now v) left_is
          ∙ sym (runs v c.walked-v.ensures.within));
    }

pub returns-clause-words : goal.returns-clause-words
returns-clause-words g c =
    λ L values runs.
    let n : ℕ = length c.args.words.now in
    let d : Direction = c.args.steps.now.direction in
    let old : ℕ → ℕ = λ u. get_or c.args.words.now u 0 in
    let all : c.loop-place.place ≡ n = omega (arith, c.loop-place-test.false, c.loop-place.auto.place-end) in
    walked_all (forward d n) values old 0 c.loop-place.words (subst (λ p. Walked n (walked d n) p values old 0 c.loop-place.words) all (c.loop-place.invariant.made L values runs))
