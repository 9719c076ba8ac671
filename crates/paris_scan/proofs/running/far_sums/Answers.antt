use Rattle.std.proofs.Common.{◌≡◌, ◌∙◌, ℕ, ◌+◌, ◌-◌, ◌^◌, ◌<◌, ◌||◌, Bool, true, false, List, ap, arith, bit_and, cond, get_or, leb, length, subst, sym}
use Rattle.std.proofs.lemmas.List.{length-set}
use Rattle.std.proofs.lemmas.List.FromFn.{fill_by_all}
use Rattle.paris_geometry.specs.declared.direction.Direction.{Direction}
use Rattle.paris_model.specs.Store.{low}
use Rattle.paris_field.specs.Numbers.{has}
use Rattle.paris_field.proofs.Places.{plane_is}
use Rattle.paris_scan.specs.Running.{AreRunning, HasBefore, added, own_word, value_before, walked}
use Rattle.paris_scan.specs.Runs.{before}
use Rattle.paris_scan.proofs.OneByOne.{Walked, forward, low_next, made_before, over_next, walked_all, walked_kept, walked_set}
use Rattle.paris_scan.proofs.running.far_sums.Goals as goal
use Rattle.paris_scan.proofs.running.far_sums.Goals.{then-is_over, else-is_over}

pub loop-place-preserved : goal.loop-place-preserved
loop-place-preserved c =
    let n : ℕ = length c.args.words.now in
    let d : Direction = c.args.steps.now.direction in
    let by : ℕ = c.args.steps.now.by in
    let begins : ℕ → Bool = has c.args.steps.now.begins in
    let bits : ℕ = c.args.bits in
    let k : ℕ = c.loop-place.place in
    let v : ℕ = c.walked-v.result in
    let old : ℕ → ℕ = λ u. get_or c.args.words.now u 0 in
    let own : ℕ → ℕ = own_word (has c.args.selected.now) c.args.words.now in
    let low_before : ℕ = c.word_before-before.result in
    let x : ℕ = bit_and (low_before + c.own_word.result) (c.power-bound.result - 1) in
    let words : List ℕ = c.loop-place.words in
    let overflow : List Bool = c.loop-place.overflow in
    let at : v ≡ walked d n k = c.walked-v.ensures.value in
    let inside : k < n = c.loop-place-test.true in
    let reach : begins v ≡ false → HasBefore d by n v = λ none. subst (λ m. HasBefore d by m v) c.requires.count (c.args.steps.now.reach v (omega (arith, c.requires.count, c.walked-v.ensures.within)) none) in
    let Runs : (ℕ → ℕ) → Type 0 = AreRunning (added own) 0 d by n begins in
    let here : (sums : ℕ → ℕ) → Runs sums → c.own_word.result ≡ own v = λ sums runs.
    c.own_word.ensures ∙ ap (λ t. cond (has c.args.selected.now v) t 0) (ap (λ u. get_or words u 0) at ∙ (c.loop-place.invariant.low sums runs).rest k (omega arith) inside ∙ ap old (sym at)) in
    let is_low : (sums : ℕ → ℕ) → Runs sums → low_before ≡ cond (begins v) 0 (low bits (sums (before d by v))) = λ sums runs.
    c.word_before-before.ensures ∙ made_before d by n k v begins (λ u. low bits (sums u)) old 0 0 words c.args.steps.now.some inside at reach (c.loop-place.invariant.low sums runs) in
    let is_over : (sums : ℕ → ℕ) → Runs sums → c.bit_before.result ≡ cond (begins v) false (leb (2 ^ bits) (sums (before d by v))) = λ sums runs.
    c.bit_before.ensures ∙ made_before d by n k v begins (λ u. leb (2 ^ bits) (sums u)) (λ _. false) false false overflow c.args.steps.now.some inside at reach (c.loop-place.invariant.over sums runs) in
    let low_made : (sums : ℕ → ℕ) → Runs sums → x ≡ low bits (sums v) = λ sums runs.
    ap (λ p. bit_and (low_before + c.own_word.result) (p - 1)) c.power-bound.ensures
    ∙ low_next bits (sums (before d by v)) low_before c.own_word.result (begins v) (is_low sums runs)
    ∙ ap (low bits) (ap (λ y. value_before 0 d by begins sums v + y) (here sums runs) ∙ sym (runs v c.walked-v.ensures.within)) in
    let over_made : (sums : ℕ → ℕ) → Runs sums → c.is_over.result ≡ leb (2 ^ bits) (sums v) = λ sums runs.
    c.is_over.ensures ∙ ap (λ p. c.bit_before.result || leb p (low_before + c.own_word.result)) c.power-bound.ensures
    ∙ over_next bits (sums (before d by v)) low_before c.own_word.result (begins v) c.bit_before.result (is_low sums runs) (is_over sums runs)
    ∙ ap (leb (2 ^ bits)) (ap (λ y. value_before 0 d by begins sums v + y) (here sums runs) ∙ sym (runs v c.walked-v.ensures.within)) in
    record {
      count = length-set words v x ∙ c.loop-place.invariant.count;
      long = elim c.if-is_over.branch [
        | then-is_over w ↦ ap length (w.overflow-is ∙ w.set.ensures) ∙ length-set overflow v true ∙ c.loop-place.invariant.long
        | else-is_over w ↦ ap length w.overflow-is ∙ c.loop-place.invariant.long
      ];
      low = λ sums runs. walked_set (forward d n) k (λ u. low bits (sums u)) old 0 words v x (c.loop-place.invariant.low sums runs) c.loop-place.invariant.count inside at (low_made sums runs);
      over = λ sums runs. elim c.if-is_over.branch [
        | then-is_over w ↦
            subst (λ (l : List Bool). Walked n (walked d n) (k + 1) (λ u. leb (2 ^ bits) (sums u)) (λ _. false) false l) (sym (w.overflow-is ∙ w.set.ensures))
            (walked_set (forward d n) k (λ u. leb (2 ^ bits) (sums u)) (λ _. false) false overflow v true (c.loop-place.invariant.over sums runs) c.loop-place.invariant.long inside at (sym w.if-is_over.true ∙ over_made sums runs))
        | else-is_over w ↦
            subst (λ (l : List Bool). Walked n (walked d n) (k + 1) (λ u. leb (2 ^ bits) (sums u)) (λ _. false) false l) (sym w.overflow-is)
            (walked_kept k (λ u. leb (2 ^ bits) (sums u)) (λ _. false) false overflow (c.loop-place.invariant.over sums runs) inside (sym w.if-is_over.false ∙ over_made sums runs ∙ ap (λ u. leb (2 ^ bits) (sums u)) at))
      ];
    }

pub returns-clause-words : goal.returns-clause-words
returns-clause-words c =
    λ sums runs.
    let n : ℕ = length c.args.words.now in
    let d : Direction = c.args.steps.now.direction in
    let made : ℕ → ℕ = λ u. low c.args.bits (sums u) in
    let old : ℕ → ℕ = λ u. get_or c.args.words.now u 0 in
    let all : c.loop-place.place ≡ n = omega (arith, c.loop-place-test.false, c.loop-place.auto.place-end) in
    fill_by_all made c.loop-place.words n 0 c.loop-place.invariant.count
    (walked_all (forward d n) made old 0 c.loop-place.words (subst (λ p. Walked n (walked d n) p made old 0 c.loop-place.words) all (c.loop-place.invariant.low sums runs)))

pub returns-clause-overflow : goal.returns-clause-overflow
returns-clause-overflow c =
    λ sums runs.
    let n : ℕ = length c.args.words.now in
    let d : Direction = c.args.steps.now.direction in
    let made : ℕ → Bool = λ u. leb (2 ^ c.args.bits) (sums u) in
    let all : c.loop-place.place ≡ n = omega (arith, c.loop-place-test.false, c.loop-place.auto.place-end) in
    plane_is c.loop-place.overflow n made c.loop-place.invariant.long
    (walked_all (forward d n) made (λ _. false) false c.loop-place.overflow (subst (λ p. Walked n (walked d n) p made (λ _. false) false c.loop-place.overflow) all (c.loop-place.invariant.over sums runs)))
