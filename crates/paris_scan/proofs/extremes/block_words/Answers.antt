use Rattle.std.proofs.Common.{◌≡◌, ◌∙◌, ℕ, ◌+◌, ◌*◌, ◌<◌, Bool, false, List, ap, arith, cond, get_or, length, refl, set, subst, sym}
use Rattle.std.proofs.lemmas.List.{get_or-set_other, get_or-set_same, length-set}
use Rattle.paris_geometry.specs.declared.direction.Direction.{Direction}
use Rattle.paris_model.specs.Combine.{combine}
use Rattle.paris_model.specs.declared.operators.Combiner.{Combiner}
use Rattle.paris_field.specs.Numbers.{has}
use Rattle.paris_scan.specs.Running.{GoOn, HasBefore, HeldBefore, first_place, processors_of, taken, value_before, walked}
use Rattle.paris_scan.specs.Runs.{before}
use Rattle.paris_scan.proofs.OneByOne.{Passed, cut_same, forward, passed_all, passed_put}
use Rattle.paris_scan.proofs.Neighbours.{held_from, in_block, place_below}
use Rattle.paris_scan.proofs.extremes.block_words.Goals as goal

pub loop-place-init : goal.loop-place-init
loop-place-init g c =
    record {
      long = refl;
      others = λ v _. refl;
      made = λ L values goes. record { first = λ p h. absurd (omega (arith, h)); rest = λ p _ _. refl };
      held = λ L values goes. subst (HeldBefore (λ x. c.args.before ≡ x) c.args.steps.now.direction (length c.args.words.now) values) (omega arith) goes.held;
    }

pub loop-place-preserved : goal.loop-place-preserved
loop-place-preserved g c =
    let op : Combiner = g.E.Extreme.operator in
    let n : ℕ = length c.args.words.now in
    let d : Direction = c.args.steps.now.direction in
    let block : ℕ = c.args.block in
    let begins : ℕ → Bool = has c.args.steps.now.begins in
    let selected : ℕ → Bool = has c.args.selected.now in
    let old : ℕ → ℕ = λ u. get_or c.args.words.now u 0 in
    let words : List ℕ = c.loop-place.words in
    let count : ℕ = c.min-count.result in
    let k : ℕ = c.loop-place.place in
    let i : ℕ = c.walked-i.result in
    let v : ℕ = 64 * block + i in
    let from : ℕ = c.word_where-from.result in
    let x : ℕ = c.word_where-last.result in
    let place : ℕ = first_place d n block + k in
    let at : i ≡ walked d count k = c.walked-i.ensures.value in
    let inside : k < count = c.loop-place-test.true in
    let within : i < count = c.walked-i.ensures.within in
    let is_count : count ≡ processors_of n block = omega arith in
    let below : v < n = omega (arith, within, is_count) in
    let small : i < 64 = omega (arith, within, is_count) in
    let overall : v ≡ walked d n place =
    ap (λ j. 64 * block + j) (at ∙ ap (λ m. walked d m k) is_count) ∙ sym (in_block d n block k (omega (arith, inside, is_count))) in
    let reach : begins v ≡ false → HasBefore d 1 n v = λ none.
    subst (λ m. HasBefore d m n v) c.requires.near (subst (λ m. HasBefore d c.args.steps.now.by m v) c.requires.count (c.args.steps.now.reach v (omega (arith, below, c.requires.count)) none)) in
    let starts : c.has_bit-begins.result ≡ begins v = c.has_bit-begins.ensures ∙ c.word-starts.ensures i small (omega (arith, below, c.requires.count)) in
    let chosen : c.has_bit-is_selected.result ≡ selected v = c.has_bit-is_selected.ensures ∙ c.word-chosen.ensures i small (omega (arith, below, c.requires.selected)) in
    let Goes : ℕ → (ℕ → ℕ) → Type 0 = λ L. GoOn (λ y. c.args.before ≡ y) (taken op L selected c.args.words.now) c.args.none block d n begins in
    let held : (L : ℕ) (values : ℕ → ℕ) → Goes L values → x ≡ values v = λ L values goes.
    let here : get_or words v 0 ≡ old v =
    ap (λ j. get_or words (64 * block + j) 0) at ∙ (c.loop-place.invariant.made L values goes).rest k (omega arith) inside ∙ ap (λ j. old (64 * block + j)) (sym at) in
    let from_is : from ≡ value_before c.args.none d 1 begins values v =
    c.word_where-from.ensures ∙ ap (λ t. cond t c.args.none c.loop-place.last) starts
    ∙ cut_same (begins v) c.args.none c.loop-place.last (values (before d 1 v))
    (held_from (λ y. c.loop-place.last ≡ y) d n place v begins values (place_below d n block k (omega (arith, inside, is_count))) overall reach (c.loop-place.invariant.held L values goes)) in
    c.word_where-last.ensures
    ∙ ap (λ w. cond c.has_bit-is_selected.result w from) (c.one_of-word.ensures L)
    ∙ ap (λ t. cond t (combine op L from (get_or words v 0)) from) chosen
    ∙ ap (λ y. cond (selected v) (combine op L from y) from) here
    ∙ ap (taken op L selected c.args.words.now v) from_is
    ∙ sym (goes.runs i (omega (arith, within, is_count))) in
    record {
      long = length-set words v x ∙ c.loop-place.invariant.long;
      others = λ u other. get_or-set_other words v u x 0 (λ e. other (omega (arith, e, small))) ∙ c.loop-place.invariant.others u other;
      made = λ L values goes. passed_put (forward d count) k (λ j. values (64 * block + j)) (λ j. old (64 * block + j)) (λ j. get_or words (64 * block + j) 0) (λ j. get_or (set words v x) (64 * block + j) 0) i (c.loop-place.invariant.made L values goes) inside at
          (get_or-set_same words v x 0 (omega (arith, below, c.loop-place.invariant.long)) ∙ held L values goes)
          (λ j _ e. get_or-set_other words v (64 * block + j) x 0 (omega (arith, e)));
      held = λ L values goes some. subst (λ u. x ≡ values u) (overall ∙ ap (walked d n) (omega arith)) (held L values goes);
    }

pub returns-clause-words : goal.returns-clause-words
returns-clause-words g c =
    λ L values goes i h.
    let d : Direction = c.args.steps.now.direction in
    let block : ℕ = c.args.block in
    let count : ℕ = c.min-count.result in
    let all : c.loop-place.place ≡ count = omega (arith, c.loop-place-test.false, c.loop-place.auto.place-end) in
    let made : ℕ → ℕ = λ j. values (64 * block + j) in
    let old : ℕ → ℕ = λ j. get_or c.args.words.now (64 * block + j) 0 in
    let now : ℕ → ℕ = λ j. get_or c.loop-place.words (64 * block + j) 0 in
    passed_all (forward d count) made old now (subst (λ p. Passed count (walked d count) p made old now) all (c.loop-place.invariant.made L values goes)) i (omega (arith, h))

pub returns-clause-last : goal.returns-clause-last
returns-clause-last g c =
    λ L values goes.
    let d : Direction = c.args.steps.now.direction in
    let n : ℕ = length c.args.words.now in
    let all : first_place d n c.args.block + c.loop-place.place ≡ first_place d n c.args.block + processors_of n c.args.block = omega (arith, c.loop-place-test.false, c.loop-place.auto.place-end) in
    subst (HeldBefore (λ x. c.loop-place.last ≡ x) d n values) all (c.loop-place.invariant.held L values goes)
