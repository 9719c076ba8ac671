use Rattle.std.proofs.Common.{◌≡◌, ◌∙◌, ℕ, ◌+◌, ◌*◌, ◌<◌, Bool, false, List, ap, arith, cond, get_or, length, refl, set, subst, sym}
use Rattle.std.proofs.lemmas.List.{get_or-set_other, get_or-set_same, length-set}
use Rattle.paris_geometry.specs.declared.direction.Direction.{Direction}
use Rattle.paris_field.specs.Numbers.{has}
use Rattle.paris_scan.specs.Running.{GoOn, HasBefore, HeldBefore, first_place, processors_of, value_before, walked}
use Rattle.paris_scan.specs.Runs.{before}
use Rattle.paris_scan.proofs.OneByOne.{Passed, cut_same, forward, passed_all, passed_put}
use Rattle.paris_scan.proofs.Neighbours.{held_from, in_block, place_below}
use Rattle.paris_scan.proofs.back.block_back.Goals as goal

pub loop-place-init : goal.loop-place-init
loop-place-init c =
    record {
      long = refl;
      others = λ v _. refl;
      moved = λ values goes. record { first = λ p h. absurd (omega (arith, h)); rest = λ p _ _. refl };
      held = λ values goes. subst (HeldBefore (λ x. c.args.before ≡ x) c.args.steps.now.direction (length c.args.words.now) values) (omega arith) goes.held;
    }

pub loop-place-preserved : goal.loop-place-preserved
loop-place-preserved c =
    let n : ℕ = length c.args.words.now in
    let d : Direction = c.args.steps.now.direction in
    let block : ℕ = c.args.block in
    let begins : ℕ → Bool = has c.args.steps.now.begins in
    let old : ℕ → ℕ = λ u. get_or c.args.words.now u 0 in
    let words : List ℕ = c.loop-place.words in
    let count : ℕ = c.min-count.result in
    let k : ℕ = c.loop-place.place in
    let i : ℕ = c.walked-i.result in
    let v : ℕ = 64 * block + i in
    let x : ℕ = c.word_where-shown.result in
    let place : ℕ = first_place d n block + k in
    let at : i ≡ walked d count k = c.walked-i.ensures.value in
    let inside : k < count = c.loop-place-test.true in
    let within : i < count = c.walked-i.ensures.within in
    let is_count : count ≡ processors_of n block = omega arith in
    let below : v < n = omega (arith, within, is_count) in
    let small : i < 64 = omega (arith, within, is_count) in
    let overall : v ≡ walked d n place =
    ap (λ j. 64 * block + j) (at ∙ ap (λ m. walked d m k) is_count) ∙ sym (in_block d n block k (omega (arith, inside, is_count))) in
    let reach : begins v ≡ false → HasBefore d 1 n v = λ none.
    subst (λ m. HasBefore d m n v) c.requires.near (subst (λ m. HasBefore d c.args.steps.now.by m v) c.requires.count (c.args.steps.now.reach v (omega (arith, below, c.requires.count)) none)) in
    let starts : c.has_bit-begins.result ≡ begins v = c.has_bit-begins.ensures ∙ c.word-starts.ensures i small (omega (arith, below, c.requires.count)) in
    let Goes : (ℕ → ℕ) → Type 0 = GoOn (λ y. c.args.before ≡ y) (λ u _. old u) c.args.none block d n begins in
    let there : (values : ℕ → ℕ) → Goes values → get_or words v 0 ≡ values v = λ values goes.
    ap (λ j. get_or words (64 * block + j) 0) at ∙ (c.loop-place.invariant.moved values goes).rest k (omega arith) inside ∙ ap (λ j. old (64 * block + j)) (sym at)
    ∙ sym (goes.runs i (omega (arith, within, is_count))) in
    let made : (values : ℕ → ℕ) → Goes values → x ≡ value_before c.args.none d 1 begins values v = λ values goes.
    c.word_where-shown.ensures ∙ ap (λ t. cond t c.args.none c.loop-place.last) starts
    ∙ cut_same (begins v) c.args.none c.loop-place.last (values (before d 1 v))
    (held_from (λ y. c.loop-place.last ≡ y) d n place v begins values (place_below d n block k (omega (arith, inside, is_count))) overall reach (c.loop-place.invariant.held values goes)) in
    record {
      long = length-set words v x ∙ c.loop-place.invariant.long;
      others = λ u other. get_or-set_other words v u x 0 (λ e. other (omega (arith, e, small))) ∙ c.loop-place.invariant.others u other;
      moved = λ values goes. passed_put (forward d count) k (λ j. value_before c.args.none d 1 begins values (64 * block + j)) (λ j. old (64 * block + j)) (λ j. get_or words (64 * block + j) 0) (λ j. get_or (set words v x) (64 * block + j) 0) i (c.loop-place.invariant.moved values goes) inside at
          (get_or-set_same words v x 0 (omega (arith, below, c.loop-place.invariant.long)) ∙ made values goes)
          (λ j _ e. get_or-set_other words v (64 * block + j) x 0 (omega (arith, e)));
      held = λ values goes some. subst (λ u. get_or words v 0 ≡ values u) (overall ∙ ap (walked d n) (omega arith)) (there values goes);
    }

pub returns-clause-words : goal.returns-clause-words
returns-clause-words c =
    λ values goes i h.
    let d : Direction = c.args.steps.now.direction in
    let block : ℕ = c.args.block in
    let count : ℕ = c.min-count.result in
    let all : c.loop-place.place ≡ count = omega (arith, c.loop-place-test.false, c.loop-place.auto.place-end) in
    let made : ℕ → ℕ = λ j. value_before c.args.none d 1 (has c.args.steps.now.begins) values (64 * block + j) in
    let old : ℕ → ℕ = λ j. get_or c.args.words.now (64 * block + j) 0 in
    let now : ℕ → ℕ = λ j. get_or c.loop-place.words (64 * block + j) 0 in
    passed_all (forward d count) made old now (subst (λ p. Passed count (walked d count) p made old now) all (c.loop-place.invariant.moved values goes)) i (omega (arith, h))

pub returns-clause-last : goal.returns-clause-last
returns-clause-last c =
    λ values goes.
    let d : Direction = c.args.steps.now.direction in
    let n : ℕ = length c.args.words.now in
    let all : first_place d n c.args.block + c.loop-place.place ≡ first_place d n c.args.block + processors_of n c.args.block = omega (arith, c.loop-place-test.false, c.loop-place.auto.place-end) in
    subst (HeldBefore (λ x. c.loop-place.last ≡ x) d n values) all (c.loop-place.invariant.held values goes)
