use Rattle.std.proofs.Common.{◌≡◌, ◌∙◌, ℕ, ◌+◌, ◌-◌, ◌*◌, ◌^◌, ◌<◌, Bool, true, false, List, ap, arith, cond, get_or, inl, inr, leb, length, refl, set, subst, sym}
use Rattle.std.proofs.lemmas.Bool.{cases_eq}
use Rattle.std.proofs.lemmas.List.{get_or-set_other, get_or-set_same, length-set}
use Rattle.paris_geometry.specs.declared.direction.Direction.{Direction}
use Rattle.paris_model.specs.Store.{low}
use Rattle.paris_plane.specs.Bits.{word_bit}
use Rattle.paris_plane.specs.Words.{zero_bit}
use Rattle.paris_field.specs.Numbers.{has}
use Rattle.paris_scan.specs.Running.{GoOn, HasBefore, HeldBefore, IsKept, added, first_place, own_word, processors_of, walked}
use Rattle.paris_scan.specs.Runs.{before}
use Rattle.paris_scan.proofs.OneByOne.{Passed, forward, passed_all, passed_put}
use Rattle.paris_scan.proofs.Neighbours.{held_from, in_block, place_below}
use Rattle.paris_scan.proofs.near.block_sums.Goals as goal

pub loop-place-init : goal.loop-place-init
loop-place-init c =
    record {
      long = refl;
      others = λ v _. refl;
      clear = λ p _ h. zero_bit (walked c.args.steps.now.direction c.min-count.result p) (omega (arith, (forward c.args.steps.now.direction c.min-count.result).within p h));
      low = λ sums goes. record { first = λ p h. absurd (omega (arith, h)); rest = λ p _ _. refl };
      over = λ sums goes p h. absurd (omega (arith, h));
      kept = λ sums goes. subst (λ p. HeldBefore (IsKept c.args.bits c.args.before.low c.args.before.over) c.args.steps.now.direction (length c.args.words.now) sums p) (omega arith) goes.held;
    }

pub with_bit-over-requires-clause-clear : goal.with_bit-over-requires-clause-clear
with_bit-over-requires-clause-clear c =
    ap (word_bit c.loop-place.over) c.walked-i.ensures.value ∙ c.loop-place.invariant.clear c.loop-place.place (omega arith) c.loop-place-test.true

pub loop-place-preserved : goal.loop-place-preserved
loop-place-preserved c =
    let n : ℕ = length c.args.words.now in
    let d : Direction = c.args.steps.now.direction in
    let bits : ℕ = c.args.bits in
    let block : ℕ = c.args.block in
    let begins : ℕ → Bool = has c.args.steps.now.begins in
    let selected : ℕ → Bool = has c.args.selected.now in
    let old : ℕ → ℕ = λ u. get_or c.args.words.now u 0 in
    let words : List ℕ = c.loop-place.words in
    let count : ℕ = c.min-count.result in
    let k : ℕ = c.loop-place.place in
    let i : ℕ = c.walked-i.result in
    let v : ℕ = 64 * block + i in
    let x : ℕ = c.with_word-sum.result.low in
    let place : ℕ = first_place d n block + k in
    let at : i ≡ walked d count k = c.walked-i.ensures.value in
    let inside : k < count = c.loop-place-test.true in
    let within : i < count = c.walked-i.ensures.within in
    let is_count : count ≡ processors_of n block = omega arith in
    let below : v < n = omega (arith, within, is_count) in
    let small : i < 64 = omega (arith, within, is_count) in
    let overall : v ≡ walked d n place =
    ap (λ j. 64 * block + j) (at ∙ ap (λ m. walked d m k) is_count) ∙ sym (in_block d n block k (omega (arith, inside, is_count))) in
    let reach : begins v ≡ false → HasBefore d 1 n v = λ none.
    subst (λ m. HasBefore d m n v) c.requires.near (subst (λ m. HasBefore d c.args.steps.now.by m v) c.requires.count (c.args.steps.now.reach v (omega (arith, below, c.requires.count)) none)) in
    let starts : c.has_bit-begins.result ≡ begins v = c.has_bit-begins.ensures ∙ c.word-starts.ensures i small (omega (arith, below, c.requires.count)) in
    let chosen : c.has_bit-is_selected.result ≡ selected v = c.has_bit-is_selected.ensures ∙ c.word-chosen.ensures i small (omega (arith, below, c.requires.selected)) in
    let Goes : (ℕ → ℕ) → Type 0 = GoOn (IsKept bits c.args.before.low c.args.before.over) (added (own_word selected c.args.words.now)) 0 block d n begins in
    let kept : (sums : ℕ → ℕ) → Goes sums → IsKept bits x c.with_word-sum.result.over (sums v) = λ sums goes.
    let last : ℕ = sums (before d 1 v) in
    let here : get_or words v 0 ≡ old v =
    ap (λ j. get_or words (64 * block + j) 0) at ∙ (c.loop-place.invariant.low sums goes).rest k (omega arith) inside ∙ ap (λ j. old (64 * block + j)) (sym at) in
    let is : cond c.has_bit-begins.result 0 last + cond c.has_bit-is_selected.result (get_or words v 0) 0 ≡ sums v =
    ap (λ t. cond t 0 last + cond c.has_bit-is_selected.result (get_or words v 0) 0) starts
    ∙ ap (λ t. cond (begins v) 0 last + cond t (get_or words v 0) 0) chosen
    ∙ ap (λ w. cond (begins v) 0 last + cond (selected v) w 0) here
    ∙ sym (goes.runs i (omega (arith, within, is_count))) in
    subst (IsKept bits x c.with_word-sum.result.over) is
    (c.with_word-sum.ensures (cond c.has_bit-begins.result 0 last)
    (c.going_on-from.ensures bits last (λ none. held_from (IsKept bits c.loop-place.sum.low c.loop-place.sum.over) d n place v begins sums (place_below d n block k (omega (arith, inside, is_count))) overall reach (c.loop-place.invariant.kept sums goes) (sym starts ∙ none)))) in
    record {
      long = length-set words v x ∙ c.loop-place.invariant.long;
      others = λ u other. get_or-set_other words v u x 0 (λ e. other (omega (arith, e, small))) ∙ c.loop-place.invariant.others u other;
      clear = λ p above h. c.with_bit-over.ensures.others (walked d count p) (λ e. (forward d count).apart k p (omega (arith, above)) h (sym (e ∙ at))) ∙ c.loop-place.invariant.clear p (omega (arith, above)) h;
      low = λ sums goes. passed_put (forward d count) k (λ j. low bits (sums (64 * block + j))) (λ j. old (64 * block + j)) (λ j. get_or words (64 * block + j) 0) (λ j. get_or (set words v x) (64 * block + j) 0) i (c.loop-place.invariant.low sums goes) inside at
          (get_or-set_same words v x 0 (omega (arith, below, c.loop-place.invariant.long)) ∙ (kept sums goes).0)
          (λ j _ e. get_or-set_other words v (64 * block + j) x 0 (omega (arith, e)));
      over = λ sums goes p h. elim (cases_eq p k) [
        | inl e ↦ let same : walked d count p ≡ i = ap (walked d count) e ∙ sym at in
            ap (word_bit c.with_bit-over.result) same ∙ c.with_bit-over.ensures.here ∙ (kept sums goes).1 ∙ ap (λ j. leb (2 ^ bits) (sums (64 * block + j))) (sym same)
        | inr apart ↦ c.with_bit-over.ensures.others (walked d count p) (λ e. (forward d count).apart p k (omega (arith, h, apart)) inside (e ∙ at)) ∙ c.loop-place.invariant.over sums goes p (omega (arith, h, apart))
      ];
      kept = λ sums goes some. subst (λ u. IsKept bits x c.with_word-sum.result.over (sums u)) (overall ∙ ap (walked d n) (omega arith)) (kept sums goes);
    }

pub returns-clause-words : goal.returns-clause-words
returns-clause-words c =
    λ sums goes i h.
    let d : Direction = c.args.steps.now.direction in
    let block : ℕ = c.args.block in
    let count : ℕ = c.min-count.result in
    let all : c.loop-place.place ≡ count = omega (arith, c.loop-place-test.false, c.loop-place.auto.place-end) in
    let made : ℕ → ℕ = λ j. low c.args.bits (sums (64 * block + j)) in
    let old : ℕ → ℕ = λ j. get_or c.args.words.now (64 * block + j) 0 in
    let now : ℕ → ℕ = λ j. get_or c.loop-place.words (64 * block + j) 0 in
    passed_all (forward d count) made old now (subst (λ p. Passed count (walked d count) p made old now) all (c.loop-place.invariant.low sums goes)) i (omega (arith, h))

pub returns-clause-over : goal.returns-clause-over
returns-clause-over c =
    λ sums goes i h.
    let d : Direction = c.args.steps.now.direction in
    let count : ℕ = c.min-count.result in
    let below : i < count = omega (arith, h) in
    let twice : walked d count (walked d count i) ≡ i = (forward d count).twice i below in
    ap (word_bit c.loop-place.over) (sym twice)
    ∙ c.loop-place.invariant.over sums goes (walked d count i) (let w : walked d count i < count = (forward d count).within i below in omega (arith, w, c.loop-place-test.false, c.loop-place.auto.place-end))
    ∙ ap (λ j. leb (2 ^ c.args.bits) (sums (64 * c.args.block + j))) twice

pub returns-clause-last : goal.returns-clause-last
returns-clause-last c =
    λ sums goes.
    let d : Direction = c.args.steps.now.direction in
    let n : ℕ = length c.args.words.now in
    let all : first_place d n c.args.block + c.loop-place.place ≡ first_place d n c.args.block + processors_of n c.args.block = omega (arith, c.loop-place-test.false, c.loop-place.auto.place-end) in
    subst (λ p. HeldBefore (IsKept c.args.bits c.loop-place.sum.low c.loop-place.sum.over) d n sums p) all (c.loop-place.invariant.kept sums goes)
