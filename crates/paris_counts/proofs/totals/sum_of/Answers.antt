use Rattle.std.proofs.Common.{◌≡◌, ℕ, ◌+◌, ◌-◌, ◌<◌, ◌∙◌, arith, ap, sym, length, drop, List, Bool, []}
use Rattle.std.proofs.lemmas.List.{get_or_read}
use Rattle.paris_field.specs.Numbers.{bit_in, has, number_at, plane_at}
use Rattle.paris_field.proofs.Numbers.{none_above, number_at_from}
use Rattle.paris_counts.specs.Masked.{masked_sum}
use Rattle.paris_counts.proofs.Sums.{sum_is, sum_none, sum_twice, tops_small}
use Rattle.paris_counts.proofs.totals.sum_of.Goals as goal

pub loop-k-init : goal.loop-k-init
loop-k-init c = sym (sum_none (has c.args.mask.now) (number_at (drop (length c.args.planes.now) c.args.planes.now)) c.args.start c.args.count (λ v. none_above c.args.planes.now v))

pub overflow_mul-total : goal.overflow_mul-total
overflow_mul-total c =
    omega (arith, c.loop-k.invariant, tops_small (has c.args.mask.now) c.args.planes.now c.loop-k.k c.args.start c.args.count c.requires.narrow, c.requires.few)

pub overflow_add-total : goal.overflow_add-total
overflow_add-total c =
    omega (arith, c.loop-k.invariant, c.from.ensures, c.count_with.ensures.small, tops_small (has c.args.mask.now) c.args.planes.now c.loop-k.k c.args.start c.args.count c.requires.narrow, c.requires.few)

pub loop-k-preserved : goal.loop-k-preserved
loop-k-preserved c =
    let k : ℕ = c.loop-k.k - 1 in
    let a : ℕ = c.args.start in
    let n : ℕ = c.args.count in
    let ps : List (List Bool) = c.args.planes.now in
    let who = has c.args.mask.now in
    let x : List Bool = c.index-planes-k.result in
    let below : k < length ps = omega arith in
    let at : x ≡ plane_at ps k = get_or_read ps k x below c.index-planes-k.is [] in
    let above : masked_sum who (number_at (drop (k + 1) ps)) a n ≡ masked_sum who (number_at (drop c.loop-k.k ps)) a n = ap (λ j. masked_sum who (number_at (drop j ps)) a n) (let e : k + 1 ≡ c.loop-k.k = omega arith in e) in
    omega (arith, c.loop-k.invariant, c.from.ensures, c.count_with.ensures.value, above, sum_twice who (number_at (drop k ps)) (bit_in x) (number_at (drop (k + 1) ps)) a n (λ v _ _. number_at_from ps k v x below at))

pub returns-clause-value : goal.returns-clause-value
returns-clause-value c =
    c.loop-k.invariant
    ∙ ap (λ j. masked_sum (has c.args.mask.now) (number_at (drop j c.args.planes.now)) c.args.start c.args.count) (let e : c.loop-k.k ≡ 0 = omega arith in e)
    ∙ sum_is (has c.args.mask.now) (number_at c.args.planes.now) c.args.start c.args.count

pub returns-clause-small : goal.returns-clause-small
returns-clause-small c =
    omega (arith, c.loop-k.invariant, tops_small (has c.args.mask.now) c.args.planes.now c.loop-k.k c.args.start c.args.count c.requires.narrow)
