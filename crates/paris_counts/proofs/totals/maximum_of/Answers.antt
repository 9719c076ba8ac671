use Rattle.std.proofs.Common.{◌≡◌, ℕ, ◌+◌, ◌-◌, ◌<◌, ◌∙◌, List, Bool, [], ap, arith, drop, length, refl, subst, sym}
use Rattle.std.proofs.lemmas.List.{get_or_read}
use lib.Pow.{pow_pos}
use Rattle.paris_field.specs.Numbers.{has, number_at, plane_at}
use Rattle.paris_field.proofs.Numbers.{below_two, none_above, number_at_from}
use Rattle.paris_counts.proofs.Rises.{has_room, rises}
use Rattle.paris_counts.proofs.Tops.{Candidates, byte_bit, first_candidates, next_candidates, top, top_is, top_zero}
use Rattle.paris_counts.proofs.totals.maximum_of.Goals as goal

pub loop-k-init : goal.loop-k-init
loop-k-init c =
    let ps : List (List Bool) = c.args.planes.now in
    let who = has c.args.candidates.now in
    record {
      value = top_zero who (number_at (drop (length ps) ps)) c.args.start c.args.count (none_above ps);
      small = pow_pos (length ps - length ps);
      long = refl;
      left = first_candidates who who (number_at (drop (length ps) ps)) c.args.start c.args.count (λ v. refl) (none_above ps);
      behind = λ v l u. refl;
    }

pub narrowed-found-requires-clause-same : goal.narrowed-found-requires-clause-same
narrowed-found-requires-clause-same c =
    let k : ℕ = c.loop-k.k - 1 in
    let below : k < length c.args.planes.now = omega arith in
    ap length (get_or_read c.args.planes.now k c.index-planes-k.result below c.index-planes-k.is []) ∙ c.requires.long k below ∙ sym c.loop-k.invariant.long

pub narrowed-found-requires-clause-within : goal.narrowed-found-requires-clause-within
narrowed-found-requires-clause-within c = omega (arith, c.loop-k.invariant.long, c.requires.within)

pub overflow_mul-total : goal.overflow_mul-total
overflow_mul-total c = omega (arith, has_room (length c.args.planes.now) c.loop-k.k c.loop-k.total 0 (omega arith) (omega arith) c.requires.narrow c.loop-k.invariant.small (omega arith))

pub overflow_add-total : goal.overflow_add-total
overflow_add-total c =
    let digit : c.from.result < 2 = omega (arith, c.from.ensures, byte_bit c.narrowed-found.result, below_two c.narrowed-found.result) in
    omega (arith, has_room (length c.args.planes.now) c.loop-k.k c.loop-k.total c.from.result (omega arith) (omega arith) c.requires.narrow c.loop-k.invariant.small digit)

pub loop-k-preserved : goal.loop-k-preserved
loop-k-preserved c =
    let k : ℕ = c.loop-k.k - 1 in
    let a : ℕ = c.args.start in
    let n : ℕ = c.args.count in
    let ps : List (List Bool) = c.args.planes.now in
    let who = has c.args.candidates.now in
    let cand = has c.loop-k.candidates in
    let cand' = has c.narrowed-found.new.candidates in
    let x : List Bool = c.index-planes-k.result in
    let below : k < length ps = omega arith in
    let at : x ≡ plane_at ps k = get_or_read ps k x below c.index-planes-k.is [] in
    let e : c.loop-k.k ≡ k + 1 = omega arith in
    let before : c.loop-k.total ≡ top who (number_at (drop (k + 1) ps)) a n = c.loop-k.invariant.value ∙ ap (λ j. top who (number_at (drop j ps)) a n) e in
    let here : Candidates cand who (number_at (drop (k + 1) ps)) c.loop-k.total a n = subst (λ j. Candidates cand who (number_at (drop j ps)) c.loop-k.total a n) e c.loop-k.invariant.left in
    let digit : c.from.result < 2 = omega (arith, c.from.ensures, byte_bit c.narrowed-found.result, below_two c.narrowed-found.result) in
    let next = next_candidates c.narrowed-found.result cand cand' who (has x) (number_at (drop (k + 1) ps)) (number_at (drop k ps)) c.loop-k.total a n c.from.result before (λ v. number_at_from ps k v x below at) here
    c.narrowed-found.ensures.found
    (c.from.ensures ∙ byte_bit c.narrowed-found.result)
    c.narrowed-found.ensures.kept in
    record {
      value = next.0;
      small = rises (length ps) c.loop-k.k c.loop-k.total c.from.result (omega arith) (omega arith) c.loop-k.invariant.small digit;
      long = c.narrowed-found.ensures.long ∙ c.loop-k.invariant.long;
      left = next.1;
      behind = λ v l u. c.narrowed-found.ensures.behind v l (omega (arith, u, c.loop-k.invariant.long)) ∙ c.loop-k.invariant.behind v l u;
    }

pub returns-clause-value : goal.returns-clause-value
returns-clause-value c =
    let none : c.loop-k.k ≡ 0 = omega arith in
    c.loop-k.invariant.value
    ∙ ap (λ j. top (has c.args.candidates.now) (number_at (drop j c.args.planes.now)) c.args.start c.args.count) none
    ∙ top_is (has c.args.candidates.now) (number_at c.args.planes.now) c.args.start c.args.count
