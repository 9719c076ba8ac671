use Rattle.std.proofs.Common.{◌≡◌, ℕ, ◌+◌, ◌-◌, ◌<◌, ◌∙◌, List, Bool, [], false, ap, arith, drop, get_or, length, refl}
use Rattle.std.specs.Prelude.{fold}
use Rattle.std.specs.List.{filter, range_with_len}
use Rattle.std.specs.Int.Bits.{bit_or}
use Rattle.std.proofs.lemmas.List.{get_or_read}
use Rattle.std.proofs.lemmas.Nat.{or_block}
use lib.Pow.{pow_pos}
use Rattle.paris_model.specs.Lines.{values_where}
use Rattle.paris_field.specs.Numbers.{bit_in, has, number_at, plane_at}
use Rattle.paris_field.proofs.Numbers.{below_two}
use Rattle.paris_counts.proofs.Digits.{or_closed, or_of_digits}
use Rattle.paris_counts.proofs.Sums.{sum_is}
use Rattle.paris_counts.proofs.Rises.{has_room, none_folded, one_more, rises}
use Rattle.paris_counts.proofs.totals.or_of.Goals as goal

pub loop-k-init : goal.loop-k-init
loop-k-init c = record { value = none_folded bit_or refl (has c.args.mask.now) c.args.planes.now c.args.start c.args.count; small = pow_pos (length c.args.planes.now - length c.args.planes.now) }

pub overflow_mul-total : goal.overflow_mul-total
overflow_mul-total c = omega (arith, has_room (length c.args.planes.now) c.loop-k.k c.loop-k.total 0 (omega arith) (omega arith) c.requires.narrow c.loop-k.invariant.small (omega arith))

pub overflow_add-total : goal.overflow_add-total
overflow_add-total c =
    let digit : c.from.result < 2 = omega (arith, c.from.ensures, c.min.ensures) in
    omega (arith, has_room (length c.args.planes.now) c.loop-k.k c.loop-k.total c.from.result (omega arith) (omega arith) c.requires.narrow c.loop-k.invariant.small digit)

pub loop-k-preserved : goal.loop-k-preserved
loop-k-preserved c =
    let k : ℕ = c.loop-k.k - 1 in
    let a : ℕ = c.args.start in
    let n : ℕ = c.args.count in
    let ps : List (List Bool) = c.args.planes.now in
    let who = has c.args.mask.now in
    let x : List Bool = c.index-planes-k.result in
    let below : k < length ps = omega arith in
    let at : x ≡ plane_at ps k = get_or_read ps k x below c.index-planes-k.is [] in
    let before : c.loop-k.total ≡ fold bit_or 0 (values_where who (number_at (drop (k + 1) ps)) (range_with_len a n)) =
    c.loop-k.invariant.value ∙ ap (λ j. fold bit_or 0 (values_where who (number_at (drop j ps)) (range_with_len a n))) (let e : c.loop-k.k ≡ k + 1 = omega arith in e) in
    let digit : c.from.result < 2 = omega (arith, c.from.ensures, c.min.ensures) in
    record {
      value = omega (
        arith,
        c.from.ensures,
        c.min.ensures,
        c.count_with-ones.ensures.value,
        sum_is who (bit_in x) a n,
        or_of_digits (bit_in x) (λ u. below_two (get_or x u false)) (filter who (range_with_len a n)) 0 (omega arith),
        one_more bit_or (or_block 1) or_closed who ps k a n c.loop-k.total x below at before,
      );
      small = rises (length ps) c.loop-k.k c.loop-k.total c.from.result (omega arith) (omega arith) c.loop-k.invariant.small digit;
    }
