use Rattle.std.proofs.Common.{◌≡◌, ℕ, ◌+◌, ◌*◌, ◌/◌, ◌%◌, ◌^◌, ◌<◌, ◌∙◌, sym, ap, arith, List, Bool, [], false, length, eqb, subst}
use Rattle.std.proofs.lemmas.List.{get_or-replicate, length-replicate, length_push}
use Rattle.paris_model.specs.Store.{bit}
use Rattle.paris_field.specs.Numbers.{AllOf, bit_in, number_at}
use Rattle.paris_field.proofs.Numbers.{double, number_at_lt, odd_bit, rest_less, sum_mod}
use Rattle.paris_field.proofs.Places.{all_none, all_pushed, number_pushed}
use Rattle.paris_field.proofs.planes.constant_layers.Goals as goal

pub loop-init : goal.loop-init
unfolding number_at
loop-init c =
    let e : c.in_ok-layers.layers.items ≡ [] = c.in_ok-layers.ensures.items in
    record {
      count = ap length e;
      long = subst (λ (ps : List (List Bool)). AllOf c.args.vps ps) (sym e) (all_none c.args.vps);
      numbers = λ v h. omega (arith, ap (λ (ps : List (List Bool)). number_at ps v) e);
    }

pub loop-preserved : goal.loop-preserved
loop-preserved c =
    let k : ℕ = c.loop.counter in
    let n : ℕ = c.args.vps in
    let rest : ℕ = c.loop.rest in
    let ps : List (List Bool) = c.loop.layers.items in
    let p : List Bool = c.filled.result in
    let b : Bool = eqb (rest % 2) 1 in
    let long : length p ≡ n = ap length c.filled.ensures ∙ length-replicate n b in
    record {
      count = ap length c.in_ok-push.ensures.items ∙ length_push ps p ∙ ap (λ j. j + 1) c.loop.invariant.count;
      long = subst (λ (qs : List (List Bool)). AllOf n qs) (sym c.in_ok-push.ensures.items) (all_pushed n ps p c.loop.invariant.long long);
      numbers = λ v h.
          let filled : bit_in p v ≡ rest % 2 = ap (λ l. bit_in l v) c.filled.ensures ∙ ap bit (get_or-replicate n v b false h) ∙ odd_bit rest in
          omega (
            arith,
            ap (λ qs. number_at qs v) c.in_ok-push.ensures.items ∙ number_pushed ps p v,
            ap (λ j. 2 ^ j * bit_in p v) c.loop.invariant.count,
            ap (λ t. 2 ^ k * t) filled,
            double k (rest / 2),
            rest_less (2 ^ k) (number_at ps v) rest c.args.number (c.loop.invariant.numbers v h),
          );
    }

pub returns-clause-numbers : goal.returns-clause-numbers
returns-clause-numbers c = λ v h.
    let ps : List (List Bool) = c.loop.layers.items in
    let whole : c.loop.counter ≡ c.args.width = omega arith in
    sum_mod (number_at ps v) (2 ^ c.args.width) c.loop.rest c.args.number
    (subst (λ w. number_at ps v < 2 ^ w) (c.loop.invariant.count ∙ whole) (number_at_lt ps v))
    (ap (λ w. number_at ps v + 2 ^ w * c.loop.rest) (sym whole) ∙ c.loop.invariant.numbers v h)
