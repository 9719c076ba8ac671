use Rattle.std.proofs.Common.{◌≡◌, ℕ, ◌+◌, ◌*◌, ◌/◌, ◌%◌, ◌^◌, ◌<◌, ◌∙◌, sym, ap, arith, List, Bool, [], length, subst}
use Rattle.std.proofs.lemmas.List.{length_push}
use Rattle.std.specs.Prelude.{slice_index}
use Rattle.paris_model.specs.Store.{bit}
use Rattle.paris_field.specs.Numbers.{AllOf, bit_in, has, number_at}
use Rattle.paris_field.proofs.Numbers.{odd_bit}
use Rattle.paris_field.proofs.Places.{all_none, all_pushed, get_or-bits_everywhere, length-bits_everywhere, number_pushed}
use Rattle.paris_scan.proofs.Spans.{digit_more, line_below}
use Rattle.paris_scan.proofs.repeated.line_planes.Goals as goal

pub loop-k-init : goal.loop-k-init
unfolding number_at
loop-k-init c =
    let n : ℕ = c.args.vps in
    let e : c.in_ok-planes.planes.items ≡ [] = c.in_ok-planes.ensures.items in
    record {
      width = ap length e;
      long = subst (λ (ps : List (List Bool)). AllOf n ps) (sym e) (all_none n);
      numbers = λ v h. omega (arith, ap (λ (ps : List (List Bool)). number_at ps v) e);
    }

pub loop-k-preserved : goal.loop-k-preserved
loop-k-preserved c =
    let k : ℕ = c.loop-k.k in
    let n : ℕ = c.args.vps in
    let ps : List (List Bool) = c.loop-k.planes.items in
    let p : List Bool = c.in_ok-plane.plane in
    let bits : List Bool = c.in_ok-bits.bits.items in
    let x : ℕ → ℕ = λ v. slice_index c.args.numbers.now (v / c.args.count) in
    let long : length p ≡ n = ap length c.in_ok-plane.ensures ∙ length-bits_everywhere n (λ v. has c.deref.result.now (v / c.args.count)) in
    record {
      width = ap length c.in_ok-push.ensures.items ∙ length_push ps p ∙ ap (λ j. j + 1) c.loop-k.invariant.width;
      long = subst (λ (qs : List (List Bool)). AllOf n qs) (sym c.in_ok-push.ensures.items) (all_pushed n ps p c.loop-k.invariant.long long);
      numbers = λ v h.
          let within : v / c.args.count < length c.args.numbers.now = line_below (length c.args.numbers.now) c.args.count v c.requires.some (omega (arith, h, c.requires.all)) in
          let digit : bit_in p v ≡ x v / 2 ^ k % 2 =
          ap (λ (l : List Bool). bit_in l v) c.in_ok-plane.ensures
          ∙ ap bit (get_or-bits_everywhere n (λ u. has c.deref.result.now (u / c.args.count)) v h
          ∙ ap (λ (bs : List Bool). has bs (v / c.args.count)) c.deref.ensures.value ∙ c.in_ok-bits.ensures.values (v / c.args.count) within)
          ∙ odd_bit (x v / 2 ^ k) in
          ap (λ qs. number_at qs v) c.in_ok-push.ensures.items ∙ number_pushed ps p v
          ∙ ap (λ t. number_at ps v + 2 ^ length ps * t) digit ∙ ap (λ j. number_at ps v + 2 ^ j * (x v / 2 ^ k % 2)) c.loop-k.invariant.width ∙ ap (λ t. t + 2 ^ k * (x v / 2 ^ k % 2)) (c.loop-k.invariant.numbers v h)
          ∙ sym (digit_more (x v) k);
    }
