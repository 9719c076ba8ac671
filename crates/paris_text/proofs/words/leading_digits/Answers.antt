use Rattle.std.proofs.Common.{◌≡◌, ◌<◌, ◌-◌, ◌+◌, ◌*◌, true, take, arith, get_or, length, sym, ap, ◌∙◌, add-one}
use Rattle.paris_text.specs.Words.{is_digit, value_from}
use Rattle.paris_text.proofs.HeadLemmas.{head_digits, head_value}
use Rattle.paris_text.proofs.NumberLemmas.{digit_bounds, eighteen_digits, more_digits}
use Rattle.paris_text.proofs.words.leading_digits.Goals as goal

pub overflow_mul-value : goal.overflow_mul-value
overflow_mul-value c =
    let few = eighteen_digits c.loop-i.value c.loop-i.i c.loop-i.invariant.small (omega (arith, c.loop-i-test.true, c.min-most.ensures)) in
    omega (arith, few)

pub overflow_add-value : goal.overflow_add-value
overflow_add-value c =
    let few = eighteen_digits c.loop-i.value c.loop-i.i c.loop-i.invariant.small (omega (arith, c.loop-i-test.true, c.min-most.ensures)) in
    omega (arith, few, c.from.ensures, c.saturating_sub.type_inv)

pub loop-i-preserved : goal.loop-i-preserved
loop-i-preserved c =
    let bytes = c.args.bytes.now in
    let i = c.loop-i.i in
    let within : i < length bytes = omega (arith, c.loop-i-test.true, c.min-most.ensures) in
    let here : is_digit (get_or bytes i 0) ≡ true = sym c.is_digit.ensures ∙ c.if-not-is_digit.false in
    let is : c.from.result ≡ get_or bytes i 0 - 48 = c.from.ensures ∙ c.saturating_sub.ensures in
    record {
      digits = head_digits bytes i within c.loop-i.invariant.digits here;
      same = ap (λ n. n * 10 + c.from.result) c.loop-i.invariant.same ∙ ap (λ d. value_from 0 (take i bytes) * 10 + d) is ∙ sym (head_value bytes i within);
      small = rw (is, add-one) (more_digits c.loop-i.value i (get_or bytes i 0) c.loop-i.invariant.small (digit_bounds (get_or bytes i 0) here).1);
    }
