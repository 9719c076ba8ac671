use Rattle.std.proofs.Common.{◌≡◌, ◌<◌, ◌-◌, rules, arith, refl, add-one, get_or, length, min}
use Rattle.paris_text.proofs.NumberLemmas.{digit_at, more_digits, eighteen_digits}
use Rattle.paris_text.proofs.WordLemmas.{value_step}
use Rattle.paris_text.proofs.words.value_of_first_digits.Goals as goal

pub loop-i-init : goal.loop-i-init
loop-i-init c = record { same = refl; small = omega arith }

pub overflow_mul-value : goal.overflow_mul-value
overflow_mul-value c =
    let few = eighteen_digits c.loop-i.value c.loop-i.i c.loop-i.invariant.small (omega (arith, c.loop-i-test.true, c.min-i-end.ensures)) in
    omega (arith, few)

pub overflow_add-value : goal.overflow_add-value
overflow_add-value c =
    let few = eighteen_digits c.loop-i.value c.loop-i.i c.loop-i.invariant.small (omega (arith, c.loop-i-test.true, c.min-i-end.ensures)) in
    let digit = digit_at c.args.word.now c.loop-i.i c.requires (omega (arith, c.loop-i-test.true, c.min-i-end.ensures)) in
    omega (arith, few, digit.1, c.saturating_sub.ensures, c.from.ensures)

pub loop-i-preserved : goal.loop-i-preserved
loop-i-preserved c =
    let within : c.loop-i.i < length c.args.word.now = omega (arith, c.loop-i-test.true, c.min-i-end.ensures) in
    let digit = digit_at c.args.word.now c.loop-i.i c.requires within in
    let is : c.from.result ≡ get_or c.args.word.now c.loop-i.i 0 - 48 = search rules in
    record {
      same = rw (is, ← value_step c.args.word.now c.loop-i.i c.loop-i.value within) c.loop-i.invariant.same;
      small = rw (is, add-one) (more_digits c.loop-i.value c.loop-i.i (get_or c.args.word.now c.loop-i.i 0) c.loop-i.invariant.small digit.1);
    }

pub returns : goal.returns
returns c =
    let end : c.loop-i.i ≡ min (length c.args.word.now) 19 = omega (arith, c.loop-i-test.false, c.loop-i.auto.i-end, c.min-i-end.ensures) in
    rw (← end) c.loop-i.invariant.same
