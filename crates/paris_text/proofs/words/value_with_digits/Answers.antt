use Rattle.std.proofs.Common.{◌≡◌, ◌≤◌, ◌^◌, ◌+◌, ◌*◌, ◌-◌, rules, arith, refl, get_or, length, ◌<◌, drop, nat_lt, true, [], drop_of_length-le}
use Rattle.std.proofs.lemmas.Bool.Decides.{nat_tests}
use Rattle.paris_text.specs.Words.{value_from}
use Rattle.paris_text.proofs.WordLemmas.{too_big}
use Rattle.paris_text.proofs.words.value_with_digits.Goals as goal

pub returns-in_default : goal.returns-in_default
returns-in_default c =
    let within : c.loop-byte.byte-index < length c.args.word.now = search rules in
    let big : 2 ^ 128 ≤ c.loop-byte.value * 10 + (get_or c.args.word.now c.loop-byte.byte-index 0 - 48) = grind arith in
    rw (too_big _ _ _ _ _ within c.loop-byte.invariant.same big) refl

pub returns-in_default-checked_add : goal.returns-in_default-checked_add
returns-in_default-checked_add c =
    let within : c.loop-byte.byte-index < length c.args.word.now = search rules in
    let big : 2 ^ 128 ≤ c.loop-byte.value * 10 + (get_or c.args.word.now c.loop-byte.byte-index 0 - 48) = grind arith in
    rw (too_big _ _ _ _ _ within c.loop-byte.invariant.same big) refl

pub returns : goal.returns
returns c =
    let end : drop c.loop-byte.byte-index c.args.word.now ≡ [] = drop_of_length-le c.args.word.now (search rules) in
    let all : c.loop-byte.value ≡ value_from c.args.start c.args.word.now = rw end at c.loop-byte.invariant.same in
    let fits : nat_lt (value_from c.args.start c.args.word.now) (2 ^ 128) ≡ true = rw (← all) (let small = c.loop-byte.invariant.fits in grind (arith, nat_tests)) in
    rw (fits, all) refl
