use Rattle.std.proofs.Common.{◌≡◌, [], ◌+◌, None, Some, length, drop, option_map, nat_eq, arith, rules, tests, refl, ap, ◌∙◌}
use Rattle.std.specs.List.{slice_split}
use Rattle.std.proofs.lemmas.List.{length_push, drop_all}
use Rattle.std.proofs.lemmas.Iterator.Splits.{YieldsList-from_slice_split}
use Rattle.std.proofs.lemmas.Iterator.Consumers.{YieldsList-turn, YieldsList-end}
use Rattle.paris_text.specs.Words.{number_word, numbers_of_words}
use Rattle.paris_text.proofs.WordLemmas.{numbers_stop, numbers_more}
use Rattle.paris_text.proofs.RoomLemmas.{lengths_on}
use Rattle.paris_text.proofs.words.count_axes.Goals as goal

pub returns-in_default : goal.returns-in_default
returns-in_default c =
    let parts = YieldsList-from_slice_split _ (λ b. nat_eq b 120) c.args.word.now (cc) (cc) (cc) (λ x r q k. search (rules, tests)) in
    let turn = YieldsList-turn parts c.loop-part.yielded _ c.loop-part.yielded_by _ _ c.in-Some.part c.in-Some.is c.next.ensures.steps in
    let none : number_word c.in-Some.part.now ≡ None = cc in
    let stop = numbers_stop (slice_split (λ b. nat_eq b 120) c.args.word.now) _ _ turn.0 turn.1 none in
    rw (c.loop-part.invariant.3, stop) refl

pub loop-part-preserved : goal.loop-part-preserved
loop-part-preserved c =
    let parts = YieldsList-from_slice_split _ (λ b. nat_eq b 120) c.args.word.now (cc) (cc) (cc) (λ x r q k. search (rules, tests)) in
    let turn = YieldsList-turn parts c.loop-part.yielded _ c.loop-part.yielded_by _ _ c.in-Some.part c.in-Some.is c.next.ensures.steps in
    let all = slice_split (λ b. nat_eq b 120) c.args.word.now in
    let n = c.in-Some-number_of_word.field-0 in
    let some : number_word c.in-Some.part.now ≡ Some n = cc in
    let more = numbers_more all _ _ n turn.0 turn.1 some in
    let later = numbers_of_words (drop (length c.loop-part.yielded + 1) all) in
    let same = c.loop-part.invariant.3 ∙ ap (λ (o : _). option_map (λ vs. c.loop-part.count + length vs) o) more ∙ lengths_on c.loop-part.count n later in
    (search rules, search rules, rw length_push (ap (λ k. k + 1) c.loop-part.invariant.2), rw length_push same)

pub returns : goal.returns
returns c =
    let parts = YieldsList-from_slice_split _ (λ b. nat_eq b 120) c.args.word.now (cc) (cc) (cc) (λ x r q k. search (rules, tests)) in
    let end = YieldsList-end parts c.loop-part.yielded _ c.loop-part.yielded_by _ _ c.in-None.is c.next.ensures.steps in
    let all = slice_split (λ b. nat_eq b 120) c.args.word.now in
    let over : drop (length c.loop-part.yielded) all ≡ [] = drop_all (length c.loop-part.yielded) all (omega (arith, end.1)) in
    let zero : c.loop-part.count ≡ c.loop-part.count + 0 = omega arith in
    rw (c.loop-part.invariant.3, over) (ap Some zero)
