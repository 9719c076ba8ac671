use Rattle.std.proofs.Common.{◌≡◌, ◌++◌, [], ◌+◌, None, Some, length, drop, option_map, nat_eq, arith, rules, tests, refl, sym, ap, ◌∙◌, append-nil}
use Rattle.std.specs.List.{slice_split}
use Rattle.std.proofs.lemmas.List.{length_push, drop_all}
use Rattle.std.proofs.lemmas.Iterator.Splits.{YieldsList-from_slice_split}
use Rattle.std.proofs.lemmas.Iterator.Consumers.{YieldsList-turn, YieldsList-end}
use Rattle.paris_text.specs.Words.{number_word, numbers_of_words}
use Rattle.paris_text.proofs.WordLemmas.{numbers_stop, numbers_more, numbers_on}
use Rattle.paris_text.proofs.words.axes_of_word.Goals as goal

pub returns-in_default : goal.returns-in_default
returns-in_default c =
    let parts = YieldsList-from_slice_split _ (λ b. nat_eq b 120) c.args.word.now (cc) (cc) (cc) (λ x r q k. search (rules, tests)) in
    let turn = YieldsList-turn parts c.loop-part.yielded _ c.loop-part.yielded_by _ _ c.in-Some.part c.in-Some.is c.next.ensures.steps in
    let none : number_word c.in-Some.part.now ≡ None = cc in
    let stop = numbers_stop (slice_split (λ b. nat_eq b 120) c.args.word.now) _ _ turn.0 turn.1 none in
    rw (c.loop-part.invariant.2, stop) refl

pub loop-part-preserved : goal.loop-part-preserved
loop-part-preserved c =
    let parts = YieldsList-from_slice_split _ (λ b. nat_eq b 120) c.args.word.now (cc) (cc) (cc) (λ x r q k. search (rules, tests)) in
    let turn = YieldsList-turn parts c.loop-part.yielded _ c.loop-part.yielded_by _ _ c.in-Some.part c.in-Some.is c.next.ensures.steps in
    let all = slice_split (λ b. nat_eq b 120) c.args.word.now in
    let done = c.loop-part.axes.items in
    let n = c.in-Some-number_of_word.axis in
    let some : number_word c.in-Some.part.now ≡ Some n = cc in
    let more = numbers_more all _ _ n turn.0 turn.1 some in
    let later = numbers_of_words (drop (length c.loop-part.yielded + 1) all) in
    let same = c.loop-part.invariant.2 ∙ ap (λ (o : _). option_map (λ vs. done ++ vs) o) more ∙ numbers_on done n later in
    (search rules, search rules, rw (c.in_ok-push.ensures.items, length_push) same)

pub returns : goal.returns
returns c =
    let parts = YieldsList-from_slice_split _ (λ b. nat_eq b 120) c.args.word.now (cc) (cc) (cc) (λ x r q k. search (rules, tests)) in
    let end = YieldsList-end parts c.loop-part.yielded _ c.loop-part.yielded_by _ _ c.in-None.is c.next.ensures.steps in
    let all = slice_split (λ b. nat_eq b 120) c.args.word.now in
    let over : drop (length c.loop-part.yielded) all ≡ [] = drop_all (length c.loop-part.yielded) all (omega (arith, end.1)) in
    rw (c.new.ensures, c.loop-part.invariant.2, over) (ap Some (sym (append-nil c.loop-part.axes.items)))
