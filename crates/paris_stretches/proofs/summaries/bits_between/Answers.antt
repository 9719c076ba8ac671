use Rattle.std.proofs.Common.{◌≡◌, ℕ, ◌+◌, ◌-◌, ◌^◌, ◌<◌, ◌≤◌, ◌∙◌, List, sym, subst, ap, arith, get_or, drop, length, map}
use Rattle.std.specs.List.{range_with_len, slice_range}
use Rattle.std.proofs.lemmas.List.{length-drop, length-take-le}
use Rattle.paris_field.specs.Fields.{AllFit}
use Rattle.paris_field.specs.Numbers.{number_at}
use Rattle.paris_field.proofs.Values.{all_fit}
use Rattle.paris_stretches.specs.Stretches.{count_others}
use Rattle.paris_stretches.proofs.Spans.{part_fits, part_is}
use Rattle.paris_stretches.proofs.summaries.bits_between.Goals as goal

pub returns-clause-least : goal.returns-clause-least
returns-clause-least c =
    let xs : List ℕ = c.args.value.now.numbers in
    let start : ℕ = c.args.start in
    let stop : ℕ = c.args.stop in
    let part : List ℕ = slice_range xs start stop in
    let ones : c.count_between-ones.result ≡ count_others part = c.count_between-ones.ensures ∙ ap count_others (sym (part_is (number_at c.planes.result.now) xs start stop start (omega (arith, c.requires.some)) c.requires.within (λ i h. sym (c.planes.ensures.at (start + i) (omega (arith, h, c.requires.within)))))) in
    let fit : AllFit 1 part = part_fits 1 xs start stop (subst (λ w. AllFit w xs) c.requires.width (all_fit (length xs) c.planes.result.now c.planes.ensures.value)) in
    let long : length part ≡ stop - start = length-take-le (stop - start) (drop start xs) (omega (arith, length-drop start xs, c.requires.within)) in
    c.summary_of_bits.ensures.least part fit (omega (arith, long, c.requires.some)) long (sym ones)

pub returns-clause-greatest : goal.returns-clause-greatest
returns-clause-greatest c =
    let xs : List ℕ = c.args.value.now.numbers in
    let start : ℕ = c.args.start in
    let stop : ℕ = c.args.stop in
    let part : List ℕ = slice_range xs start stop in
    let ones : c.count_between-ones.result ≡ count_others part = c.count_between-ones.ensures ∙ ap count_others (sym (part_is (number_at c.planes.result.now) xs start stop start (omega (arith, c.requires.some)) c.requires.within (λ i h. sym (c.planes.ensures.at (start + i) (omega (arith, h, c.requires.within)))))) in
    c.summary_of_bits.ensures.greatest part (part_fits 1 xs start stop (subst (λ w. AllFit w xs) c.requires.width (all_fit (length xs) c.planes.result.now c.planes.ensures.value))) (sym ones)

pub returns-clause-sum : goal.returns-clause-sum
returns-clause-sum c =
    let xs : List ℕ = c.args.value.now.numbers in
    let start : ℕ = c.args.start in
    let stop : ℕ = c.args.stop in
    let part : List ℕ = slice_range xs start stop in
    let ones : c.count_between-ones.result ≡ count_others part = c.count_between-ones.ensures ∙ ap count_others (sym (part_is (number_at c.planes.result.now) xs start stop start (omega (arith, c.requires.some)) c.requires.within (λ i h. sym (c.planes.ensures.at (start + i) (omega (arith, h, c.requires.within)))))) in
    c.summary_of_bits.ensures.sum part (part_fits 1 xs start stop (subst (λ w. AllFit w xs) c.requires.width (all_fit (length xs) c.planes.result.now c.planes.ensures.value))) (sym ones)

pub returns-clause-others : goal.returns-clause-others
returns-clause-others c =
    let xs : List ℕ = c.args.value.now.numbers in
    let start : ℕ = c.args.start in
    c.summary_of_bits.ensures.others ∙ c.count_between-ones.ensures
    ∙ ap count_others (sym (part_is (number_at c.planes.result.now) xs start c.args.stop start (omega (arith, c.requires.some)) c.requires.within (λ i h. sym (c.planes.ensures.at (start + i) (omega (arith, h, c.requires.within))))))
