use Rattle.std.proofs.Common.{◌≡◌, ℕ, ◌+◌, ◌-◌, ◌*◌, ◌<◌, ◌++◌, ◌∙◌, List, ap, sym, subst, arith, length, map}
use Rattle.std.specs.Prelude.{slice_index}
use Rattle.std.specs.List.{range_with_len, slice_range}
use Rattle.paris_stretches.specs.Tallies.{IsTally}
use Rattle.paris_stretches.proofs.Spans.{part_is}
use Rattle.paris_stretches.proofs.tallies.Tally.add_block.Goals as goal

pub returns-then-width-le64 : goal.returns-then-width-le64
returns-then-width-le64 c =
    let f = slice_index c.args.value.now.numbers in
    let words : List ℕ = c.block_words-words.result in
    let from : ℕ = c.args.from in
    let a : ℕ = 64 * c.args.block + from in
    let part : slice_range words from (from + c.args.count) ≡ map f (range_with_len a c.args.count) =
    part_is f words from (from + c.args.count) a (omega arith) (omega (arith, c.requires.block, c.block_words-words.auto)) (λ i h.
    c.block_words-words.ensures (from + i) (omega (arith, h, c.requires.block)) (omega (arith, h, c.requires.processors, c.len.ensures)) ∙ c.planes.ensures.at (64 * c.args.block + (from + i)) (omega (arith, h, c.requires.processors)) ∙ ap f (let e : 64 * c.args.block + (from + i) ≡ a + i = omega arith in e))
    ∙ ap (λ n. map f (range_with_len a n)) (let e : from + c.args.count - from ≡ c.args.count = omega arith in e) in
    λ xs t. subst (λ ys. IsTally (xs ++ ys) c.add_words.new.self) part (c.add_words.ensures xs t)

pub returns-else-width-le64 : goal.returns-else-width-le64
returns-else-width-le64 c =
    let f = slice_index c.args.value.now.numbers in
    let numbers : List ℕ = c.block_numbers-numbers.result in
    let from : ℕ = c.args.from in
    let a : ℕ = 64 * c.args.block + from in
    let part : slice_range numbers from (from + c.args.count) ≡ map f (range_with_len a c.args.count) =
    part_is f numbers from (from + c.args.count) a (omega arith) (omega (arith, c.requires.block, c.block_numbers-numbers.auto)) (λ i h.
    c.block_numbers-numbers.ensures (from + i) (omega (arith, h, c.requires.block)) (omega (arith, h, c.requires.processors, c.len-else-width-le64.ensures)) ∙ c.planes-else-width-le64.ensures.at (64 * c.args.block + (from + i)) (omega (arith, h, c.requires.processors)) ∙ ap f (let e : 64 * c.args.block + (from + i) ≡ a + i = omega arith in e))
    ∙ ap (λ n. map f (range_with_len a n)) (let e : from + c.args.count - from ≡ c.args.count = omega arith in e) in
    λ xs t. subst (λ ys. IsTally (xs ++ ys) c.add_numbers.new.self) part (c.add_numbers.ensures xs t)
