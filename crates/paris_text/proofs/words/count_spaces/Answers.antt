use Rattle.std.proofs.Common.{◌≤◌, ◌∙◌, ◌+◌, ℕ, List, rules, arith, ap, length, take, nat_eq}
use Rattle.std.specs.List.{count_by}
use Rattle.std.proofs.lemmas.List.{length-take-le, take_all}
use Rattle.std.proofs.lemmas.List.Sums.{count_by-le-length}
use Rattle.paris_text.proofs.WordLemmas.{spaces_more}
use Rattle.paris_text.proofs.words.count_spaces.Goals as goal

pub overflow_add-count : goal.overflow_add-count
overflow_add-count c =
    let bytes : List ℕ = c.args.bytes.now in
    let more = spaces_more bytes c.loop-byte.byte-index c.from-count.result c.loop-byte-test.true c.from-count.ensures in
    let few = count_by-le-length (λ b. nat_eq b 32) (take (c.loop-byte.byte-index + 1) bytes) in
    let long = length-take-le (c.loop-byte.byte-index + 1) bytes (search rules) in
    omega (arith, more, few, long, c.loop-byte.invariant)

pub loop-byte-preserved : goal.loop-byte-preserved
loop-byte-preserved c =
    ap (λ n. n + c.from-count.result) c.loop-byte.invariant ∙ spaces_more c.args.bytes.now c.loop-byte.byte-index c.from-count.result c.loop-byte-test.true c.from-count.ensures

pub returns : goal.returns
returns c =
    let bytes : List ℕ = c.args.bytes.now in
    let end : length bytes ≤ c.loop-byte.byte-index = search rules in
    c.loop-byte.invariant ∙ ap (count_by (λ b. nat_eq b 32)) (take_all c.loop-byte.byte-index bytes end)
