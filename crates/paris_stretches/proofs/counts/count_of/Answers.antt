use Rattle.std.proofs.Common.{◌≡◌, ◌-◌, ◌∙◌, ap, arith, length, map}
use Rattle.std.specs.List.{range_with_len}
use Rattle.paris_field.specs.Numbers.{number_at}
use Rattle.paris_stretches.specs.Stretches.{count_others}
use Rattle.paris_stretches.proofs.Spans.{numbers_span}
use Rattle.paris_stretches.proofs.counts.count_of.Goals as goal

pub returns : goal.returns
returns c =
    let all : c.len.result - 0 ≡ length c.args.value.now.numbers = omega (arith, c.len.ensures) in
    c.count_between.ensures ∙ ap (λ n. count_others (map (number_at c.planes.result.now) (range_with_len 0 n))) all
    ∙ ap count_others (numbers_span (length c.args.value.now.numbers) c.planes.result.now c.planes.ensures.value)
