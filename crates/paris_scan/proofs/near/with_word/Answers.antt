use Rattle.std.proofs.Common.{◌∙◌, ◌+◌, ◌-◌, ◌&&◌, ◌||◌, ap, bit_and, cond, leb}
use Rattle.paris_scan.proofs.Neighbours.{kept_next}
use Rattle.paris_scan.proofs.near.with_word.Goals as goal

pub returns : goal.returns
returns c =
    λ x kept.
    let sum = c.args.before.low + c.args.word in
    let next = kept_next c.args.bits x c.args.before.low c.args.word c.args.before.over c.args.selected kept in (
      c.word_where-low.ensures ∙ ap (λ p. cond c.args.selected (bit_and sum (p - 1)) c.args.before.low) c.power-bound.ensures ∙ next.0,
      c.needs_more-over.ensures ∙ ap (λ p. c.args.before.over || c.args.selected && leb p sum) c.power-bound.ensures ∙ next.1,
    )
