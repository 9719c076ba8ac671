use Rattle.std.proofs.Common.{◌<◌, ap, ◌∙◌, sym, subst, List}
use Rattle.paris_session.specs.declared.answers.Summary.{Summary}
use Rattle.paris_parts.specs.Jobs.{Doing}
use Rattle.paris_parts.specs.Texts.{at_seat, commands_in, parts_text, refusals_in}
use Rattle.paris_parts.proofs.outcome.gathered.Goals as goal

pub counted-summary-requires-clause-few : goal.counted-summary-requires-clause-few
counted-summary-requires-clause-few g c =
    λ n within. subst (λ (ds : List Doing). (at_seat ds n).hand.commands < 1125899906842624) (sym c.as_slice-2.ensures.value) (c.requires.few n within)

pub returns-clause-left : goal.returns-clause-left
returns-clause-left g c = (
  c.in_ok-seats.ensures,
  c.in_ok-text.ensures ∙ ap (λ (ds : List Doing). parts_text ds c.args.count) c.as_slice.ensures.value,
  ap (λ (s : Summary). s.commands) c.counted-summary.ensures.value ∙ ap (λ (ds : List Doing). commands_in ds c.args.count) c.as_slice-2.ensures.value,
  ap (λ (s : Summary). s.refusals) c.counted-summary.ensures.value ∙ ap (λ (ds : List Doing). refusals_in ds c.args.count) c.as_slice-2.ensures.value,
)
