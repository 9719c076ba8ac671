use Rattle.std.proofs.Common.{◌∙◌, sym, subst}
use Rattle.std.specs.List.{All}
use Rattle.paris_parts.specs.Parts.{IsShort}
use Rattle.paris_parts.proofs.Shorts.{script_short, short_played}
use Rattle.paris_parts.proofs.run.run_parts.Goals as goal

pub play_all-requires-clause-parts : goal.play_all-requires-clause-parts
play_all-requires-clause-parts g c κs within =
    let played = c.pop.new.self.items in
    let last = c.in-Some.last in
    let all = subst (All IsShort) (sym c.in_ok-parts.ensures ∙ c.in-Some.ensures.items) (script_short c.args.script.now c.requires.few) in
    let both = short_played played last all in
    (subst (All IsShort) (sym c.as_slice-3.ensures.value) both.0, both.1)
