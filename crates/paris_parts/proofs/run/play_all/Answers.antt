use Rattle.std.proofs.Common.{ℕ, sym, subst}
use Rattle.std.specs.Prelude.{IfOk}
use Rattle.paris_names.specs.declared.profiles.Profile.{Profile}
use Rattle.paris_parts.specs.Run.{Concludes, PartsPlay}
use Rattle.paris_parts.proofs.Ends.{plays_if}
use Rattle.paris_parts.proofs.run.play_all.Goals as goal

pub returns-in-Ok-clause-plays : goal.returns-in-Ok-clause-plays
returns-in-Ok-clause-plays g c =
    let ended = c.in-Ok.ended in
    subst (λ (p : Profile). IfOk c.conclude.result (λ t. PartsPlay p c.args.seats c.args.parts.now c.args.last.now t.text.items t.summary)) (sym c.requires.profile)
    (plays_if g.L.Office.profile c.args.seats c.args.parts.now c.args.last.now ended.seats.items ended.text.items ended.summary c.conclude.result c.requires.few.2 c.requires.few.0 c.in-Ok.ensures.done
    (subst (λ (n : ℕ). IfOk c.conclude.result (λ t. Concludes g.L.Office.profile n ended.seats.items c.args.last.now ended.text.items t.text.items ended.summary t.summary)) (sym c.requires.seats.1) c.conclude.ensures.concluded))
