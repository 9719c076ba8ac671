use Rattle.std.proofs.Common.{All, arith, subst}
use Rattle.std.proofs.lemmas.List.{take_all}
use Rattle.std.proofs.lemmas.List.Elements.{All-more}
use Rattle.paris_book.specs.Laws.{FlagsFit}
use Rattle.paris_events.specs.declared.inputs.FlagInputs.{FlagInputs}
use Rattle.paris_book.proofs.laws.all_flags_fit.Goals as goal

pub loop-flags-preserved : goal.loop-flags-preserved
loop-flags-preserved c =
    let x : FlagInputs = c.flags-item.result in
    All-more FlagsFit c.args.all.now c.loop-flags.flags-index x (omega arith) c.loop-flags.invariant (subst FlagsFit c.flags-item.is c.flags_fit.ensures)

pub returns : goal.returns
returns c = subst (All FlagsFit) (take_all c.loop-flags.flags-index c.args.all.now (omega arith)) c.loop-flags.invariant
