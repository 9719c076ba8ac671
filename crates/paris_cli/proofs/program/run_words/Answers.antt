use Rattle.std.proofs.Common.{true, false, inl, inr}
use Rattle.paris_cli.proofs.RefusedWords.{stops_at_words, tells_of_words}
use Rattle.paris_cli.proofs.TakenWords.{not_both}
use Rattle.paris_cli.proofs.program.run_words.Goals as goal

pub returns-in-Err-clause-stops : goal.returns-in-Err-clause-stops
returns-in-Err-clause-stops g c = λ past asks. stops_at_words _ _ _ _ _ _ c.in-Err.fault _ c.requires.fresh c.refuse_words.ensures.status c.refuse_words.ensures.line c.refuse_words.ensures.whole past

pub returns-in-Err-clause-halts : goal.returns-in-Err-clause-halts
returns-in-Err-clause-halts g c = λ past asks. inr (tells_of_words _ _ _ _ _ _ _ c.in-Err.fault _ c.requires.fresh c.in-Err.ensures.untaken c.in-Err.ensures.in_text c.refuse_words.ensures.status c.refuse_words.ensures.line c.refuse_words.ensures.whole)

pub returns-then-desk-clause-halts : goal.returns-then-desk-clause-halts
returns-then-desk-clause-halts g c = λ past asks. inl (c.in-Ok.wanted.workers, c.in-Ok.ensures.number, c.run_at_desk.ensures.stops past)

pub returns-then-desk-clause-finishes : goal.returns-then-desk-clause-finishes
returns-then-desk-clause-finishes g c = λ few asks. absurd (not_both c.in-Ok.wanted.desk c.if-desk.true (c.in-Ok.ensures.desk false asks))

pub returns-then-desk-clause-untaken : goal.returns-then-desk-clause-untaken
returns-then-desk-clause-untaken g c = λ two asks taken. not_both c.in-Ok.wanted.desk c.if-desk.true (c.in-Ok.ensures.desk false asks)

pub returns-then-desk-clause-refuses : goal.returns-then-desk-clause-refuses
returns-then-desk-clause-refuses g c = λ two asks. absurd (not_both c.in-Ok.wanted.desk c.if-desk.true (c.in-Ok.ensures.desk false asks))

pub returns-then-desk-clause-stops : goal.returns-then-desk-clause-stops
returns-then-desk-clause-stops g c = λ past asks. absurd (not_both c.in-Ok.wanted.desk c.if-desk.true (c.in-Ok.ensures.desk false asks))

pub returns-clause-sits : goal.returns-clause-sits
returns-clause-sits g c = λ few asks. absurd (not_both c.in-Ok.wanted.desk (c.in-Ok.ensures.desk true asks) c.if-desk.false)

pub returns-clause-halts : goal.returns-clause-halts
returns-clause-halts g c = λ past asks. absurd (not_both c.in-Ok.wanted.desk (c.in-Ok.ensures.desk true asks) c.if-desk.false)

pub returns-in-Err-clause-refused : goal.returns-in-Err-clause-refused
returns-in-Err-clause-refused g c = λ untaken. tells_of_words _ _ _ _ _ _ _ c.in-Err.fault _ c.requires.fresh c.in-Err.ensures.untaken c.in-Err.ensures.in_text c.refuse_words.ensures.status c.refuse_words.ensures.line c.refuse_words.ensures.whole
