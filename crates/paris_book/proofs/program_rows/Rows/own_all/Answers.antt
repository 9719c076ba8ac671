use Rattle.std.proofs.Common.{List, refl, sym, ◌∙◌, subst, take}
use Rattle.std.proofs.lemmas.List.{take_all}
use Rattle.paris_names.specs.declared.ids.RowId.{RowId}
use Rattle.paris_program.specs.Program.{AreOwn}
use Rattle.paris_book.specs.Marks.{is_among, ids_in}
use Rattle.paris_book.proofs.Holding.{none_among, more_among}
use Rattle.paris_book.proofs.Unsettling.{ids_more}
use Rattle.paris_book.proofs.program_rows.Rows.own_all.Goals as goal

pub loop-id-init : goal.loop-id-init
loop-id-init c = record { rows = refl; next_id = refl; kept = λ test own. own; own = none_among c.args.self.now }

pub loop-id-preserved : goal.loop-id-preserved
loop-id-preserved c =
    let now = c.own.new.self in
    let so_far = ids_in (take c.loop-id.id-index c.args.ids.now) in
    let more = ids_more c.args.ids.now c.loop-id.id-index _ c.loop-id-test.true in
    record {
      rows = c.own.ensures.rows ∙ c.loop-id.invariant.rows;
      next_id = c.own.ensures.next_id ∙ c.loop-id.invariant.next_id;
      kept = λ test own. c.own.ensures.own test (c.loop-id.invariant.kept test own);
      own = subst (λ ids. AreOwn now (is_among ids)) (sym more) (more_among now so_far _ (c.own.ensures.own (is_among so_far) c.loop-id.invariant.own) c.in_ok-own.ensures.ok);
    }

pub returns-in_err-own-clause-own : goal.returns-in_err-own-clause-own
returns-in_err-own-clause-own c = λ test own. c.own.ensures.own test (c.loop-id.invariant.kept test own)

pub returns-clause-ok : goal.returns-clause-ok
returns-clause-ok c = subst (λ (ids : List RowId). AreOwn c.loop-id.self (is_among (ids_in ids))) (take_all c.loop-id.id-index c.args.ids.now c.loop-id-test.false) c.loop-id.invariant.own
