use Rattle.std.proofs.Common.{◌≡◌, List, [], ◌∷◌, ◌++◌, Some, None, sym, ap, ◌∙◌, arith, length, take}
use Rattle.std.proofs.Math.Seq.{take-length}
use Rattle.std.proofs.lemmas.List.{append-nil}
use Rattle.paris_edits.specs.declared.rows.RowFault.{RowFault}
use Rattle.paris_book.specs.Entries.{Entry, id_of}
use Rattle.paris_book.specs.Among.{faults_kept}
use Rattle.paris_book.proofs.RefusedRows.{faults_more}
use Rattle.paris_book.proofs.refusals.faults_among.Goals as goal
use Rattle.paris_book.proofs.refusals.faults_among.Goals.{in-Some+in_ok-push, in_default}

pub loop-place-preserved : goal.loop-place-preserved
loop-place-preserved c =
    let rows = c.args.rows.now.rows in
    let i = c.loop-place.place in
    let e : Entry = (c.at.result.0.0, c.at.result.1.now) in
    let there = c.at.ensures.value in
    elim c.match-cause_of.branch [
      | in-Some+in_ok-push w ↦
          let more = faults_more rows i e (Some w.in-Some.cause) there (sym w.in-Some.is ∙ c.cause_of.ensures) in
          rw w.faults-is (w.in_ok-push.ensures.items ∙ ap (λ (fs : List RowFault). fs ++ record { id = id_of e; cause = w.in-Some.cause } ∷ []) c.loop-place.invariant ∙ sym more)
      | in_default w ↦
          let more = faults_more rows i e None there (sym w.in_default.is ∙ c.cause_of.ensures) in
          rw w.faults-is (c.loop-place.invariant ∙ sym (append-nil (faults_kept (take i rows))) ∙ sym more)
    ]

pub returns : goal.returns
returns c =
    let rows = c.args.rows.now.rows in
    let last : c.loop-place.place ≡ length rows = omega arith in
    c.loop-place.invariant ∙ ap faults_kept (ap (λ k. take k rows) last ∙ take-length rows)
