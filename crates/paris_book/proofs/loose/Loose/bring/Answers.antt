use Rattle.std.proofs.Common.{◌≡◌, List, sym, ap, ◌∙◌}
use Rattle.std.proofs.Math.Path.{ap₂}
use Rattle.std.specs.Prelude.{not}
use Rattle.paris_names.specs.declared.ids.RowId.{RowId}
use Rattle.paris_exec.specs.Tasks.{Task}
use Rattle.paris_book.specs.Entries.{Entry}
use Rattle.paris_edits.specs.declared.verdicts.Verdict.TheVariants.{Kept}
use Rattle.paris_events.specs.CutOff.{cut_off}
use Rattle.paris_book.specs.Among.{inputs_of}
use Rattle.paris_book.proofs.Inserts.{state_of}
use Rattle.paris_book.proofs.Settling.{bring_whole}
use Rattle.paris_book.proofs.Brings.{found_entry, found_none, kept_verdict, answer_found, answer_none, state_kept, bring_kept, brought_none, brought_same, was_settled}
use Rattle.paris_book.proofs.loose.Loose.bring.Goals as goal

pub invariant_of-self : goal.invariant_of-self
invariant_of-self c =
    let found = found_entry c.args.done.id.0 c.id.result.0 c.self.inside.rows.rows c.in-Some.place (ap (λ (r : RowId). r.0) c.id.ensures ∙ ap (λ (t : Task). t.id.0) c.order.ensures) c.in-Some.ensures.value in
    let by = c.judge-verdict.ensures.verdict found.0 found.2 in
    let put = c.keep.ensures.rows found.0 found.2 in
    let kept : c.judge-verdict.result ≡ Kept = kept_verdict c.judge-verdict.result (sym c.is_kept.ensures ∙ c.if-not-is_kept.false) in
    let plan : found.0.1.plan ≡ c.args.done.plan = c.judge-verdict.ensures.plan found.0 found.2 kept in
    rw (c.keep.ensures.next_id, put) (bring_whole c.self.inside.board c.self.inside.edits c.self.inside.rows.next_id (inputs_of c.self.inside.inputs) c.self.inside.rows.rows c.in-Some.place found.0 c.args.done c.present_sources-sources.result.keys found.2 (sym by ∙ kept) plan (c.present_sources-sources.ensures found.0 found.2) c.self.invariant)

pub returns-in-None-clause-answer : goal.returns-in-None-clause-answer
returns-in-None-clause-answer c =
    sym (answer_none c.self.inside.board c.self.inside.edits c.self.inside.rows.next_id (inputs_of c.self.inside.inputs) c.self.inside.rows.rows c.args.self.now c.args.done c.self.view_is (found_none c.args.done.id.0 c.id.result.0 c.self.inside.rows.rows (ap (λ (r : RowId). r.0) c.id.ensures ∙ ap (λ (t : Task). t.id.0) c.order.ensures) c.in-None.ensures.value))

pub returns-in-None-clause-state : goal.returns-in-None-clause-state
returns-in-None-clause-state c =
    brought_none c.self.inside.board c.self.inside.edits c.self.inside.rows.next_id (inputs_of c.self.inside.inputs) c.self.inside.rows.rows c.args.self.now c.args.done c.self.view_is (found_none c.args.done.id.0 c.id.result.0 c.self.inside.rows.rows (ap (λ (r : RowId). r.0) c.id.ensures ∙ ap (λ (t : Task). t.id.0) c.order.ensures) c.in-None.ensures.value)

pub returns-then-not-is_kept-clause-answer : goal.returns-then-not-is_kept-clause-answer
returns-then-not-is_kept-clause-answer c =
    let found = found_entry c.args.done.id.0 c.id.result.0 c.self.inside.rows.rows c.in-Some.place (ap (λ (r : RowId). r.0) c.id.ensures ∙ ap (λ (t : Task). t.id.0) c.order.ensures) c.in-Some.ensures.value in
    c.judge-verdict.ensures.verdict found.0 found.2 ∙ sym (answer_found c.self.inside.board c.self.inside.edits c.self.inside.rows.next_id (inputs_of c.self.inside.inputs) c.self.inside.rows.rows c.args.self.now c.in-Some.place found.0 c.args.done c.self.view_is found.1)

pub returns-then-not-is_kept-clause-state : goal.returns-then-not-is_kept-clause-state
returns-then-not-is_kept-clause-state c =
    let found = found_entry c.args.done.id.0 c.id.result.0 c.self.inside.rows.rows c.in-Some.place (ap (λ (r : RowId). r.0) c.id.ensures ∙ ap (λ (t : Task). t.id.0) c.order.ensures) c.in-Some.ensures.value in
    let by = c.judge-verdict.ensures.verdict found.0 found.2 in
    brought_same c.self.inside.board c.self.inside.edits c.self.inside.rows.next_id (inputs_of c.self.inside.inputs) c.self.inside.rows.rows c.args.self.now c.in-Some.place found.0 c.args.done c.judge-verdict.result c.self.view_is found.1 by (sym c.is_kept.ensures ∙ c.if-not-is_kept.true)

pub returns-else-not-is_kept-clause-answer : goal.returns-else-not-is_kept-clause-answer
returns-else-not-is_kept-clause-answer c =
    let found = found_entry c.args.done.id.0 c.id.result.0 c.self.inside.rows.rows c.in-Some.place (ap (λ (r : RowId). r.0) c.id.ensures ∙ ap (λ (t : Task). t.id.0) c.order.ensures) c.in-Some.ensures.value in
    c.judge-verdict.ensures.verdict found.0 found.2 ∙ sym (answer_found c.self.inside.board c.self.inside.edits c.self.inside.rows.next_id (inputs_of c.self.inside.inputs) c.self.inside.rows.rows c.args.self.now c.in-Some.place found.0 c.args.done c.self.view_is found.1)

pub keep-requires-clause-unsettled : goal.keep-requires-clause-unsettled
keep-requires-clause-unsettled c =
    let found = found_entry c.args.done.id.0 c.id.result.0 c.self.inside.rows.rows c.in-Some.place (ap (λ (r : RowId). r.0) c.id.ensures ∙ ap (λ (t : Task). t.id.0) c.order.ensures) c.in-Some.ensures.value in
    let kept : c.judge-verdict.result ≡ Kept = kept_verdict c.judge-verdict.result (sym c.is_kept.ensures ∙ c.if-not-is_kept.false) in
    record { row = found.0; there = found.2; unsettled = ap not (c.judge-verdict.ensures.unsettled found.0 found.2 kept) }

pub cut_behind-requires : goal.cut_behind-requires
cut_behind-requires c =
    let found = found_entry c.args.done.id.0 c.id.result.0 c.self.inside.rows.rows c.in-Some.place (ap (λ (r : RowId). r.0) c.id.ensures ∙ ap (λ (t : Task). t.id.0) c.order.ensures) c.in-Some.ensures.value in
    let put = c.keep.ensures.rows found.0 found.2 in
    rw (c.keep.ensures.next_id, put) (was_settled c.self.inside.board c.self.inside.edits c.self.inside.rows.next_id (inputs_of c.self.inside.inputs) c.self.inside.rows.rows c.args.self.now c.in-Some.place found.0 c.args.done c.present_sources-sources.result.keys c.self.view_is found.2 c.requires)

pub returns-else-not-is_kept-clause-state : goal.returns-else-not-is_kept-clause-state
returns-else-not-is_kept-clause-state c =
    let found = found_entry c.args.done.id.0 c.id.result.0 c.self.inside.rows.rows c.in-Some.place (ap (λ (r : RowId). r.0) c.id.ensures ∙ ap (λ (t : Task). t.id.0) c.order.ensures) c.in-Some.ensures.value in
    let by = c.judge-verdict.ensures.verdict found.0 found.2 in
    let put = c.keep.ensures.rows found.0 found.2 in
    c.cut_behind.ensures
    ∙ ap₂ (λ next (es : List Entry). cut_off (state_of c.self.inside.board c.self.inside.edits next (inputs_of c.self.inside.inputs) es)) c.keep.ensures.next_id put
    ∙ ap cut_off (state_kept c.self.inside.board c.self.inside.edits c.self.inside.rows.next_id (inputs_of c.self.inside.inputs) c.self.inside.rows.rows c.args.self.now c.in-Some.place found.0 c.args.done c.present_sources-sources.result.keys c.judge-verdict.result c.self.view_is found.1 by (sym c.is_kept.ensures ∙ c.if-not-is_kept.false))
    ∙ bring_kept c.self.inside.board c.self.inside.edits c.self.inside.rows.next_id (inputs_of c.self.inside.inputs) c.self.inside.rows.rows c.args.self.now c.in-Some.place found.0 c.args.done c.judge-verdict.result c.self.view_is found.1 by (sym c.is_kept.ensures ∙ c.if-not-is_kept.false)
