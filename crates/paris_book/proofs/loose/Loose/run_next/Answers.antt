use Rattle.std.proofs.Common.{◌≡◌, ◌∙◌, cond, false, true, ap, sym, subst}
use Rattle.std.specs.Prelude.{is_some, slice_get}
use Rattle.paris_events.specs.State.{State}
use Rattle.paris_book.proofs.Finds.{row_at}
use Rattle.paris_book.proofs.Takes.{next_found, ready_unsettled}
use Rattle.paris_events.specs.CutOff.{cut_off}
use Rattle.paris_book.specs.Among.{inputs_of}
use Rattle.paris_book.specs.Steps.{WasSettled, run_at, settled_on}
use Rattle.paris_book.proofs.ReadyRuns.{gives_own, gives_some, own_settles, own_run, none_runs, ready_at, none_ready_at}
use Rattle.paris_book.proofs.loose.Loose.run_next.Goals as goal

pub returns-in_default-clause-ran : goal.returns-in_default-clause-ran
returns-in_default-clause-ran c = (none_runs c.args.self.now (none_ready_at c.self.inside.board c.self.inside.edits c.self.inside.rows.next_id (inputs_of c.self.inside.inputs) c.self.inside.rows.rows c.args.self.now c.self.view_is c.in_default.ensures)).0

pub returns-in_default-clause-state : goal.returns-in_default-clause-state
returns-in_default-clause-state c = (none_runs c.args.self.now (none_ready_at c.self.inside.board c.self.inside.edits c.self.inside.rows.next_id (inputs_of c.self.inside.inputs) c.self.inside.rows.rows c.args.self.now c.self.view_is c.in_default.ensures)).1

pub run_own-requires : goal.run_own-requires
run_own-requires c =
    let es = c.self.inside.rows.rows in
    let found = next_found es c.in-Some.place c.in-Some.ensures in
    let seen = ap (λ (s : State). slice_get s.rows c.in-Some.place) (sym c.self.view_is) ∙ row_at es c.in-Some.place found.0 found.2 in
    ap settled_on seen ∙ ready_unsettled es c.in-Some.place found.0 found.1

pub unreachable-requires : goal.unreachable-requires
unreachable-requires c =
    let r = ready_at c.self.inside.board c.self.inside.edits c.self.inside.rows.next_id (inputs_of c.self.inside.inputs) c.self.inside.rows.rows c.args.self.now c.self.view_is c.in-Some.place c.in-Some.ensures in
    let wrong : false ≡ true = sym c.if-not-branch.true ∙ c.in_ok-run_own.ensures.ran ∙ ap is_some (gives_own c.args.self.now c.in-Some.place r.0 r.1 r.2) in
    absurd (cc)

pub returns-clause-ran : goal.returns-clause-ran
returns-clause-ran c =
    let r = ready_at c.self.inside.board c.self.inside.edits c.self.inside.rows.next_id (inputs_of c.self.inside.inputs) c.self.inside.rows.rows c.args.self.now c.self.view_is c.in-Some.place c.in-Some.ensures in
    (gives_some c.args.self.now c.in-Some.place r.0 r.1 r.2).0

pub cut_behind-requires : goal.cut_behind-requires
cut_behind-requires c =
    let r = ready_at c.self.inside.board c.self.inside.edits c.self.inside.rows.next_id (inputs_of c.self.inside.inputs) c.self.inside.rows.rows c.args.self.now c.self.view_is c.in-Some.place c.in-Some.ensures in
    let ran = c.in_ok-run_own.ensures.state ∙ ap (λ b. cond b (run_at c.args.self.now c.in-Some.place) c.args.self.now) c.if-not-branch.false in
    subst (λ z. WasSettled z c.in-Some.place) (sym ran) (own_settles c.args.self.now c.in-Some.place r.0 r.1 r.2 c.requires)

pub returns-clause-state : goal.returns-clause-state
returns-clause-state c =
    let r = ready_at c.self.inside.board c.self.inside.edits c.self.inside.rows.next_id (inputs_of c.self.inside.inputs) c.self.inside.rows.rows c.args.self.now c.self.view_is c.in-Some.place c.in-Some.ensures in
    let ran = c.in_ok-run_own.ensures.state ∙ ap (λ b. cond b (run_at c.args.self.now c.in-Some.place) c.args.self.now) c.if-not-branch.false in
    c.cut_behind.ensures ∙ ap cut_off ran ∙ own_run c.args.self.now c.in-Some.place r.0 r.1 r.2 c.ids_are_apart.ensures
