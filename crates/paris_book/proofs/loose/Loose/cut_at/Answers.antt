use Rattle.std.proofs.Common.{List, refl, ap, ◌∙◌, sym, arith}
use Rattle.std.specs.Prelude.{not}
use Rattle.std.proofs.Math.Path.{ap₂}
use Rattle.paris_book.specs.Among.{inputs_of}
use Rattle.paris_book.specs.Entries.{Entry}
use Rattle.paris_book.proofs.Cutting.{cut_here, cut_state, uncut_state}
use Rattle.paris_book.proofs.Inserts.{state_of}
use Rattle.paris_book.proofs.Settling.{again_whole}
use Rattle.paris_book.proofs.loose.Loose.cut_at.Goals as goal

pub invariant_of-self : goal.invariant_of-self
invariant_of-self c =
    let e = cut_here c.self.inside.board c.self.inside.edits c.self.inside.rows.next_id (inputs_of c.self.inside.inputs) c.self.inside.rows.rows c.args.self.now c.args.place c.self.view_is (omega arith) in
    let put = c.settle_again.ensures.rows e.0 e.1 in
    rw (c.settle_again.ensures.next_id, put) (again_whole c.self.inside.board c.self.inside.edits c.self.inside.rows.next_id (inputs_of c.self.inside.inputs) c.self.inside.rows.rows c.args.place e.0 c.in-Some.sources.keys e.1 (sym (c.in-Some.ensures.value e.0 e.1)) (λ d done. c.in-Some.ensures.plan e.0 d e.1 refl done) (c.in-Some.ensures.sources e.0 e.1) c.self.invariant)

pub returns-clause-cut : goal.returns-clause-cut
returns-clause-cut c =
    let e = cut_here c.self.inside.board c.self.inside.edits c.self.inside.rows.next_id (inputs_of c.self.inside.inputs) c.self.inside.rows.rows c.args.self.now c.args.place c.self.view_is (omega arith) in
    c.in-Some.ensures.value e.0 e.1 ∙ e.2

pub returns-clause-state : goal.returns-clause-state
returns-clause-state c =
    let e = cut_here c.self.inside.board c.self.inside.edits c.self.inside.rows.next_id (inputs_of c.self.inside.inputs) c.self.inside.rows.rows c.args.self.now c.args.place c.self.view_is (omega arith) in
    let put = c.settle_again.ensures.rows e.0 e.1 in
    ap₂ (λ next (es : List Entry). state_of c.self.inside.board c.self.inside.edits next (inputs_of c.self.inside.inputs) es) c.settle_again.ensures.next_id put
    ∙ cut_state c.self.inside.board c.self.inside.edits c.self.inside.rows.next_id (inputs_of c.self.inside.inputs) c.self.inside.rows.rows c.args.self.now c.args.place e.0 c.self.view_is e.1 c.in-Some.sources.keys (sym (c.in-Some.ensures.value e.0 e.1))

pub returns-in_default-clause-cut : goal.returns-in_default-clause-cut
returns-in_default-clause-cut c =
    let e = cut_here c.self.inside.board c.self.inside.edits c.self.inside.rows.next_id (inputs_of c.self.inside.inputs) c.self.inside.rows.rows c.args.self.now c.args.place c.self.view_is (omega arith) in
    c.in_default.ensures.value e.0 e.1 ∙ e.2

pub returns-in_default-clause-state : goal.returns-in_default-clause-state
returns-in_default-clause-state c =
    let e = cut_here c.self.inside.board c.self.inside.edits c.self.inside.rows.next_id (inputs_of c.self.inside.inputs) c.self.inside.rows.rows c.args.self.now c.args.place c.self.view_is (omega arith) in
    uncut_state c.self.inside.board c.self.inside.edits c.self.inside.rows.next_id (inputs_of c.self.inside.inputs) c.self.inside.rows.rows c.args.self.now c.args.place e.0 c.self.view_is e.1 (sym (c.in_default.ensures.value e.0 e.1))

pub settle_again-requires : goal.settle_again-requires
settle_again-requires c =
    let e = cut_here c.self.inside.board c.self.inside.edits c.self.inside.rows.next_id (inputs_of c.self.inside.inputs) c.self.inside.rows.rows c.args.self.now c.args.place c.self.view_is (omega arith) in
    record { row = e.0; there = e.1; unsettled = ap not (c.in-Some.ensures.unsettled e.0 e.1 refl) }
