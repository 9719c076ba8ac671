use Rattle.std.proofs.Common.{sym, ◌∙◌}
use Rattle.paris_model.specs.Instructions.{operands}
use Rattle.paris_instr.proofs.Resolves.{have_widths, made_fits}
use Rattle.paris_instr.proofs.resolving.resolve.Goals as goal

pub new-requires : goal.new-requires
new-requires c = record {
  fit = record {
    axis = sym c.has_bad_axis.ensures ∙ c.if-has_bad_axis.false;
    lengths = sym c.has_bad_length.ensures ∙ c.if-has_bad_length.false;
    operands = sym c.has_bad_operand.ensures ∙ c.if-has_bad_operand.false;
    overlap = sym c.has_overlap.ensures ∙ c.if-has_overlap.false;
    widths = have_widths c.args.board.now (operands c.in_ok-action.action) c.in_ok-action.ensures.known.fields;
  };
}

pub returns-clause-fitted : goal.returns-clause-fitted
returns-clause-fitted c =
    made_fits c.args.board.now c.in_ok-plan.plan (
    rw c.in_ok-plan.ensures (record {
      known = c.in_ok-action.ensures.known.fields;
      one_set = sym c.is_in_one_set.ensures ∙ c.if-not-is_in_one_set.false;
      set_no = c.set_of_action-set.ensures.value;
      declared = c.set_of_action-set.ensures.declared;
      axes = c.geometry-geometry.ensures;
    })
    )
