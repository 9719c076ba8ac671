-- A plan is the same as itself.
use Rattle.std.proofs.Common.{◌≡◌, true, refl, rules}
use Rattle.std.proofs.lemmas.Bool.{eq-eqb}
use Rattle.paris_names.specs.contracts.keys.SetNo as SetNoRow
use Rattle.paris_names.specs.contracts.keys.SetNoPartialEq.TheImpl as SetNoEq
use Rattle.paris_names.specs.contracts.names.Name as NameRow
use Rattle.paris_names.specs.contracts.names.NamePartialEq.TheImpl as NameEq
use Rattle.paris_model.specs.contracts.actions.Operand as OperandRow
use Rattle.paris_model.specs.contracts.actions.OperandPartialEq.TheImpl as OperandEq
use Rattle.paris_model.specs.Instructions.{Plan}
use Rattle.paris_instr.proofs.SameActions.{IsReflexive, self_action}
use Rattle.paris_instr.specs.PlanEq.{plan_eq, instr_eq, axes_eq, action_eq}

self_name : IsReflexive NameEq.ghosts.eq
self_name x = search rules

self_set : IsReflexive SetNoEq.ghosts.eq
self_set x = search rules

self_operand : IsReflexive OperandEq.ghosts.eq
self_operand x = search rules

instr_same : (p : Plan) → instr_eq p.instr p.instr ≡ true
instr_same p = self_action NameRow.the_row NameRow.the_row NameEq.ghosts NameEq.ghosts NameEq.dict NameEq.dict self_name self_name p.instr

axes_same : (p : Plan) → axes_eq p.axes p.axes ≡ true
axes_same p = search rules

action_same : (p : Plan) → action_eq p.action p.action ≡ true
action_same p = self_action OperandRow.the_row SetNoRow.the_row OperandEq.ghosts SetNoEq.ghosts OperandEq.dict SetNoEq.dict self_operand self_set p.action

pub plan_same : (p : Plan) → plan_eq p p ≡ true
unfolding plan_eq
plan_same p = rw (instr_same p, eq-eqb p.set_no p.set_no refl, axes_same p, action_same p) refl
