use Rattle.std.proofs.Common.{◌∙◌, ◌≤◌, ◌++◌, ◌∷◌, [], true, sym, ap, subst, replicate, ◌<◌, List}
use Rattle.std.proofs.lemmas.Bool.{eq-eqb}
use Rattle.paris_names.specs.declared.keys.Key.TheVariants.{Field}
use Rattle.paris_field.specs.Fields.{FieldNumbers}
use Rattle.paris_exec.proofs.Operands.{value_wide}
use Rattle.paris_exec.proofs.InEvery.{apart, move_source, move_target, move_to, move_from, move_whole_left, move_part_left}
use Rattle.paris_exec.proofs.contexts.move_always_values.Goals as goal

pub input-x-requires : goal.input-x-requires
input-x-requires c =
    move_source c.args.order.now c.args.to.now c.args.from.now c.args.bits c.requires.acts

pub low-low-requires : goal.low-low-requires
low-low-requires c =
    value_wide c.args.order.now (Field c.args.from.now.field) c.input-x.result.now c.args.bits c.input-x.ensures.value (move_from c.args.order.now c.args.to.now c.args.from.now c.args.bits c.requires.acts c.requires.fit)

pub copy_low-requires-clause-x_width : goal.copy_low-requires-clause-x_width
copy_low-requires-clause-x_width c =
    value_wide c.args.order.now (Field c.args.from.now.field) c.input-x.result.now c.args.bits c.input-x.ensures.value (move_from c.args.order.now c.args.to.now c.args.from.now c.args.bits c.requires.acts c.requires.fit)

pub returns-then-bits-to : goal.returns-then-bits-to
returns-then-bits-to c =
    c.in_ok-push.ensures.items ∙ ap (λ (ys : List FieldNumbers). ys ++ c.in_ok-copy_low.field-0 ∷ []) c.in_ok-values.ensures.items ∙ move_whole_left c.args.order.now c.args.to.now c.args.from.now c.args.bits c.requires.acts c.input-x.result.now c.input-x.ensures.value c.input-x.ensures.count c.low-low.ensures.fit (eq-eqb c.args.bits c.args.to.now.width c.if-bits-to.true) c.in_ok-copy_low.field-0 c.in_ok-copy_low.ensures

pub input-requires : goal.input-requires
input-requires c =
    move_target c.args.order.now c.args.to.now c.args.from.now c.args.bits c.requires.acts (apart c.args.bits c.args.to.now.width c.if-bits-to.false)

pub merged-requires-clause-room : goal.merged-requires-clause-room
merged-requires-clause-room c =
    subst (λ (y : FieldNumbers). c.args.bits ≤ y.width) (sym c.input.ensures.value) (move_to c.args.order.now c.args.to.now c.args.from.now c.args.bits c.requires.acts c.requires.fit)

pub returns : goal.returns
returns c =
    c.in_ok-push-2.ensures.items ∙ ap (λ (ys : List FieldNumbers). ys ++ c.in_ok-value.value ∷ []) c.in_ok-values.ensures.items ∙ move_part_left c.args.order.now c.args.to.now c.args.from.now c.args.bits c.requires.acts c.input-x.result.now c.input-x.ensures.value c.input-x.ensures.count c.input.result.now c.in_ok-value.value c.filled-all.result c.low-low.result.now c.input.ensures.value c.input.ensures.count (c.filled-all.ensures ∙ ap (λ n. replicate n true) (c.len.ensures ∙ c.input-x.ensures.count)) (λ v below. c.low-low.ensures.at v (subst (λ n. v < n) (sym c.input-x.ensures.count) below)) c.in_ok-value.ensures.width c.in_ok-value.ensures.numbers
