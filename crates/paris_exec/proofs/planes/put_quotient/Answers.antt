use Rattle.std.proofs.Common.{◌∙◌, ◌++◌, ◌∷◌, [], ap, sym, length, slice_index_or, false, Bool, List}
use Rattle.paris_names.specs.declared.keys.FlagName.TheVariants.{Overflow}
use Rattle.paris_names.specs.declared.keys.Key.TheVariants.{Field, Flag}
use Rattle.paris_field.specs.Fields.{FieldNumbers}
use Rattle.paris_exec.specs.Planes.{flag_value}
use Rattle.paris_exec.specs.Tasks.{put_value, put_value_where}
use Rattle.paris_exec.proofs.Puts.{length-without, put_without}
use Rattle.paris_exec.proofs.planes.put_quotient.Goals as goal

pub put_where-requires-clause-mask : goal.put_where-requires-clause-mask
put_where-requires-clause-mask c =
    ap length c.in_ok-divided.ensures
    ∙ length-without c.args.new.overflow c.flag_plane-selected.result.now (c.requires.flags ∙ sym c.flag_plane-selected.ensures.count)
    ∙ c.requires.flags

pub returns : goal.returns
returns c =
    c.in_ok-push-2.ensures.items
    ∙ ap (λ (ys : List FieldNumbers). ys ++ c.in_ok-put_flag.field-0 ∷ []) (c.in_ok-push.ensures.items ∙ ap (λ (ys : List FieldNumbers). ys ++ c.in_ok-put_where.field-0 ∷ []) c.in_ok-values.ensures.items)
    ∙ ap (λ (y : FieldNumbers). c.in_ok-put_where.field-0 ∷ y ∷ []) c.in_ok-put_flag.ensures
    ∙ ap (λ (y : FieldNumbers). y ∷ put_value c.args.order.now (Flag c.args.order.now.plan.set_no Overflow) (flag_value c.args.new.overflow) ∷ [])
    (c.in_ok-put_where.ensures
    ∙ ap (λ (bs : List Bool). put_value_where c.args.order.now (λ v. slice_index_or bs v false) (Field c.args.to.now.field) c.args.new.value) c.in_ok-divided.ensures
    ∙ put_without c.args.order.now (Field c.args.to.now.field) c.args.new.value c.args.new.overflow c.flag_plane-selected.result.now c.requires.flags c.flag_plane-selected.ensures.count c.flag_plane-selected.ensures.bits)
