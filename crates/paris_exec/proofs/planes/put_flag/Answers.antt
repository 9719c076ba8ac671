use Rattle.std.proofs.Common.{◌≡◌, ◌∙◌, ap, sym, refl, true, length}
use Rattle.paris_names.specs.declared.keys.Key.TheVariants.{Flag}
use Rattle.paris_layer.proofs.AllSame.{all_chosen}
use Rattle.paris_exec.specs.Planes.{flag_value}
use Rattle.paris_exec.proofs.Executed.{flag_width}
use Rattle.paris_exec.proofs.Operands.{ok_then}
use Rattle.paris_exec.proofs.Puts.{put_flag_is}
use Rattle.paris_exec.proofs.planes.put_flag.Goals as goal

pub returns-then-is_all : goal.returns-then-is_all
returns-then-is_all c =
    let on : length c.flag_plane-old.result.now ≡ length c.args.new = c.flag_plane-old.ensures.count ∙ sym c.requires.count in
    let om : length c.flag_plane-old.result.now ≡ length c.flag_plane-selected.result.now = c.flag_plane-old.ensures.count ∙ sym c.flag_plane-selected.ensures.count in
    ok_then _ _ c.from_layer.result (λ value is.
    is
    ∙ ap flag_value (all_chosen c.flag_plane-old.result.now c.args.new c.flag_plane-selected.result.now true (length c.flag_plane-selected.result.now) (sym (c.is_all.ensures.0 c.if-is_all.true)) refl on om)
    ∙ put_flag_is c.args.order.now (Flag c.args.order.now.plan.set_no c.args.flag.now) c.flag_plane-old.result.now c.args.new c.flag_plane-selected.result.now (flag_width c.args.order.now.plan c.args.order.now.plan.set_no c.args.flag.now) c.flag_plane-old.ensures.bits c.flag_plane-selected.ensures.bits c.flag_plane-old.ensures.count c.requires.count c.flag_plane-selected.ensures.count) c.from_layer.ensures

pub returns : goal.returns
returns c = ok_then _ _ c.from_layer-2.result (λ value is. is ∙ ap flag_value c.in_ok-bits.ensures ∙ put_flag_is c.args.order.now (Flag c.args.order.now.plan.set_no c.args.flag.now) c.flag_plane-old.result.now c.args.new c.flag_plane-selected.result.now (flag_width c.args.order.now.plan c.args.order.now.plan.set_no c.args.flag.now) c.flag_plane-old.ensures.bits c.flag_plane-selected.ensures.bits c.flag_plane-old.ensures.count c.requires.count c.flag_plane-selected.ensures.count) c.from_layer-2.ensures
