use Rattle.std.proofs.Common.{◌∙◌, refl, sym, ap, replicate, true, false, length, ◌∷◌, []}
use Rattle.std.proofs.lemmas.List.{length-map}
use Rattle.paris_names.specs.declared.keys.FlagName.TheVariants.{Context, Test}
use Rattle.paris_names.specs.declared.keys.Key.TheVariants.{Field, Flag}
use Rattle.paris_names.specs.Keys.{has_key, key_eq}
use Rattle.paris_geometry.specs.Geometry.{processor_count}
use Rattle.paris_model.specs.declared.actions.Action.TheVariants.{OnAll}
use Rattle.paris_model.specs.declared.actions.Unconditional.TheVariants.{InvertContext, LoadContext, AndContext, OrContext, AndContextWithTest, StoreContext}
use Rattle.paris_model.specs.Store.{bit}
use Rattle.paris_model.specs.Instructions.{Plan}
use Rattle.paris_model.proofs.Worlds.{or_true_second}
use Rattle.paris_field.specs.Fields.{FieldNumbers}
use Rattle.paris_flags.proofs.Lists.{not_beside}
use Rattle.paris_exec.proofs.Left.{first_key}
use Rattle.paris_exec.proofs.Operands.{ok_then}
use Rattle.paris_exec.proofs.InEvery.{all_source, bad_operand, one_bit_alone, set_left, clear_left, load_left, store_left, invert_left, and_left, or_left, and_test_left}
use Rattle.paris_exec.proofs.contexts.unconditional_values.Goals as goal

pub input-requires : goal.input-requires
input-requires c =
    all_source c.args.order.now (LoadContext c.in-LoadContext.from) (c.requires.acts ∙ ap OnAll c.in-LoadContext.is) (Field c.in-LoadContext.from.field) (first_key (Field c.in-LoadContext.from.field) [])

pub mask-requires : goal.mask-requires
mask-requires c =
    ap (λ (y : FieldNumbers). y.width) c.input.ensures.value ∙ one_bit_alone c.args.order.now (LoadContext c.in-LoadContext.from) (c.requires.acts ∙ ap OnAll c.in-LoadContext.is) c.in-LoadContext.from refl c.requires.fit (bad_operand c.args.order.now (LoadContext c.in-LoadContext.from) (c.requires.acts ∙ ap OnAll c.in-LoadContext.is) c.requires.fit)

pub flag_plane-requires : goal.flag_plane-requires
flag_plane-requires c =
    all_source c.args.order.now (StoreContext c.in-StoreContext.field-0) (c.requires.acts ∙ ap OnAll c.in-StoreContext.is) (Flag c.args.order.now.plan.set_no Context) (first_key (Flag c.args.order.now.plan.set_no Context) [])

pub flag_plane-bits-requires : goal.flag_plane-bits-requires
flag_plane-bits-requires c =
    all_source c.args.order.now (InvertContext c.in-InvertContext.field-0) (c.requires.acts ∙ ap OnAll c.in-InvertContext.is) (Flag c.args.order.now.plan.set_no Context) (first_key (Flag c.args.order.now.plan.set_no Context) [])

pub flag_plane-bits-requires-in-AndContext : goal.flag_plane-bits-requires-in-AndContext
flag_plane-bits-requires-in-AndContext c =
    all_source c.args.order.now (AndContext c.in-AndContext.from) (c.requires.acts ∙ ap OnAll c.in-AndContext.is) (Flag c.args.order.now.plan.set_no Context) (first_key (Flag c.args.order.now.plan.set_no Context) [])

pub input-requires-in-AndContext : goal.input-requires-in-AndContext
input-requires-in-AndContext c =
    all_source c.args.order.now (AndContext c.in-AndContext.from) (c.requires.acts ∙ ap OnAll c.in-AndContext.is) (Field c.in-AndContext.from.field) (first_key (Field c.in-AndContext.from.field) ((Flag c.args.order.now.plan.set_no Context) ∷ []))

pub mask-operand-requires : goal.mask-operand-requires
mask-operand-requires c =
    ap (λ (y : FieldNumbers). y.width) c.input-in-AndContext.ensures.value ∙ one_bit_alone c.args.order.now (AndContext c.in-AndContext.from) (c.requires.acts ∙ ap OnAll c.in-AndContext.is) c.in-AndContext.from refl c.requires.fit (bad_operand c.args.order.now (AndContext c.in-AndContext.from) (c.requires.acts ∙ ap OnAll c.in-AndContext.is) c.requires.fit)

pub flag_plane-bits-requires-in-OrContext : goal.flag_plane-bits-requires-in-OrContext
flag_plane-bits-requires-in-OrContext c =
    all_source c.args.order.now (OrContext c.in-OrContext.from) (c.requires.acts ∙ ap OnAll c.in-OrContext.is) (Flag c.args.order.now.plan.set_no Context) (first_key (Flag c.args.order.now.plan.set_no Context) [])

pub input-requires-in-OrContext : goal.input-requires-in-OrContext
input-requires-in-OrContext c =
    all_source c.args.order.now (OrContext c.in-OrContext.from) (c.requires.acts ∙ ap OnAll c.in-OrContext.is) (Field c.in-OrContext.from.field) (first_key (Field c.in-OrContext.from.field) ((Flag c.args.order.now.plan.set_no Context) ∷ []))

pub mask-operand-requires-in-OrContext : goal.mask-operand-requires-in-OrContext
mask-operand-requires-in-OrContext c =
    ap (λ (y : FieldNumbers). y.width) c.input-in-OrContext.ensures.value ∙ one_bit_alone c.args.order.now (OrContext c.in-OrContext.from) (c.requires.acts ∙ ap OnAll c.in-OrContext.is) c.in-OrContext.from refl c.requires.fit (bad_operand c.args.order.now (OrContext c.in-OrContext.from) (c.requires.acts ∙ ap OnAll c.in-OrContext.is) c.requires.fit)

pub flag_plane-bits-requires-in-AndContextWithTest : goal.flag_plane-bits-requires-in-AndContextWithTest
flag_plane-bits-requires-in-AndContextWithTest c =
    all_source c.args.order.now (AndContextWithTest c.in-AndContextWithTest.field-0) (c.requires.acts ∙ ap OnAll c.in-AndContextWithTest.is) (Flag c.args.order.now.plan.set_no Context) (first_key (Flag c.args.order.now.plan.set_no Context) ((Flag c.args.order.now.plan.set_no Test) ∷ []))

pub flag_plane-operand-requires : goal.flag_plane-operand-requires
flag_plane-operand-requires c =
    all_source c.args.order.now (AndContextWithTest c.in-AndContextWithTest.field-0) (c.requires.acts ∙ ap OnAll c.in-AndContextWithTest.is) (Flag c.args.order.now.plan.set_no Test) (or_true_second (key_eq (Flag c.args.order.now.plan.set_no Test) (Flag c.args.order.now.plan.set_no Context)) (has_key ((Flag c.args.order.now.plan.set_no Test) ∷ []) (Flag c.args.order.now.plan.set_no Test)) (first_key (Flag c.args.order.now.plan.set_no Test) []))

pub returns-in-SetContext : goal.returns-in-SetContext
returns-in-SetContext c =
    ok_then _ _ c.bits_alone.result (λ values is. is ∙ set_left c.args.order.now c.in-SetContext.field-0 (c.requires.acts ∙ ap OnAll c.in-SetContext.is) c.filled.result (c.filled.ensures ∙ ap (λ n. replicate n true) (c.vps-vps.ensures.value ∙ ap processor_count (c.geometry.ensures ∙ ap (λ (p : Plan). p.axes) c.plan.ensures)))) c.bits_alone.ensures

pub returns-in-ClearContext : goal.returns-in-ClearContext
returns-in-ClearContext c =
    ok_then _ _ c.bits_alone-in-ClearContext.result (λ values is. is ∙ clear_left c.args.order.now c.in-ClearContext.field-0 (c.requires.acts ∙ ap OnAll c.in-ClearContext.is) c.filled-in-ClearContext.result (c.filled-in-ClearContext.ensures ∙ ap (λ n. replicate n false) (c.vps-vps.ensures.value ∙ ap processor_count (c.geometry.ensures ∙ ap (λ (p : Plan). p.axes) c.plan.ensures)))) c.bits_alone-in-ClearContext.ensures

pub returns-in_ok-bits-in-LoadContext : goal.returns-in_ok-bits-in-LoadContext
returns-in_ok-bits-in-LoadContext c =
    ok_then _ _ c.bits_alone-in-LoadContext.result (λ values is. is ∙ load_left c.args.order.now c.in-LoadContext.from (c.requires.acts ∙ ap OnAll c.in-LoadContext.is) c.input.result.now c.in_ok-bits-in-LoadContext.bits c.input.ensures.value c.input.ensures.count (rw c.in_ok-bits-in-LoadContext.ensures c.mask.ensures)) c.bits_alone-in-LoadContext.ensures

pub returns-in_ok-copy-in-StoreContext : goal.returns-in_ok-copy-in-StoreContext
returns-in_ok-copy-in-StoreContext c =
    ok_then _ _ c.bits_alone-in-StoreContext.result (λ values is. is ∙ store_left c.args.order.now c.flag_plane.result.now c.flag_plane.ensures.bits c.flag_plane.ensures.count c.in-StoreContext.field-0 (c.requires.acts ∙ ap OnAll c.in-StoreContext.is) (one_bit_alone c.args.order.now (StoreContext c.in-StoreContext.field-0) (c.requires.acts ∙ ap OnAll c.in-StoreContext.is) c.in-StoreContext.field-0 refl c.requires.fit (bad_operand c.args.order.now (StoreContext c.in-StoreContext.field-0) (c.requires.acts ∙ ap OnAll c.in-StoreContext.is) c.requires.fit)) c.in_ok-copy-in-StoreContext.field-0 c.in_ok-copy-in-StoreContext.ensures) c.bits_alone-in-StoreContext.ensures

pub stepped-requires-in-AndContext : goal.stepped-requires-in-AndContext
stepped-requires-in-AndContext c = c.flag_plane-bits-in-AndContext.ensures.count ∙ sym (sym (length-map c.mask-operand.result.now bit) ∙ ap length c.mask-operand.ensures ∙ c.input-in-AndContext.ensures.count)

pub returns-in-InvertContext : goal.returns-in-InvertContext
returns-in-InvertContext c =
    ok_then _ _ c.stepped.result (λ values is. is ∙ invert_left c.args.order.now c.flag_plane-bits.result.now c.flag_plane-bits.ensures.bits c.flag_plane-bits.ensures.count c.in-InvertContext.field-0 (c.requires.acts ∙ ap OnAll c.in-InvertContext.is) _ (sym (not_beside c.flag_plane-bits.result.now c.flag_plane-bits.result.now refl))) c.stepped.ensures

pub returns-in-AndContext : goal.returns-in-AndContext
returns-in-AndContext c =
    ok_then _ _ c.stepped-in-AndContext.result (λ values is. is ∙ and_left c.args.order.now c.flag_plane-bits-in-AndContext.result.now c.flag_plane-bits-in-AndContext.ensures.bits c.flag_plane-bits-in-AndContext.ensures.count c.mask-operand.result.now (sym (length-map c.mask-operand.result.now bit) ∙ ap length c.mask-operand.ensures ∙ c.input-in-AndContext.ensures.count) c.in-AndContext.from (c.requires.acts ∙ ap OnAll c.in-AndContext.is) _ (c.mask-operand.ensures ∙ ap (λ (y : FieldNumbers). y.numbers) c.input-in-AndContext.ensures.value) refl) c.stepped-in-AndContext.ensures

pub returns-in-OrContext : goal.returns-in-OrContext
returns-in-OrContext c =
    ok_then _ _ c.stepped-in-OrContext.result (λ values is. is ∙ or_left c.args.order.now c.flag_plane-bits-in-OrContext.result.now c.flag_plane-bits-in-OrContext.ensures.bits c.flag_plane-bits-in-OrContext.ensures.count c.mask-operand-in-OrContext.result.now (sym (length-map c.mask-operand-in-OrContext.result.now bit) ∙ ap length c.mask-operand-in-OrContext.ensures ∙ c.input-in-OrContext.ensures.count) c.in-OrContext.from (c.requires.acts ∙ ap OnAll c.in-OrContext.is) _ (c.mask-operand-in-OrContext.ensures ∙ ap (λ (y : FieldNumbers). y.numbers) c.input-in-OrContext.ensures.value) refl) c.stepped-in-OrContext.ensures

pub returns-in-AndContextWithTest : goal.returns-in-AndContextWithTest
returns-in-AndContextWithTest c =
    ok_then _ _ c.stepped-in-AndContextWithTest.result (λ values is. is ∙ and_test_left c.args.order.now c.flag_plane-bits-in-AndContextWithTest.result.now c.flag_plane-bits-in-AndContextWithTest.ensures.bits c.flag_plane-bits-in-AndContextWithTest.ensures.count c.flag_plane-operand.result.now c.flag_plane-operand.ensures.count c.in-AndContextWithTest.field-0 (c.requires.acts ∙ ap OnAll c.in-AndContextWithTest.is) _ c.flag_plane-operand.ensures.bits refl) c.stepped-in-AndContextWithTest.ensures
