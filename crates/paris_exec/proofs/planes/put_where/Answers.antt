use Rattle.std.proofs.Common.{◌≡◌, ◌∙◌, ◌<◌, ap, sym, subst, refl, length, slice_index, slice_index_or, false}
use Rattle.paris_model.specs.Store.{stored}
use Rattle.paris_field.specs.Fields.{FieldNumbers}
use Rattle.paris_field.specs.Numbers.{number_at}
use Rattle.paris_exec.proofs.Operands.{ok_then}
use Rattle.paris_exec.proofs.Puts.{put_is}
use Rattle.paris_exec.proofs.planes.put_where.Goals as goal

pub returns-then-width : goal.returns-then-width
returns-then-width c =
    let wide : c.args.new.width ≡ c.input-old.result.now.width = sym c.width.ensures.value ∙ c.if-width.true ∙ c.width-2.ensures.value in
    ok_then _ _ c.keep_others.result (λ value is. put_is c.args.order.now c.args.key.now c.input-old.result.now c.args.new value (λ v. slice_index_or c.args.mask.now v false) (slice_index c.args.new.numbers) c.input-old.ensures.value c.input-old.ensures.count (λ v below. refl)
    (ap (λ (y : FieldNumbers). y.width) is)
    (ap (λ (y : FieldNumbers). y.numbers) is ∙ ap (λ w. stored (length c.input-old.result.now.numbers) (λ v. slice_index_or c.args.mask.now v false) (slice_index c.input-old.result.now.numbers) w (slice_index c.args.new.numbers)) (sym wide))) c.keep_others.ensures

pub returns : goal.returns
returns c =
    let old : FieldNumbers = c.input-old.result.now in
    put_is c.args.order.now c.args.key.now old c.args.new c.in_ok-value.value (λ v. slice_index_or c.args.mask.now v false) (number_at c.planes.result.now) c.input-old.ensures.value c.input-old.ensures.count
    (λ v below. c.planes.ensures.at v (subst (λ n. v < n) (sym c.requires.count) below))
    c.in_ok-value.ensures.width
    (c.in_ok-value.ensures.numbers ∙ ap (λ w. stored (length old.numbers) (λ v. slice_index_or c.args.mask.now v false) (slice_index old.numbers) w (number_at c.planes.result.now)) c.width-3.ensures.value)
