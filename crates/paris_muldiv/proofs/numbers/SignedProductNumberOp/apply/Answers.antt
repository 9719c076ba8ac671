use Rattle.std.proofs.Common.{◌+◌, ◌*◌, ◌^◌, ◌∙◌, ap, arith, sym, cond, false, true, leb}
use Rattle.std.specs.Prelude.{unsigned_abs}
use Rattle.paris_model.specs.Store.{signed}
use Rattle.paris_muldiv.proofs.Signs.{alike_value, alike_overflow, unlike_value, unlike_overflow, alike_flags, unlike_flags}
use Rattle.paris_muldiv.proofs.numbers.SignedProductNumberOp.apply.Goals as goal

pub returns-then-is_negative-clause-value : goal.returns-then-is_negative-clause-value
returns-then-is_negative-clause-value c =
    alike_value 128 c.args.bits c.args.x c.args.y c.whole_product-low.result.0 c.whole_product-low.result.1 c.requires.narrow (omega arith)
    (c.whole_product-low.ensures ∙ ap (λ t. t * c.absolute-2.result) c.absolute.ensures ∙ ap (λ t. unsigned_abs (signed c.args.bits c.args.x) * t) c.absolute-2.ensures)
    (sym c.is_negative.ensures ∙ alike_flags _ _ c.if-is_negative.true ∙ c.is_negative-2.ensures)

pub returns-else-is_negative-clause-value : goal.returns-else-is_negative-clause-value
returns-else-is_negative-clause-value c =
    unlike_value 128 c.args.bits c.args.x c.args.y c.whole_product-low.result.0 c.wrapping_neg.result c.whole_product-low.result.1 c.requires.narrow
    (c.whole_product-low.ensures ∙ ap (λ t. t * c.absolute-2.result) c.absolute.ensures ∙ ap (λ t. unsigned_abs (signed c.args.bits c.args.x) * t) c.absolute-2.ensures)
    (sym c.is_negative.ensures ∙ unlike_flags _ _ c.if-is_negative.false ∙ ap (λ b. cond b false true) c.is_negative-2.ensures)
    c.wrapping_neg.ensures

pub returns-then-is_negative-clause-overflow : goal.returns-then-is_negative-clause-overflow
returns-then-is_negative-clause-overflow c =
    alike_overflow c.args.bits c.args.x c.args.y (c.whole_product-low.result.0 + 2 ^ 128 * c.whole_product-low.result.1) c.reaches.result
    (c.whole_product-low.ensures ∙ ap (λ t. t * c.absolute-2.result) c.absolute.ensures ∙ ap (λ t. unsigned_abs (signed c.args.bits c.args.x) * t) c.absolute-2.ensures)
    (sym c.is_negative.ensures ∙ alike_flags _ _ c.if-is_negative.true ∙ c.is_negative-2.ensures)
    (c.reaches.ensures ∙ ap (λ h. leb h (c.whole_product-low.result.0 + 2 ^ 128 * c.whole_product-low.result.1)) c.half-half.ensures.value)

pub returns-else-is_negative-clause-overflow : goal.returns-else-is_negative-clause-overflow
returns-else-is_negative-clause-overflow c =
    unlike_overflow c.args.bits c.args.x c.args.y (c.whole_product-low.result.0 + 2 ^ 128 * c.whole_product-low.result.1) c.reaches-else-is_negative.result
    (c.whole_product-low.ensures ∙ ap (λ t. t * c.absolute-2.result) c.absolute.ensures ∙ ap (λ t. unsigned_abs (signed c.args.bits c.args.x) * t) c.absolute-2.ensures)
    (sym c.is_negative.ensures ∙ unlike_flags _ _ c.if-is_negative.false ∙ ap (λ b. cond b false true) c.is_negative-2.ensures)
    (c.reaches-else-is_negative.ensures ∙ ap (λ h. leb (h + 1) (c.whole_product-low.result.0 + 2 ^ 128 * c.whole_product-low.result.1)) c.half-half.ensures.value)
