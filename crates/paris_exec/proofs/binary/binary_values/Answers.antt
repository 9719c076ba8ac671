use Rattle.std.proofs.Common.{◌≤◌, ◌∙◌, sym, subst, length, slice_index}
use Rattle.paris_names.specs.declared.keys.FlagName.TheVariants.{Carry}
use Rattle.paris_names.specs.declared.keys.Key.TheVariants.{Field, Flag}
use Rattle.paris_model.specs.Instructions.{key_width}
use Rattle.paris_field.specs.Fields.{FieldNumbers}
use Rattle.paris_exec.specs.declared.binary.Made.{Made}
use Rattle.paris_exec.specs.declared.binary.Made.TheVariants.{Sum, Product, Quotient, Plain}
use Rattle.paris_exec.specs.Made.{IsMade}
use Rattle.paris_exec.specs.Tasks.{seen_at}
use Rattle.paris_exec.proofs.Left.{sum_left, product_left, quotient_left, flagless_left}
use Rattle.paris_exec.proofs.Operands.{ok_then, value_wide, numbers_count, bits_count, left_read, right_read, carry_read, sum_read, product_read, flagless_read, binary_to, binary_left, binary_right}
use Rattle.paris_exec.proofs.binary.binary_values.Goals as goal

pub input-x-requires : goal.input-x-requires
input-x-requires c = left_read c.args.order.now c.args.operator c.args.to.now c.args.left.now c.args.right.now c.args.bits c.requires.acts

pub input-y-requires : goal.input-y-requires
input-y-requires c = right_read c.args.order.now c.args.operator c.args.to.now c.args.left.now c.args.right.now c.args.bits c.requires.acts

pub made_of-requires-clause-x_width : goal.made_of-requires-clause-x_width
made_of-requires-clause-x_width c =
    value_wide c.args.order.now (Field c.args.left.now.field) c.input-x.result.now c.args.bits c.input-x.ensures.value
    (binary_left c.args.order.now c.args.operator c.args.to.now c.args.left.now c.args.right.now c.args.bits c.requires.acts c.requires.fit)

pub made_of-requires-clause-y_width : goal.made_of-requires-clause-y_width
made_of-requires-clause-y_width c =
    value_wide c.args.order.now (Field c.args.right.now.field) c.input-y.result.now c.args.bits c.input-y.ensures.value
    (binary_right c.args.order.now c.args.operator c.args.to.now c.args.left.now c.args.right.now c.args.bits c.requires.acts c.requires.fit)

pub made_of-requires-clause-carry : goal.made_of-requires-clause-carry
made_of-requires-clause-carry c = carry_read c.args.order.now c.args.operator c.args.to.now c.args.left.now c.args.right.now c.args.bits c.requires.acts

pub put_sum-requires-clause-read : goal.put_sum-requires-clause-read
put_sum-requires-clause-read c =
    let made : IsMade c.args.operator c.args.bits c.input-x.result.now c.input-y.result.now (slice_index (seen_at c.args.order.now (Flag c.args.order.now.plan.set_no Carry))) (Sum c.in-Sum.sum) = subst (λ (m : Made). IsMade c.args.operator c.args.bits c.input-x.result.now c.input-y.result.now (slice_index (seen_at c.args.order.now (Flag c.args.order.now.plan.set_no Carry))) m) c.in-Sum.is c.in_ok-sum.ensures in
    sum_read c.args.order.now c.args.operator c.args.to.now c.args.left.now c.args.right.now c.args.bits c.requires.acts made.0

pub put_sum-requires-clause-fits_key : goal.put_sum-requires-clause-fits_key
put_sum-requires-clause-fits_key c =
    let made : IsMade c.args.operator c.args.bits c.input-x.result.now c.input-y.result.now (slice_index (seen_at c.args.order.now (Flag c.args.order.now.plan.set_no Carry))) (Sum c.in-Sum.sum) = subst (λ (m : Made). IsMade c.args.operator c.args.bits c.input-x.result.now c.input-y.result.now (slice_index (seen_at c.args.order.now (Flag c.args.order.now.plan.set_no Carry))) m) c.in-Sum.is c.in_ok-sum.ensures in
    subst (λ (y : FieldNumbers). y.width ≤ key_width c.args.order.now.plan (Field c.args.to.now.field)) (sym made.2) (binary_to c.args.order.now c.args.operator c.args.to.now c.args.left.now c.args.right.now c.args.bits c.requires.acts c.requires.fit)

pub put_sum-requires-clause-count : goal.put_sum-requires-clause-count
put_sum-requires-clause-count c =
    let made : IsMade c.args.operator c.args.bits c.input-x.result.now c.input-y.result.now (slice_index (seen_at c.args.order.now (Flag c.args.order.now.plan.set_no Carry))) (Sum c.in-Sum.sum) = subst (λ (m : Made). IsMade c.args.operator c.args.bits c.input-x.result.now c.input-y.result.now (slice_index (seen_at c.args.order.now (Flag c.args.order.now.plan.set_no Carry))) m) c.in-Sum.is c.in_ok-sum.ensures in
    numbers_count c.in-Sum.sum.value c.args.bits (length c.input-x.result.now.numbers) _ _ made.2 c.input-x.ensures.count

pub put_sum-requires-clause-carries : goal.put_sum-requires-clause-carries
put_sum-requires-clause-carries c =
    let made : IsMade c.args.operator c.args.bits c.input-x.result.now c.input-y.result.now (slice_index (seen_at c.args.order.now (Flag c.args.order.now.plan.set_no Carry))) (Sum c.in-Sum.sum) = subst (λ (m : Made). IsMade c.args.operator c.args.bits c.input-x.result.now c.input-y.result.now (slice_index (seen_at c.args.order.now (Flag c.args.order.now.plan.set_no Carry))) m) c.in-Sum.is c.in_ok-sum.ensures in
    bits_count c.in-Sum.sum.carry (length c.input-x.result.now.numbers) _ _ made.3 c.input-x.ensures.count

pub put_sum-requires-clause-overflows : goal.put_sum-requires-clause-overflows
put_sum-requires-clause-overflows c =
    let made : IsMade c.args.operator c.args.bits c.input-x.result.now c.input-y.result.now (slice_index (seen_at c.args.order.now (Flag c.args.order.now.plan.set_no Carry))) (Sum c.in-Sum.sum) = subst (λ (m : Made). IsMade c.args.operator c.args.bits c.input-x.result.now c.input-y.result.now (slice_index (seen_at c.args.order.now (Flag c.args.order.now.plan.set_no Carry))) m) c.in-Sum.is c.in_ok-sum.ensures in
    bits_count c.in-Sum.sum.overflow (length c.input-x.result.now.numbers) _ _ made.4 c.input-x.ensures.count

pub returns-in-Sum : goal.returns-in-Sum
returns-in-Sum c =
    let made : IsMade c.args.operator c.args.bits c.input-x.result.now c.input-y.result.now (slice_index (seen_at c.args.order.now (Flag c.args.order.now.plan.set_no Carry))) (Sum c.in-Sum.sum) = subst (λ (m : Made). IsMade c.args.operator c.args.bits c.input-x.result.now c.input-y.result.now (slice_index (seen_at c.args.order.now (Flag c.args.order.now.plan.set_no Carry))) m) c.in-Sum.is c.in_ok-sum.ensures in
    ok_then _ _ c.put_sum.result (λ values is. is ∙ sum_left c.args.order.now c.args.operator c.args.to.now c.args.left.now c.args.right.now c.args.bits c.requires.acts c.input-x.result.now c.input-y.result.now c.input-x.ensures.value c.input-y.ensures.value c.input-x.ensures.count c.in-Sum.sum.value c.in-Sum.sum.carry c.in-Sum.sum.overflow made.0 made.1 made.2 made.3 made.4) c.put_sum.ensures

pub put_overflowing-requires-clause-read : goal.put_overflowing-requires-clause-read
put_overflowing-requires-clause-read c =
    let made : IsMade c.args.operator c.args.bits c.input-x.result.now c.input-y.result.now (slice_index (seen_at c.args.order.now (Flag c.args.order.now.plan.set_no Carry))) (Product c.in-Product.product) = subst (λ (m : Made). IsMade c.args.operator c.args.bits c.input-x.result.now c.input-y.result.now (slice_index (seen_at c.args.order.now (Flag c.args.order.now.plan.set_no Carry))) m) c.in-Product.is c.in_ok-sum.ensures in
    product_read c.args.order.now c.args.operator c.args.to.now c.args.left.now c.args.right.now c.args.bits c.requires.acts made.0

pub put_overflowing-requires-clause-fits_key : goal.put_overflowing-requires-clause-fits_key
put_overflowing-requires-clause-fits_key c =
    let made : IsMade c.args.operator c.args.bits c.input-x.result.now c.input-y.result.now (slice_index (seen_at c.args.order.now (Flag c.args.order.now.plan.set_no Carry))) (Product c.in-Product.product) = subst (λ (m : Made). IsMade c.args.operator c.args.bits c.input-x.result.now c.input-y.result.now (slice_index (seen_at c.args.order.now (Flag c.args.order.now.plan.set_no Carry))) m) c.in-Product.is c.in_ok-sum.ensures in
    subst (λ (y : FieldNumbers). y.width ≤ key_width c.args.order.now.plan (Field c.args.to.now.field)) (sym made.2) (binary_to c.args.order.now c.args.operator c.args.to.now c.args.left.now c.args.right.now c.args.bits c.requires.acts c.requires.fit)

pub put_overflowing-requires-clause-count : goal.put_overflowing-requires-clause-count
put_overflowing-requires-clause-count c =
    let made : IsMade c.args.operator c.args.bits c.input-x.result.now c.input-y.result.now (slice_index (seen_at c.args.order.now (Flag c.args.order.now.plan.set_no Carry))) (Product c.in-Product.product) = subst (λ (m : Made). IsMade c.args.operator c.args.bits c.input-x.result.now c.input-y.result.now (slice_index (seen_at c.args.order.now (Flag c.args.order.now.plan.set_no Carry))) m) c.in-Product.is c.in_ok-sum.ensures in
    numbers_count c.in-Product.product.value c.args.bits (length c.input-x.result.now.numbers) _ _ made.2 c.input-x.ensures.count

pub put_overflowing-requires-clause-flags : goal.put_overflowing-requires-clause-flags
put_overflowing-requires-clause-flags c =
    let made : IsMade c.args.operator c.args.bits c.input-x.result.now c.input-y.result.now (slice_index (seen_at c.args.order.now (Flag c.args.order.now.plan.set_no Carry))) (Product c.in-Product.product) = subst (λ (m : Made). IsMade c.args.operator c.args.bits c.input-x.result.now c.input-y.result.now (slice_index (seen_at c.args.order.now (Flag c.args.order.now.plan.set_no Carry))) m) c.in-Product.is c.in_ok-sum.ensures in
    bits_count c.in-Product.product.overflow (length c.input-x.result.now.numbers) _ _ made.3 c.input-x.ensures.count

pub returns-in-Product : goal.returns-in-Product
returns-in-Product c =
    let made : IsMade c.args.operator c.args.bits c.input-x.result.now c.input-y.result.now (slice_index (seen_at c.args.order.now (Flag c.args.order.now.plan.set_no Carry))) (Product c.in-Product.product) = subst (λ (m : Made). IsMade c.args.operator c.args.bits c.input-x.result.now c.input-y.result.now (slice_index (seen_at c.args.order.now (Flag c.args.order.now.plan.set_no Carry))) m) c.in-Product.is c.in_ok-sum.ensures in
    ok_then _ _ c.put_overflowing.result (λ values is. is ∙ product_left c.args.order.now c.args.operator c.args.to.now c.args.left.now c.args.right.now c.args.bits c.requires.acts c.input-x.result.now c.input-y.result.now c.input-x.ensures.value c.input-y.ensures.value c.input-x.ensures.count c.in-Product.product.value c.in-Product.product.overflow made.0 made.1 made.2 made.3) c.put_overflowing.ensures

pub put_quotient-requires-clause-read : goal.put_quotient-requires-clause-read
put_quotient-requires-clause-read c =
    let made : IsMade c.args.operator c.args.bits c.input-x.result.now c.input-y.result.now (slice_index (seen_at c.args.order.now (Flag c.args.order.now.plan.set_no Carry))) (Quotient c.in-Quotient.quotient) = subst (λ (m : Made). IsMade c.args.operator c.args.bits c.input-x.result.now c.input-y.result.now (slice_index (seen_at c.args.order.now (Flag c.args.order.now.plan.set_no Carry))) m) c.in-Quotient.is c.in_ok-sum.ensures in
    product_read c.args.order.now c.args.operator c.args.to.now c.args.left.now c.args.right.now c.args.bits c.requires.acts made.0

pub put_quotient-requires-clause-fits_key : goal.put_quotient-requires-clause-fits_key
put_quotient-requires-clause-fits_key c =
    let made : IsMade c.args.operator c.args.bits c.input-x.result.now c.input-y.result.now (slice_index (seen_at c.args.order.now (Flag c.args.order.now.plan.set_no Carry))) (Quotient c.in-Quotient.quotient) = subst (λ (m : Made). IsMade c.args.operator c.args.bits c.input-x.result.now c.input-y.result.now (slice_index (seen_at c.args.order.now (Flag c.args.order.now.plan.set_no Carry))) m) c.in-Quotient.is c.in_ok-sum.ensures in
    subst (λ (y : FieldNumbers). y.width ≤ key_width c.args.order.now.plan (Field c.args.to.now.field)) (sym made.2) (binary_to c.args.order.now c.args.operator c.args.to.now c.args.left.now c.args.right.now c.args.bits c.requires.acts c.requires.fit)

pub put_quotient-requires-clause-count : goal.put_quotient-requires-clause-count
put_quotient-requires-clause-count c =
    let made : IsMade c.args.operator c.args.bits c.input-x.result.now c.input-y.result.now (slice_index (seen_at c.args.order.now (Flag c.args.order.now.plan.set_no Carry))) (Quotient c.in-Quotient.quotient) = subst (λ (m : Made). IsMade c.args.operator c.args.bits c.input-x.result.now c.input-y.result.now (slice_index (seen_at c.args.order.now (Flag c.args.order.now.plan.set_no Carry))) m) c.in-Quotient.is c.in_ok-sum.ensures in
    numbers_count c.in-Quotient.quotient.value c.args.bits (length c.input-x.result.now.numbers) _ _ made.2 c.input-x.ensures.count

pub put_quotient-requires-clause-flags : goal.put_quotient-requires-clause-flags
put_quotient-requires-clause-flags c =
    let made : IsMade c.args.operator c.args.bits c.input-x.result.now c.input-y.result.now (slice_index (seen_at c.args.order.now (Flag c.args.order.now.plan.set_no Carry))) (Quotient c.in-Quotient.quotient) = subst (λ (m : Made). IsMade c.args.operator c.args.bits c.input-x.result.now c.input-y.result.now (slice_index (seen_at c.args.order.now (Flag c.args.order.now.plan.set_no Carry))) m) c.in-Quotient.is c.in_ok-sum.ensures in
    bits_count c.in-Quotient.quotient.overflow (length c.input-x.result.now.numbers) _ _ made.3 c.input-x.ensures.count

pub returns-in-Quotient : goal.returns-in-Quotient
returns-in-Quotient c =
    let made : IsMade c.args.operator c.args.bits c.input-x.result.now c.input-y.result.now (slice_index (seen_at c.args.order.now (Flag c.args.order.now.plan.set_no Carry))) (Quotient c.in-Quotient.quotient) = subst (λ (m : Made). IsMade c.args.operator c.args.bits c.input-x.result.now c.input-y.result.now (slice_index (seen_at c.args.order.now (Flag c.args.order.now.plan.set_no Carry))) m) c.in-Quotient.is c.in_ok-sum.ensures in
    ok_then _ _ c.put_quotient.result (λ values is. is ∙ quotient_left c.args.order.now c.args.operator c.args.to.now c.args.left.now c.args.right.now c.args.bits c.requires.acts c.input-x.result.now c.input-y.result.now c.input-x.ensures.value c.input-y.ensures.value c.input-x.ensures.count c.in-Quotient.quotient.value c.in-Quotient.quotient.overflow made.0 made.1 made.2 made.3) c.put_quotient.ensures

pub put_field-requires-clause-read : goal.put_field-requires-clause-read
put_field-requires-clause-read c = flagless_read c.args.order.now c.args.operator c.args.to.now c.args.left.now c.args.right.now c.args.bits c.requires.acts

pub put_field-requires-clause-fits_key : goal.put_field-requires-clause-fits_key
put_field-requires-clause-fits_key c =
    let made : IsMade c.args.operator c.args.bits c.input-x.result.now c.input-y.result.now (slice_index (seen_at c.args.order.now (Flag c.args.order.now.plan.set_no Carry))) (Plain c.in-Plain.value) = subst (λ (m : Made). IsMade c.args.operator c.args.bits c.input-x.result.now c.input-y.result.now (slice_index (seen_at c.args.order.now (Flag c.args.order.now.plan.set_no Carry))) m) c.in-Plain.is c.in_ok-sum.ensures in
    subst (λ (y : FieldNumbers). y.width ≤ key_width c.args.order.now.plan (Field c.args.to.now.field)) (sym made.2) (binary_to c.args.order.now c.args.operator c.args.to.now c.args.left.now c.args.right.now c.args.bits c.requires.acts c.requires.fit)

pub put_field-requires-clause-count : goal.put_field-requires-clause-count
put_field-requires-clause-count c =
    let made : IsMade c.args.operator c.args.bits c.input-x.result.now c.input-y.result.now (slice_index (seen_at c.args.order.now (Flag c.args.order.now.plan.set_no Carry))) (Plain c.in-Plain.value) = subst (λ (m : Made). IsMade c.args.operator c.args.bits c.input-x.result.now c.input-y.result.now (slice_index (seen_at c.args.order.now (Flag c.args.order.now.plan.set_no Carry))) m) c.in-Plain.is c.in_ok-sum.ensures in
    numbers_count c.in-Plain.value c.args.bits (length c.input-x.result.now.numbers) _ _ made.2 c.input-x.ensures.count

pub returns-in-Plain : goal.returns-in-Plain
returns-in-Plain c =
    let made : IsMade c.args.operator c.args.bits c.input-x.result.now c.input-y.result.now (slice_index (seen_at c.args.order.now (Flag c.args.order.now.plan.set_no Carry))) (Plain c.in-Plain.value) = subst (λ (m : Made). IsMade c.args.operator c.args.bits c.input-x.result.now c.input-y.result.now (slice_index (seen_at c.args.order.now (Flag c.args.order.now.plan.set_no Carry))) m) c.in-Plain.is c.in_ok-sum.ensures in
    ok_then _ _ c.put_field.result (λ values is. is ∙ flagless_left c.args.order.now c.args.operator c.args.to.now c.args.left.now c.args.right.now c.args.bits c.requires.acts c.input-x.result.now c.input-y.result.now c.input-x.ensures.value c.input-y.ensures.value c.input-x.ensures.count c.in-Plain.value made.0 made.1 made.2) c.put_field.ensures
