use Rattle.std.proofs.Common.{◌∙◌, ap}
use Rattle.paris_field.specs.Numbers.{number_at}
use Rattle.paris_field.proofs.Numbers.{zero_number}
use Rattle.paris_muldiv.proofs.planes.product_planes.Goals as goal

pub put_products-requires-clause-zeros : goal.put_products-requires-clause-zeros
put_products-requires-clause-zeros c = λ v. ap (λ ps. number_at ps v) (c.deref_mut.ensures.value ∙ c.in_ok-planes.ensures) ∙ zero_number _ c.args.vps v
